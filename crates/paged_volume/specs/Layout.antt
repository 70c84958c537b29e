-- Where the parts of a volume lie in the bytes of its file. A page is named by its number, the place of its first byte divided by 4,096.
use Rattle.std.specs.Prelude.{ℕ, ◌+◌, ◌-◌, ◌*◌, ◌/◌, ◌%◌, Bool, List, nat_eq, if◌then◌else◌}
use Rattle.volume_parts.specs.Layout.{number_at, root_at}

-- the most pages of a volume of this format, 1 or 2
abbrev pub most_pages_of : ℕ → ℕ
most_pages_of format = if nat_eq format 1 then 131072 else 1048576

-- a volume of fewer pages has no index page
abbrev pub least_indexed : ℕ
least_indexed = 88

-- how many logical pages there can be, of all the pages
unfoldable pub capacity_pages : ℕ → ℕ
capacity_pages pages = (pages - 4) * 10 / 21

-- the words that can be used
abbrev pub capacity_of : ℕ → ℕ
capacity_of pages = 512 * capacity_pages pages

-- the map pages of so many logical pages
abbrev pub map_pages_of : ℕ → ℕ
map_pages_of logical = (logical + 1023) / 1024

-- the depth that a root page says: 1 where an index page names the map pages, 0 where the root page does
abbrev pub depth_at : Bool → List ℕ → ℕ
depth_at second image = number_at (root_at second + 4092) 4 image

-- where the numbers of the map pages begin, with this index page
unfoldable pub maps_at : Bool → ℕ → ℕ → ℕ
maps_at second depth index = if nat_eq depth 0 then root_at second + 28 else 4096 * index

-- where the number of a logical page stands, in the map page that has it
abbrev pub in_map_page : ℕ → ℕ → ℕ
in_map_page map_page page = 4096 * map_page + 4 * (page % 1024)

-- the number of the index page, and the place and the number of a map page and of a logical page
abbrev pub index_number : Bool → List ℕ → ℕ
index_number second image = number_at (root_at second + 28) 4 image

unfoldable pub map_place : Bool → ℕ → List ℕ → ℕ → ℕ
map_place second depth image map_page = maps_at second depth (index_number second image) + 4 * map_page

unfoldable pub map_number : Bool → ℕ → List ℕ → ℕ → ℕ
map_number second depth image map_page = number_at (map_place second depth image map_page) 4 image

unfoldable pub page_place : Bool → ℕ → List ℕ → ℕ → ℕ
page_place second depth image page = in_map_page (map_number second depth image (page / 1024)) page

unfoldable pub page_number : Bool → ℕ → List ℕ → ℕ → ℕ
page_number second depth image page = number_at (page_place second depth image page) 4 image

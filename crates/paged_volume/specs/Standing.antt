-- What an attached volume knows of its file, and how it is seen from above.
use Rattle.std.specs.Prelude.{◌≡◌, ◌⊎◌, ℕ, ◌+◌, ◌-◌, ◌*◌, ◌/◌, ◌^◌, ◌<◌, ◌≤◌, Bool, true, false, ◌||◌, List, [], ◌++◌, length, replicate, slice_index, Option, Some, None}
use Rattle.ps_port.specs.ps_outside.Outside.{Outside, After}
use Rattle.page_map.specs.Pages.{is_free, names, one_names}
use Rattle.volume_parts.specs.Layout.{number_at, magic, gate, selects, root_at, pages_of_words}
use Rattle.volume_parts.specs.Holding.{Held, note_at}
use Rattle.volume_parts.specs.declared.note.Note.{Note}
use Rattle.paged_volume.specs.Layout.{most_pages_of, least_indexed, capacity_pages, capacity_of, map_pages_of, depth_at, maps_at, in_map_page, index_number}
use Rattle.paged_volume.specs.Found.{Found, a_volume, no_volume, damaged, found_in, numbers_of, unnamed, bytes_named}
use Rattle.paged_volume.specs.Pinning.{pin_of, pinned_list, IsPin}
use Rattle.paged_volume.specs.declared.committed.Committed.{Committed}
use Rattle.paged_volume.specs.declared.table.Table.{Table}

-- these numbers of page 0 pass the tests
pub record IsHeadFit (format pages : ℕ) : Type 0 where
  pub formats : (1 ≤ format) × (format ≤ 2)
  pub least : 32 ≤ pages
  pub most : pages ≤ most_pages_of format

-- this depth passes its test
pub record IsDepth (format pages depth : ℕ) : Type 0 where
  pub at_most_one : depth ≤ 1
  pub small : pages < least_indexed → depth ≡ 0
  pub large : least_indexed ≤ pages → format ≡ 2 → depth ≡ 1

-- these numbers pass the tests
pub record IsFit (committed : Committed) : Type 0 where
  pub head : IsHeadFit committed.format committed.pages
  pub some : 1 ≤ committed.note.used
  pub within : committed.note.used ≤ capacity_of committed.pages
  pub below : committed.note.directory < committed.note.used
  pub depth : IsDepth committed.format committed.pages committed.depth

-- page 0 passes its tests, and says this format and that there are so many pages
pub record HasHead (format pages : ℕ) (image : List ℕ) : Type 0 where
  pub long : 4096 * pages ≤ length image
  pub opened : gate image ≡ 1
  pub spelled : number_at 1 6 image ≡ magic
  pub format_is : number_at 7 1 image ≡ format
  pub pages_are : number_at 8 4 image ≡ pages

-- the root page that is selected says this
pub record HasRoot (second : Bool) (note : Note) (depth : ℕ) (image : List ℕ) : Type 0 where
  pub note_is : note_at (root_at second) image ≡ note
  pub logical : number_at (root_at second + 24) 4 image ≡ pages_of_words note.used
  pub depth_is : depth_at second image ≡ depth

-- The numbers that a table has of its pages: of the index page, where the depth is 1; of the map pages; and of the logical pages as they are
-- committed and as they are staged.
unfoldable pub index_of : List ℕ → ℕ → ℕ
index_of named i = slice_index named 0

unfoldable pub maps_of : List ℕ → ℕ → ℕ
maps_of named map_page = slice_index named (1 + map_page)

-- where the number of a logical page stands, by the numbers of the map pages
unfoldable pub place_by : List ℕ → ℕ → ℕ
place_by named page = in_map_page (maps_of named (page / 1024)) page

-- each of so many numbers, after others, names a page that none before it names
abbrev pub AreUnnamed : ℕ → List ℕ → (ℕ → ℕ) → ℕ → Type 0
AreUnnamed pages before number count = (i : ℕ) → i < count → is_free (unnamed pages (before ++ numbers_of number i)) (number i) ≡ true

-- the index page and the map pages, so many
abbrev pub map_names : ℕ → List ℕ → ℕ → List ℕ
map_names depth named count = numbers_of (index_of named) depth ++ numbers_of (maps_of named) count

-- the logical pages and the map pages that are committed
abbrev pub logical_of : Committed → ℕ
logical_of committed = pages_of_words committed.note.used

abbrev pub map_count : Committed → ℕ
map_count committed = map_pages_of (logical_of committed)

-- the numbers of the pages that are committed
abbrev pub numbers_of_table : Table → List ℕ
numbers_of_table table = map_names table.committed.depth table.named.items (map_count table.committed) ++ numbers_of (slice_index table.map.committed) (logical_of table.committed)

-- Of what is committed each page is named once; and past the logical pages none is named.
pub record IsNamedOnce (table : Table) : Type 0 where
  pub index : AreUnnamed table.committed.pages [] (index_of table.named.items) table.committed.depth
  pub maps : AreUnnamed table.committed.pages (numbers_of (index_of table.named.items) table.committed.depth) (maps_of table.named.items) (map_count table.committed)
  pub pages : AreUnnamed table.committed.pages (map_names table.committed.depth table.named.items (map_count table.committed)) (slice_index table.map.committed) (logical_of table.committed)
  pub bare : (page : ℕ) → logical_of table.committed ≤ page → slice_index table.map.committed page ≡ 0

-- A page that may be written: what is committed doesn't name it, and no pin does.
pub record IsSpare (table : Table) (page : ℕ) : Type 0 where
  pub unnamed_is : is_free (unnamed table.committed.pages (numbers_of_table table)) page ≡ true
  pub unpinned : one_names table.map.pins page ≡ false

-- A page that a pin holds: one from 4 on that there is, and none that names others.
pub record IsPinned (committed : Committed) (named : List ℕ) (page : ℕ) : Type 0 where
  pub low : 4 ≤ page
  pub high : page < committed.pages
  pub unmapped : names (map_names committed.depth named (map_count committed)) page ≡ false

-- the numbers past those of the index page and of the map pages are 0
pub record IsBare (committed : Committed) (named : List ℕ) : Type 0 where
  pub index : committed.depth ≡ 0 → slice_index named 0 ≡ 0
  pub maps : (map_page : ℕ) → map_count committed ≤ map_page → maps_of named map_page ≡ 0

-- whether a page is one of those that are committed, staged or pinned
abbrev pub uses : Table → ℕ → Bool
uses table page = names (numbers_of_table table) page || (names table.map.staged page || one_names table.map.pins page)

-- A table is in order: its lists are as long as its volume needs, what is committed is named once, a logical page is staged where it is
-- committed or in a page of its own that may be written, and exactly those pages from 4 on are free that aren't committed, staged or pinned.
pub record IsTable (table : Table) : Type 0 where
  pub fit : IsFit table.committed
  pub commits : table.committed.note.commits < 2 ^ 64
  pub logical : length table.map.committed ≡ capacity_pages table.committed.pages
  pub lists : length table.map.staged ≡ length table.map.committed
  pub pages : length table.map.free ≡ table.committed.pages
  pub names : length table.named.items ≡ 1 + map_pages_of (capacity_pages table.committed.pages)
  pub nexts : length table.next.items ≡ length table.named.items
  pub once : IsNamedOnce table
  pub bare : IsBare table.committed table.named.items
  pub held : (page : ℕ) → is_free table.map.free page ≡ true → IsSpare table page
  pub used : (page : ℕ) → 4 ≤ page → page < table.committed.pages → is_free table.map.free page ≡ false → uses table page ≡ true
  pub pinned : (page : ℕ) → 1 ≤ page → one_names table.map.pins page ≡ true → IsPinned table.committed table.named.items page
  pub pin_count : length table.pins.items ≡ length table.map.pins
  pub pins : (pin : ℕ) → pin < length table.map.pins → IsPin table (pinned_list table pin) (pin_of table pin)
  pub apart : (one other : ℕ) → one < length table.map.staged → other < length table.map.staged → slice_index table.map.staged one ≡ slice_index table.map.staged other →
      1 ≤ slice_index table.map.staged one → one ≡ other
  pub staged : (page : ℕ) → (slice_index table.map.staged page ≡ slice_index table.map.committed page) ⊎ IsSpare table (slice_index table.map.staged page)

-- the root page, the index page and the map pages say these numbers
pub record HasNames (committed : Committed) (named pages : List ℕ) (image : List ℕ) : Type 0 where
  pub index : (i : ℕ) → i < committed.depth → index_number committed.second image ≡ index_of named i
  pub maps : (map_page : ℕ) → map_page < map_count committed → number_at (maps_at committed.second committed.depth (slice_index named 0) + 4 * map_page) 4 image ≡ maps_of named map_page
  pub numbers : (page : ℕ) → page < logical_of committed → number_at (place_by named page) 4 image ≡ slice_index pages page

-- an image says what is committed
pub record Says (table : Table) (image : List ℕ) : Type 0 where
  pub head : HasHead table.committed.format table.committed.pages image
  pub selected : selects image ≡ table.committed.second
  pub root : HasRoot table.committed.second table.committed.note table.committed.depth image
  pub names : HasNames table.committed table.named.items table.map.committed image

-- what a file holds; None where no volume is found in it
abbrev pub held_of : Found → Option Held
held_of (a_volume pages second held) = Some held
held_of (no_volume size gate) = None
held_of (damaged damage) = None

unfoldable pub held_in : List ℕ → Option Held
held_in image = held_of (found_in image)

-- all pages as they are staged, and as they are committed
unfoldable pub staged_bytes : Table → List ℕ → List ℕ
staged_bytes table image = bytes_named (slice_index table.map.staged) (capacity_pages table.committed.pages) image

abbrev pub staged_in : Table → List ℕ → Held
staged_in table image = record { note = table.committed.note; bytes = staged_bytes table image }

abbrev pub committed_in : Table → List ℕ → Held
committed_in table image = record { note = table.committed.note; bytes = bytes_named (slice_index table.map.committed) (logical_of table.committed) image }

-- A volume as it is seen from above: an image is what is found in it, None where that is no volume; what is held is the committed note with
-- the bytes of all pages as they are staged.
abbrev pub seen : Table → Outside (List ℕ) → Outside (Option Held)
seen table outside = record {
  clock = outside.clock;
  told = outside.told;
  images = λ m found. After (outside.images m) (λ (x : List ℕ) (z : Option Held). held_in x ≡ z) found;
  contents = λ found. After outside.contents (λ (x : List ℕ) (z : Option Held). Some (staged_in table x) ≡ z) found;
  device_faults = outside.device_faults;
  output_faults = outside.output_faults;
  device_calls = outside.device_calls;
}

-- a volume that holds this, with zeros to its last page
abbrev pub with_zeros : ℕ → Held → Held
with_zeros pages held = record { note = held.note; bytes = held.bytes ++ replicate (4096 * capacity_pages pages - length held.bytes) 0 }

-- The calls of a volume may be made: it lives, its table is in order, and at present a crash leaves what is committed, whatever it leaves.
pub record IsAlive (lives : Bool) (table : Table) (outside : Outside (List ℕ)) : Type 0 where
  pub living : lives ≡ true
  pub is_table : IsTable table
  pub says : (image : List ℕ) → outside.images outside.clock image → Says table image

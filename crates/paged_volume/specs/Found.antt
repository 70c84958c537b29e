-- What is found in an image: a volume, with what stands in it; or why there is none, by the first of the tests that fails.
use Rattle.std.specs.Prelude.{ℕ, zero, suc, ◌+◌, ◌-◌, ◌*◌, ◌/◌, ◌%◌, Bool, not, ◌&&◌, List, [], ◌++◌, length, map, slice_index, nat_eq, nat_lt, Option, Some, None, if◌then◌else◌}
use Rattle.std.specs.List.{range_with_len}
use Rattle.std.specs.Option.{option_or}
use Rattle.page_map.specs.Pages.{is_free, free_where, may_be_free, names}
use Rattle.volume_parts.specs.Layout.{least_bytes, least_pages, magic, number_at, gate, selects, root_at, pages_of_words}
use Rattle.volume_parts.specs.Holding.{Held, note_at}
use Rattle.volume_parts.specs.declared.note.Note.{Note}
use Rattle.paged_volume.specs.Layout.{most_pages_of, least_indexed, capacity_of, map_pages_of, depth_at, index_number, map_place, map_number, page_place, page_number}
use Rattle.paged_volume.specs.declared.damage.Damage.{Damage}

pub data Found : Type 0 where
  a_volume : (pages : ℕ) (second : Bool) (held : Held) → Found
  no_volume : (size gate : ℕ) → Found
  damaged : (damage : Damage) → Found

-- a test that fails: where the number that it reads stands in the file, that number, and the bound that it breaks
abbrev pub damage : ℕ → ℕ → ℕ → Damage
damage at found wanted = record { at = at; found = found; wanted = wanted }

-- a number that has to be this one, or between two
abbrev pub wants_equal : ℕ → ℕ → ℕ → Option Damage
wants_equal at found wanted = if nat_eq found wanted then None else Some (damage at found wanted)

abbrev pub wants_between : ℕ → ℕ → ℕ → ℕ → Option Damage
wants_between at found low high =
    if nat_lt found low then Some (damage at found low) else (if nat_lt high found then Some (damage at found high) else None)

-- the pages that a file has to have
abbrev pub wants_pages : ℕ → ℕ → Option Damage
wants_pages present pages = if nat_lt present pages then Some (damage 8 present pages) else None

-- The depth is 0 in a volume of fewer than 88 pages. In a larger one it is 1; in one of format 1 it may be 0 as well.
abbrev pub wants_depth : ℕ → ℕ → ℕ → ℕ → Option Damage
wants_depth format pages at depth =
    if nat_lt pages least_indexed then wants_equal at depth 0 else (if nat_eq format 1 then wants_between at depth 0 1 else wants_equal at depth 1)

-- The tests of page 0, in their order, of which the first that fails is answered: the magic bytes, the format, the number of pages, and
-- that the file has as many; it may be longer.
unfoldable pub head_tests : ℕ → ℕ → ℕ → ℕ → Option Damage
head_tests spelled format pages present =
    option_or (wants_equal 1 spelled magic)
    (option_or (wants_between 7 format 1 2)
    (option_or (wants_between 8 pages least_pages (most_pages_of format))
    (wants_pages present pages)))

-- the tests of a root page: the used words, the number of logical pages, the directory, and the depth
unfoldable pub root_tests : ℕ → ℕ → ℕ → Note → ℕ → ℕ → Option Damage
root_tests format pages root note logical depth =
    option_or (wants_between (root + 8) note.used 1 (capacity_of pages))
    (option_or (wants_equal (root + 24) logical (pages_of_words note.used))
    (option_or (wants_between (root + 16) note.directory 0 (note.used - 1))
    (wants_depth format pages (root + 4092) depth)))

-- the first so many numbers
unfoldable pub numbers_of : (ℕ → ℕ) → ℕ → List ℕ
numbers_of number count = map number (range_with_len 0 count)

-- of so many pages those from 4 on that none of these numbers names
unfoldable pub unnamed : ℕ → List ℕ → List Bool
unnamed pages numbers = free_where pages (λ page. may_be_free page && not (names numbers page))

-- the bound that a number breaks: the least page that it may name, or the last one; 0 where its page is named already
abbrev pub bound_of : ℕ → ℕ → ℕ
bound_of pages number = if nat_lt number 4 then 4 else (if nat_lt number pages then 0 else pages - 1)

-- a number has to name a page that none of those before it names
unfoldable pub wants_unnamed : ℕ → List ℕ → ℕ → ℕ → Option Damage
wants_unnamed pages before at number = if is_free (unnamed pages before) number then None else Some (damage at number (bound_of pages number))

-- the first of so many tests that fails
unfoldable pub first_damage : (ℕ → Option Damage) → ℕ → Option Damage
first_damage test zero = None
first_damage test (suc count) = option_or (first_damage test count) (test count)

-- the tests of so many numbers that name pages, after others
unfoldable pub name_tests : ℕ → List ℕ → (ℕ → ℕ) → (ℕ → ℕ) → ℕ → Option Damage
name_tests pages before place number count = first_damage (λ i. wants_unnamed pages (before ++ numbers_of number i) (place i) (number i)) count

-- The tests of the numbers of the index page, the map pages and the logical pages: each names a page from 4 on, and each page is named once.
-- `depth` is how many index pages there are.
unfoldable pub names_tests : ℕ → Bool → ℕ → ℕ → List ℕ → Option Damage
names_tests pages second depth logical image =
    let index = numbers_of (λ i. index_number second image) depth in
    let maps = numbers_of (map_number second depth image) (map_pages_of logical) in
    option_or (name_tests pages [] (λ i. root_at second + 28) (λ i. index_number second image) depth)
    (option_or (name_tests pages index (map_place second depth image) (map_number second depth image) (map_pages_of logical))
    (name_tests pages (index ++ maps) (page_place second depth image) (page_number second depth image) logical))

abbrev pub head_damage : List ℕ → Option Damage
head_damage image = head_tests (number_at 1 6 image) (number_at 7 1 image) (number_at 8 4 image) (length image / 4096)

abbrev pub root_damage : ℕ → ℕ → Bool → List ℕ → Option Damage
root_damage format pages second image =
    root_tests format pages (root_at second) (note_at (root_at second) image) (number_at (root_at second + 24) 4 image) (depth_at second image)

-- byte k of pages with these numbers, one after the other; a page without a number is blank
unfoldable pub byte_named : (ℕ → ℕ) → List ℕ → ℕ → ℕ
byte_named number image k = if nat_eq (number (k / 4096)) 0 then 0 else slice_index image (4096 * number (k / 4096) + k % 4096)

unfoldable pub bytes_named : (ℕ → ℕ) → ℕ → List ℕ → List ℕ
bytes_named number count image = map (byte_named number image) (range_with_len 0 (4096 * count))

-- what stands in a volume: what its root page says, and the bytes of its logical pages
abbrev pub held_at : Bool → List ℕ → Held
held_at second image =
    let note = note_at (root_at second) image in
    record { note = note; bytes = bytes_named (page_number second (depth_at second image) image) (pages_of_words note.used) image }

abbrev pub after_names : ℕ → Bool → List ℕ → Option Damage → Found
after_names pages second image (Some damage) = damaged damage
after_names pages second image None = a_volume pages second (held_at second image)

abbrev pub after_root : ℕ → Bool → List ℕ → Option Damage → Found
after_root pages second image (Some damage) = damaged damage
after_root pages second image None =
    after_names pages second image (names_tests pages second (depth_at second image) (number_at (root_at second + 24) 4 image) image)

abbrev pub after_head : List ℕ → Option Damage → Found
after_head image (Some damage) = damaged damage
after_head image None =
    let pages = number_at 8 4 image in
    after_root pages (selects image) image (root_damage (number_at 7 1 image) pages (selects image) image)

-- the gate of an empty file counts as 0
unfoldable pub found_in : List ℕ → Found
found_in image =
    if nat_lt (length image) least_bytes then no_volume (length image) (gate image)
    else (if nat_eq (gate image) 1 then after_head image (head_damage image) else no_volume (length image) (gate image))

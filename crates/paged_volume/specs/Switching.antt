-- The steps of a switch, and what it leaves.
use Rattle.std.specs.Prelude.{◌≡◌, ◌≢◌, ◌⊎◌, ℕ, ◌+◌, ◌*◌, ◌/◌, ◌<◌, ◌≤◌, ◌^◌, min, true, not, List, [], length, take, drop, slice_index, nat_eq, if◌then◌else◌}
use Rattle.ps_port.specs.ps_outside.Outside.{Outside, After}
use Rattle.page_map.specs.Pages.{one_names}
use Rattle.volume_parts.specs.Layout.{number_at, root_at}
use Rattle.volume_parts.specs.Holding.{note_at}
use Rattle.paged_volume.specs.Layout.{capacity_pages, map_pages_of}
use Rattle.paged_volume.specs.Found.{numbers_of}
use Rattle.paged_volume.specs.Changing.{is_changed}
use Rattle.paged_volume.specs.Standing.{IsFit, IsNamedOnce, IsSpare, IsPinned, IsBare, AreUnnamed, Says, index_of, maps_of, map_names, place_by, logical_of, map_count, held_in, staged_bytes}
use Rattle.paged_volume.specs.Pinning.{pin_of, pinned_list, pinned_bytes, IsPin}
use Rattle.paged_volume.specs.declared.table.Table.{Table}
use Rattle.paged_volume.specs.declared.committed.Committed.{Committed}

-- a map page stays where it is: none of its numbers changed
pub record StaysMap (table : Table) (next : Committed) (map_page : ℕ) : Type 0 where
  pub same : maps_of table.next.items map_page ≡ maps_of table.named.items map_page
  pub was : map_page < map_count table.committed
  pub numbers : (page : ℕ) → page / 1024 ≡ map_page → page < logical_of next → slice_index table.map.staged page ≡ slice_index table.map.committed page

-- it is written anew, since a number changed, to a page that may be written
pub record MovesMap (table : Table) (next : Committed) (map_page : ℕ) : Type 0 where
  pub changed : is_changed table.map (logical_of next) map_page ≡ true
  pub other : maps_of table.next.items map_page ≢ maps_of table.named.items map_page
  pub spare : IsSpare table (maps_of table.next.items map_page)

-- What is to be committed next: its logical pages are those that are staged, and the pages that name them are told in `next`. Each page is named once,
-- and what has to be written is written to pages that may be.
pub record IsNext (table : Table) (next : Committed) : Type 0 where
  pub fit : IsFit table.committed
  pub once : IsNamedOnce table
  pub next_fit : IsFit next
  pub pages_are : next.pages ≡ table.committed.pages
  pub names : length table.named.items ≡ 1 + map_pages_of (capacity_pages table.committed.pages)
  pub nexts : length table.next.items ≡ 1 + map_pages_of (capacity_pages table.committed.pages)
  pub staged : length table.map.staged ≡ capacity_pages table.committed.pages
  pub index_once : AreUnnamed next.pages [] (index_of table.next.items) next.depth
  pub maps_once : AreUnnamed next.pages (numbers_of (index_of table.next.items) next.depth) (maps_of table.next.items) (map_count next)
  pub pages_once : AreUnnamed next.pages (map_names next.depth table.next.items (map_count next)) (slice_index table.map.staged) (logical_of next)
  pub second : next.second ≡ not table.committed.second
  pub format : next.format ≡ table.committed.format
  pub commits : next.note.commits < 2 ^ 64
  pub one_map : next.depth ≡ 0 → map_count next ≡ 1
  pub bare : (page : ℕ) → logical_of next ≤ page → slice_index table.map.staged page ≡ 0
  pub bare_names : IsBare next table.next.items
  pub free : length table.map.free ≡ table.committed.pages
  pub pinned : (page : ℕ) → 1 ≤ page → one_names table.map.pins page ≡ true → IsPinned next table.next.items page
  pub pin_count : length table.pins.items ≡ length table.map.pins
  pub pins : (pin : ℕ) → pin < length table.map.pins → IsPin table (pinned_list table pin) (pin_of table pin)
  pub index : (i : ℕ) → i < next.depth → IsSpare table (index_of table.next.items i)
  pub maps : (map_page : ℕ) → map_page < map_count next → StaysMap table next map_page ⊎ MovesMap table next map_page

-- an image that says what is committed, and in which that stands which stood in an image from before
pub record IsKept (outside : Outside (List ℕ)) (table : Table) (image : List ℕ) : Type 0 where
  pub says : Says table image
  pub from : List ℕ
  pub was : outside.images outside.clock from
  pub held : held_in from ≡ held_in image

-- the pages that pins hold stand as they did
abbrev pub SamePinned : Table → List ℕ → List ℕ → Type 0
SamePinned table old new = (pin : ℕ) → pinned_bytes table pin new ≡ pinned_bytes table pin old

-- and so do those that are staged
pub record SamePages (table : Table) (old new : List ℕ) : Type 0 where
  pub staged : staged_bytes table new ≡ staged_bytes table old
  pub pinned : SamePinned table old new

-- so many of the map pages that are committed next say their numbers
abbrev pub HasMaps : Table → Committed → ℕ → List ℕ → Type 0
HasMaps table next count image = (page : ℕ) → page < min (logical_of next) (1024 * count) → number_at (place_by table.next.items page) 4 image ≡ slice_index table.map.staged page

-- the index page of what is committed next, where there is one, says the numbers of the map pages
abbrev pub HasIndex : Table → Committed → List ℕ → Type 0
HasIndex table next image = (map_page : ℕ) → map_page < map_count next → 0 < next.depth → number_at (4096 * slice_index table.next.items 0 + 4 * map_page) 4 image ≡ maps_of table.next.items map_page

-- the old content is committed, and the pages of the new one stand in pages of their own
pub record IsReady (outside : Outside (List ℕ)) (table : Table) (next : Committed) (image : List ℕ) : Type 0 where
  pub kept : IsKept outside table image
  pub staged : After outside.contents (SamePages table) image
  pub maps : HasMaps table next (map_count next) image
  pub index : HasIndex table next image

-- what a root page names: the index page, or else the one map page
unfoldable pub first_name : Table → Committed → ℕ
first_name table next = if nat_eq next.depth 0 then slice_index table.next.items 1 else slice_index table.next.items 0

-- a page that says this as a root page
pub record IsRootPage (next : Committed) (first : ℕ) (page : List ℕ) : Type 0 where
  pub size : length page ≡ 4096
  pub note : note_at 0 page ≡ next.note
  pub logical : number_at 24 4 page ≡ logical_of next
  pub names : number_at 28 4 page ≡ first
  pub depth : number_at 4092 4 page ≡ next.depth

-- and the root page that isn't selected names it
pub record IsRooted (outside : Outside (List ℕ)) (table : Table) (next : Committed) (image : List ℕ) : Type 0 where
  pub ready : IsReady outside table next image
  pub root : IsRootPage next (first_name table next) (take 4096 (drop (root_at (not table.committed.second)) image))

-- the table of what is committed next
abbrev pub next_table : Table → Committed → Table
next_table table next = record { committed = next; map = record (table.map) { committed = table.map.staged }; named = table.next; next = table.next; pins = table.pins }

-- the new content is committed
pub record IsSwitched (outside : Outside (List ℕ)) (table : Table) (next : Committed) (image : List ℕ) : Type 0 where
  pub says : Says (next_table table next) image
  pub staged : After outside.contents (SamePages table) image

-- this or that
abbrev pub IsEither : Outside (List ℕ) → Table → Committed → List ℕ → Type 0
IsEither outside table next image = IsKept outside table image ⊎ IsSwitched outside table next image

-- The pages that are chosen before a commit: for the index page, and for the map pages that change.
use Rattle.std.specs.Prelude.{◌≡◌, ◌≢◌, ℕ, ◌+◌, ◌^◌, ◌<◌, ◌≤◌, Bool, true, false, List, length, slice_index, nat_lt, not, if◌then◌else◌}
use Rattle.page_map.specs.Pages.{is_free, held_of}
use Rattle.page_map.specs.Map.{MapView, with_taken}
use Rattle.volume_parts.specs.Holding.{next_note}
use Rattle.paged_volume.specs.Layout.{least_indexed}
use Rattle.paged_volume.specs.Standing.{IsFit, Says, index_of, maps_of, logical_of, map_count}
use Rattle.paged_volume.specs.Changing.{next_number, is_changed, changed_pages}
use Rattle.paged_volume.specs.Switching.{IsNext}
use Rattle.paged_volume.specs.declared.table.Table.{Table}
use Rattle.paged_volume.specs.declared.committed.Committed.{Committed}

-- the depth that a commit writes
abbrev pub depth_of : ℕ → ℕ
depth_of pages = if nat_lt pages least_indexed then 0 else 1

-- what is committed after a switch under so many used words and this directory
abbrev pub switched : ℕ → ℕ → Committed → Committed
switched used directory committed =
    record { format = committed.format; pages = committed.pages; second = not committed.second; depth = depth_of committed.pages; note = next_note used directory committed.note }

-- the pages that it wants besides those that are staged: the map pages that change, and the index page
abbrev pub wanted_pages : MapView → Committed → ℕ
wanted_pages map next = changed_pages map (logical_of next) (map_count next) + next.depth

-- what may be committed after this
pub record Follows (committed next : Committed) : Type 0 where
  pub fit : IsFit next
  pub pages : next.pages ≡ committed.pages
  pub format : next.format ≡ committed.format
  pub second : next.second ≡ not committed.second
  pub depth : next.depth ≡ depth_of committed.pages
  pub commits : next.note.commits < 2 ^ 64

-- a free page, which was taken, where one is wanted, and else this one
pub data GetsPage (old new : MapView) (wants : Bool) (page number : ℕ) : Type 0 where
  taken : wants ≡ true → is_free old.free number ≡ true → new ≡ with_taken old number → held_of new.free ≡ held_of old.free + 1 → GetsPage old new wants page number
  kept : wants ≡ false → number ≡ page → new ≡ old → GetsPage old new wants page number

-- a page was free, and was taken
pub record IsGiven (old now : MapView) (page : ℕ) : Type 0 where
  pub was : is_free old.free page ≡ true
  pub taken : is_free now.free page ≡ false

-- a map page has its page in what is committed next: one that was free, if its numbers change, else the one that it had
pub data HasPlace (old now : MapView) (logical map_page named number : ℕ) : Type 0 where
  moves : is_changed old logical map_page ≡ true → IsGiven old now number → HasPlace old now logical map_page named number
  stays : is_changed old logical map_page ≡ false → number ≡ named → HasPlace old now logical map_page named number

-- The pages of the index page, if the depth is 1, and of so many map pages are chosen: those that were free are taken, each once, and nothing else
-- changed. The other numbers are 0.
pub record IsChosen (old now : MapView) (named next : List ℕ) (logical depth count : ℕ) : Type 0 where
  pub lists : now ≡ record old { free = now.free }
  pub long : length now.free ≡ length old.free
  pub fewer : (page : ℕ) → is_free now.free page ≡ true → is_free old.free page ≡ true
  pub held : held_of now.free ≡ held_of old.free + (changed_pages old logical count + depth)
  pub size : length next ≡ length named
  pub index : (i : ℕ) → i < depth → IsGiven old now (index_of next i)
  pub bare_index : depth ≡ 0 → slice_index next 0 ≡ 0
  pub maps : (map_page : ℕ) → map_page < count → HasPlace old now logical map_page (maps_of named map_page) (maps_of next map_page)
  pub bare : (map_page : ℕ) → count ≤ map_page → maps_of next map_page ≡ 0
  pub apart : (one other : ℕ) → one < other → other < count → is_changed old logical one ≡ true → is_changed old logical other ≡ true → maps_of next one ≢ maps_of next other
  pub apart_index : (i map_page : ℕ) → i < depth → map_page < count → is_changed old logical map_page ≡ true → index_of next i ≢ maps_of next map_page

-- A table in which the pages of what is committed next are chosen. What is committed is as before, and so is what is staged, but for the pages
-- past the logical ones.
pub record IsPlanned (old : Table) (next : Committed) (new : Table) : Type 0 where
  pub ready : IsNext new next
  pub says : (image : List ℕ) → Says old image → Says new image
  pub committed : new.committed ≡ old.committed
  pub lists : (new.map.committed ≡ old.map.committed) × (new.map.pins ≡ old.map.pins)
  pub pins : new.pins.items ≡ old.pins.items
  pub staged : (page : ℕ) → slice_index new.map.staged page ≡ next_number old.map (logical_of next) page

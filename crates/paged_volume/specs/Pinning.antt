-- What pins hold: each a list of pages of a commit, and its note; or nothing.
use Rattle.std.specs.Prelude.{◌≡◌, ◌≢◌, ◌⊎◌, ℕ, ◌<◌, ◌≤◌, true, false, List, [], length, slice_index, slice_index_or, Option, Some, None}
use Rattle.std.specs.Option.{option_map}
use Rattle.ps_port.specs.ps_outside.Outside.{Outside, After}
use Rattle.page_map.specs.Pages.{no_pages}
use Rattle.volume_parts.specs.Layout.{pages_of_words}
use Rattle.volume_parts.specs.Holding.{Held}
use Rattle.paged_volume.specs.Layout.{capacity_pages, capacity_of}
use Rattle.paged_volume.specs.Found.{bytes_named}
use Rattle.paged_volume.specs.declared.pinned.Pinned.{Pinned}
use Rattle.paged_volume.specs.declared.table.Table.{Table}

-- what a pin holds besides its list, if it holds anything; past the pins nothing
abbrev pub pin_of : Table → ℕ → Option Pinned
pin_of table pin = slice_index_or table.pins.items pin None

-- the list that it holds
abbrev pub pinned_list : Table → ℕ → List ℕ
pinned_list table pin = slice_index_or table.map.pins pin []

-- no pin holds anything
abbrev pub NoneIsHeld : Table → Type 0
NoneIsHeld table = (pin : ℕ) → pin_of table pin ≡ None

-- each pin holds what is committed, or nothing
abbrev pub AreLatest : Table → Type 0
AreLatest table = (pin : ℕ) → pin < length table.map.pins → (pinned_list table pin ≡ table.map.committed) ⊎ (pin_of table pin ≡ None)

-- once there was another commit, what is held is no more that of the last one
abbrev pub outdated : Option Pinned → Option Pinned
outdated held = option_map (λ (pinned : Pinned). record pinned { current = false }) held

-- What a pin holds is a commit: each of its pages is there. As long as there was no other commit it is the last one.
pub record IsCommit (table : Table) (list : List ℕ) (held : Pinned) : Type 0 where
  pub some : 1 ≤ held.note.used
  pub within : held.note.used ≤ capacity_of table.committed.pages
  pub below : held.note.directory < held.note.used
  pub pages : (page : ℕ) → page < pages_of_words held.note.used → 1 ≤ slice_index list page
  pub last : held.current ≡ true → (list ≡ table.map.committed) × (held.note ≡ table.committed.note)

-- a pin that holds nothing names no page
abbrev pub IsPin : Table → List ℕ → Option Pinned → Type 0
IsPin table list None = list ≡ no_pages (capacity_pages table.committed.pages)
IsPin table list (Some held) = IsCommit table list held

-- all pages as a pin holds them; past those of its commit they are zeros
unfoldable pub pinned_bytes : Table → ℕ → List ℕ → List ℕ
pinned_bytes table pin image = bytes_named (slice_index (pinned_list table pin)) (capacity_pages table.committed.pages) image

abbrev pub pinned_in : Table → ℕ → List ℕ → Option Held
pinned_in table pin image = option_map (λ (held : Pinned). record { note = held.note; bytes = pinned_bytes table pin image }) (pin_of table pin)

-- what is seen through a pin: the note and the pages of its commit
abbrev pub Holds : Table → ℕ → Outside (List ℕ) → Held → Type 0
Holds table pin outside held = After outside.contents (λ (x : List ℕ) (z : Held). pinned_in table pin x ≡ Some z) held

-- each pin holds what it held
pub record KeepsPins (old new : Table) (before after : Outside (List ℕ)) : Type 0 where
  pub kept : (pin : ℕ) (held : Held) → Holds old pin before held → Holds new pin after held
  pub no_other : (pin : ℕ) (held : Held) → Holds new pin after held → Holds old pin before held

-- a pin holds this
abbrev pub IsHeldBy : Table → ℕ → Pinned → Type 0
IsHeldBy table pin held = pin_of table pin ≡ Some held

-- Other pins were reserved, in place of those that there were: they hold nothing, and nothing else changed.
pub record Reserves (count : ℕ) (old new : Table) : Type 0 where
  pub count_is : length new.pins.items ≡ count
  pub none : NoneIsHeld new
  pub committed : new.committed ≡ old.committed
  pub lists : (new.map.committed ≡ old.map.committed) × (new.map.staged ≡ old.map.staged) × (new.map.free ≡ old.map.free)

-- A pin holds this list, or nothing, in place of what it held, and the other pins what they held. What is committed and staged is as before.
pub record Repins (pin : ℕ) (held : Option Pinned) (list : List ℕ) (old new : Table) : Type 0 where
  pub here : pin_of new pin ≡ held
  pub list_is : pinned_list new pin ≡ list
  pub count_is : length new.pins.items ≡ length old.pins.items
  pub others : (other : ℕ) → other ≢ pin → (pin_of new other ≡ pin_of old other) × (pinned_list new other ≡ pinned_list old other)
  pub committed : new.committed ≡ old.committed
  pub lists : (new.map.committed ≡ old.map.committed) × (new.map.staged ≡ old.map.staged)

-- a pin holds what is committed
abbrev pub Pins : ℕ → Table → Table → Type 0
Pins pin old new = Repins pin (Some (record { note = old.committed.note; current = true })) old.map.committed old new

-- a pin holds nothing
abbrev pub Unpins : ℕ → Table → Table → Type 0
Unpins pin old new = Repins pin None (no_pages (length old.map.committed)) old new

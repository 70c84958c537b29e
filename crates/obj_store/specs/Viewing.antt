-- Views of a store by its pins.
use Rattle.std.specs.Prelude.{◌≡◌, ℕ, true, false, List}
use Rattle.obj_layout.specs.ps_outside.Outside.{Outside, SameContents}
use Rattle.volume_parts.specs.declared.note.Note.{Note}
use Rattle.paged_volume.specs.Pinning.{IsHeldBy}
use Rattle.paged_volume.specs.declared.pinned.Pinned.{Pinned as PinHeld}
use Rattle.paged_volume.specs.declared.table.Table.{Table}
use Rattle.obj_store.specs.declared.source.Source.{Source}
use Rattle.obj_store.specs.declared.source.Source.TheVariants.{Staged, Pinned}
use Rattle.obj_store.specs.Spaces.{used_in}
use Rattle.obj_store.specs.Store.{Store, bounded, outside_at}

-- what a pin holds besides its list: this note, and whether it is that of the last commit
abbrev pub latest : Note → PinHeld
latest note = record { note = note; current = true }

abbrev pub older : Note → PinHeld
older note = record { note = note; current = false }

-- the pin that a source reads holds an older list, under this note
abbrev pub IsSource : Table → Source → Type 0
IsSource table Staged = Unit {0}
IsSource table (Pinned pin note) = IsHeldBy table pin (older note)

-- the pin that a source reads, where a view of this one reads from it; and what such a pin holds, where this note is committed
abbrev pub pin_in : Source → ℕ → ℕ
pin_in Staged pin = pin
pin_in (Pinned at note) pin = at

abbrev pub held_in : Source → Note → PinHeld
held_in Staged committed = latest committed
held_in (Pinned at note) committed = older note

-- Where a view of a pin reads: as the store does where the pin is current, and else by the pin, under its note.
abbrev pub IsViewed : Table → ℕ → Source → Type 0
IsViewed table pin source = (pin_in source pin ≡ pin) × IsHeldBy table pin (held_in source table.committed.note)

-- the words that are used by its note are within the bounds of every store
abbrev pub IsFew : Source → Type 0
IsFew source = bounded (used_in source 1) ≡ used_in source 1

-- what is read from a source is what the pin holds
abbrev pub ShowsPin : {H : Type 0} → (H → Outside (List ℕ)) → Store H → ℕ → Source → Type 0
ShowsPin outside store pin source =
    (held : PinHeld) → IsHeldBy store.table pin held → SameContents (outside_at outside (Pinned pin held.note) store) (outside_at outside source store)

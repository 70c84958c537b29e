-- A store of objects over a volume, as contracts see it.
use Rattle.std.specs.Prelude.{◌≡◌, ℕ, ◌-◌, ◌^◌, min, max, Bool, true, false, List, [], ◌∷◌, Option, Some, None}
use Rattle.obj_layout.specs.ps_outside.Outside.{Outside}
use Rattle.paged_volume.specs.Layout.{capacity_of}
use Rattle.volume_parts.specs.Layout.{pages_of_words}
use Rattle.paged_volume.specs.Standing.{IsAlive}
use Rattle.paged_volume.specs.Staging.{HasPages}
use Rattle.paged_volume.specs.declared.table.Table.{Table}
use Rattle.obj_layout.specs.Stored.{Space}
use Rattle.obj_layout.specs.Storing.{Access}
use Rattle.obj_store.specs.declared.source.Source.{Source}
use Rattle.obj_store.specs.declared.source.Source.TheVariants.{Staged}
use Rattle.obj_store.specs.Spaces.{IsInOrder, used_in, spaces_at}
use Rattle.obj_store.specs.Kept.{AreHeld}
use Rattle.obj_store.specs.declared.kept.KeptPage.{KeptPage}

-- its volume's host; what is committed there, and where its pages stand as they are staged; the words used as they are staged; whether something is staged; and
-- whether its calls may be made
pub record Store (H : Type 0) : Type 0 where
  pub host : H
  pub table : Table
  pub used : ℕ
  pub staged : Bool
  pub live : Bool

-- a number within the bounds of every store
abbrev pub bounded : ℕ → ℕ
bounded used = max 1 (min used (2 ^ 30 - 1))

-- what is seen of it from a source
abbrev pub outside_at : {H : Type 0} → (H → Outside (List ℕ)) → Source → Store H → Outside Space
outside_at outside source store = spaces_at source (used_in source store.used) store.table (outside store.host)

-- the words that are used and those that can be used, within the bounds of every store
abbrev pub used_of : {H : Type 0} → Store H → ℕ
used_of store = bounded store.used

abbrev pub most_of : {H : Type 0} → Store H → ℕ
most_of store = min (capacity_of store.table.committed.pages) (2 ^ 30 - 1)

abbrev pub directory_of : {H : Type 0} → Store H → ℕ
directory_of store = store.table.committed.note.directory

-- what is seen of it as it is staged
abbrev pub outside_of : {H : Type 0} → (H → Outside (List ℕ)) → Store H → Outside Space
outside_of outside store = outside_at outside Staged store

-- no pin holds anything
unfoldable pub is_alone : {P : Type 0} → List (Option P) → Bool
is_alone [] = true
is_alone (None ∷ pins) = is_alone pins
is_alone (Some held ∷ pins) = false

-- it may be written, and is alone while no pin holds anything; it is lent nothing
abbrev pub access_of : {H : Type 0} → Store H → Access (Unit {0})
access_of store = record { writes = true; alone = is_alone store.table.pins.items; lent = tt; staged = store.staged }

-- nothing is staged
pub record IsUnstaged (table : Table) (used : ℕ) : Type 0 where
  pub pages : table.map.staged ≡ table.map.committed
  pub words : used ≡ table.committed.note.used

-- A store's numbers are in order; and where its calls may be made, those of its volume may be, the pages of its words are staged or committed, the
-- pages that are kept are those of the volume, and nothing is staged where it says so.
pub record IsKept {H : Type 0} (outside : H → Outside (List ℕ)) (lives : Bool) (places : List (Option KeptPage)) (store : Store H) : Type 0 where
  pub order : IsInOrder store.used store.table.committed
  pub alive : store.live ≡ true → IsAlive lives store.table (outside store.host)
  pub has : store.live ≡ true → HasPages store.table (pages_of_words store.used)
  pub pages : store.live ≡ true → AreHeld places store.table (outside store.host)
  pub unstaged : store.live ≡ true → store.staged ≡ false → IsUnstaged store.table store.used

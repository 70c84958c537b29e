-- What the calls that stage pages say.
use Rattle.std.specs.Prelude.{◌≡◌, ℕ, ◌<◌, ◌≤◌, List, slice_index, Option, Some}
use Rattle.obj_layout.specs.ps_outside.Outside.{Outside}
use Rattle.volume_parts.specs.Holding.{Held}
use Rattle.paged_volume.specs.Standing.{seen}
use Rattle.paged_volume.specs.declared.table.Table.{Table}
use Rattle.obj_store.specs.Words.{IsApart, HoldsPut}

-- What is held is what was held, after a step.
pub record Turns (old new : Outside (Option Held)) (step : Held → Held → Type 0) : Type 0 where
  pub forth : (before : Held) → old.contents (Some before) → (after : Held) × new.contents (Some after) × step before after
  pub back : (after : Held) → new.contents (Some after) → (before : Held) × old.contents (Some before) × step before after

-- The pages that are staged or committed stay so, and those from one page to another are staged or committed too; each other page stands where it stood.
pub record Marks (from to : ℕ) (old new : Table) : Type 0 where
  pub others : (page : ℕ) → IsApart from to page → slice_index new.map.staged page ≡ slice_index old.map.staged page
  pub kept : (page : ℕ) → 1 ≤ slice_index old.map.staged page → 1 ≤ slice_index new.map.staged page
  pub marked : (page : ℕ) → from ≤ page → page < to → 1 ≤ slice_index new.map.staged page

-- Where the words are there already that are put, nothing is staged, and what is held stays.
abbrev pub LeavesStaged : Table → Table → Outside (List ℕ) → Outside (List ℕ) → ℕ → ℕ → ℕ → List ℕ → Type 0
LeavesStaged p q a b low high at put =
    (held : Held) → (seen p a).contents (Some held) → HoldsPut low high at put held held → (q ≡ p) × (seen q b).contents (Some held)

-- What pins hold is as before, and so is what is committed: no pin becomes older.
pub record SamePins (old new : Table) : Type 0 where
  pub pins : new.pins.items ≡ old.pins.items
  pub lists : new.map.pins ≡ old.map.pins
  pub committed : new.map.committed ≡ old.map.committed

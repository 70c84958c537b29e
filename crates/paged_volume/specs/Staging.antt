-- What the calls of a volume make of what is held.
use Rattle.std.specs.Prelude.{◌≡◌, ◌≢◌, ◌⊎◌, ℕ, ◌+◌, ◌*◌, ◌<◌, ◌≤◌, Bool, true, false, List, take, drop, slice_index}
use Rattle.ps_port.specs.ps_outside.Outside.{Outside, LeavesSame, TellsNothing, Rose}
use Rattle.ps_port.specs.Disk.{written}
use Rattle.page_map.specs.Pages.{is_free, held_of, IsTaken}
use Rattle.page_map.specs.Map.{MapView, list_names, with_taken}
use Rattle.volume_parts.specs.Holding.{Held}
use Rattle.paged_volume.specs.Pinning.{AreLatest}
use Rattle.paged_volume.specs.declared.table.Table.{Table}
use Rattle.paged_volume.specs.declared.volume.VolumeFault.{VolumeFault}
use Rattle.paged_volume.specs.declared.volume.VolumeFault.TheVariants.{Device, Full}

-- a page of what is held
abbrev pub page_of : ℕ → Held → List ℕ
page_of page held = take 4096 (drop (4096 * page) held.bytes)

-- with these bytes in place of a page
abbrev pub with_page : ℕ → List ℕ → Held → Held
with_page page from held = record { note = held.note; bytes = written (4096 * page) from held.bytes }

-- each of the first pages is staged or committed
abbrev pub HasPages : Table → ℕ → Type 0
HasPages table count = (page : ℕ) → page < count → 1 ≤ slice_index table.map.staged page

-- Calls of the device, so many at most, that output nothing and leave what a crash may leave.
pub record Stages {X : Type 0} (old new : Outside X) (most : ℕ) : Type 0 where
  pub told : TellsNothing old new
  pub images : LeavesSame old new
  pub counts : old.device_faults ≤ new.device_faults
  pub output : new.output_faults ≡ old.output_faults
  pub calls : new.device_calls ≤ old.device_calls + most

-- this page is staged then, and each other one as it was
pub record Marks (page : ℕ) (old new : Table) : Type 0 where
  pub marked : 1 ≤ slice_index new.map.staged page
  pub kept : (other : ℕ) → other ≢ page → slice_index new.map.staged other ≡ slice_index old.map.staged other

-- Where a logical page is put: in the page that it was given since the last commit, or in one that was free, and that no list names.
pub data IsPlace (old new : MapView) (page number : ℕ) : Type 0 where
  again : slice_index old.staged page ≡ number → number ≢ slice_index old.committed page → 1 ≤ number → IsTaken old.free number → new ≡ old → IsPlace old new page number
  given : (slice_index old.staged page ≡ slice_index old.committed page) ⊎ (slice_index old.staged page ≡ 0) → is_free old.free number ≡ true → list_names old number ≡ false → IsTaken new.free number → new ≡ with_taken old number → IsPlace old new page number

-- a logical page has no page of its own since the last commit, and none is free
pub record IsFull (map : MapView) (page : ℕ) : Type 0 where
  pub unstaged : (slice_index map.staged page ≡ slice_index map.committed page) ⊎ (slice_index map.staged page ≡ 0)
  pub none : (page : ℕ) → is_free map.free page ≡ false

-- Why a page isn't put: the device failed, and the volume isn't alive then; or there was no page for it, since a pin holds an older list, and all is as
-- before.
abbrev pub IsPutFault : {H : Type 0} → (H → Outside (List ℕ)) → H → H → Bool → Bool → Table → Table → ℕ → VolumeFault → Type 0
IsPutFault outside old new lived lives table next page Device = Rose (outside old).device_faults (outside new).device_faults × (lives ≡ false)
IsPutFault outside old new lived lives table next page (Full held wanted pages) =
    (new ≡ old) × (lives ≡ lived) × (next ≡ table) × IsFull table.map page × ¬ AreLatest table × (held ≡ held_of table.map.free) × (wanted ≡ 1) × (pages ≡ table.committed.pages)

-- What is left of a device whose volume was attached, or couldn't be.
use Rattle.std.specs.Prelude.{◌≡◌, ◌⊎◌, ℕ, ◌+◌, ◌≤◌, Bool, true, false, List}
use Rattle.ps_port.specs.ps_outside.Outside.{Outside, After, Leaves, LeavesSame, TellsNothing, Rose}
use Rattle.volume_next.specs.Moving.{IsKeptIn, KeepsFrom, lacks_index, maps_held, moving_calls}
use Rattle.obj_store.specs.volume_parts.Holding.{Held}
use Rattle.obj_store.specs.paged_volume.Found.{a_volume, found_in}
use Rattle.obj_store.specs.paged_volume.Standing.{held_in}
use Rattle.obj_store.specs.paged_volume.Attaching.{IsNoVolume}
use Rattle.obj_store.specs.volume_parts.declared.open_fault.OpenFault.{OpenFault}
use Rattle.obj_store.specs.volume_parts.declared.open_fault.OpenFault.TheVariants.{Device, NotAVolume, Damaged, Memory}
use Rattle.obj_store.specs.obj_layout.Stored.{Space}
use Rattle.obj_store.specs.Opening.{IsSpaceOf}
use Rattle.obj_store.specs.Store.{Store, is_alone, outside_of}
use Rattle.ps_reports.specs.declared.report.Report.{Report}
use Rattle.ps_reports.specs.declared.report.Report.TheVariants as reports
use Rattle.ps_reports.specs.Reporting as reported
use Rattle.ps_reports.specs.Statuses.{number_of}

-- a volume is found in these bytes
pub record HasVolume (bytes : List ℕ) : Type 0 where
  pub pages : ℕ
  pub second : Bool
  pub held : Held
  pub found : found_in bytes ≡ a_volume pages second held

-- The device is left as it is: at each moment of the way a crash leaves what it could leave at its start, and a read gives what it gave then.
pub record Keeps (old new : Outside (List ℕ)) : Type 0 where
  pub images : LeavesSame old new
  pub contents : (bytes : List ℕ) → new.contents bytes → old.contents bytes

-- What was held is left: at each moment of the way a crash leaves what it could leave at its start, or a file that holds the same words under the same
-- directory as what a read gave then; and so does a read at the end.
pub record KeepsHeld (old new : Outside (List ℕ)) : Type 0 where
  pub images : Leaves old new (λ image. old.images old.clock image ⊎ After old.contents IsKeptIn image)
  pub contents : (bytes : List ℕ) → new.contents bytes → old.contents bytes ⊎ After old.contents IsKeptIn bytes

-- how often the device is called with so many map pages: a volume is looked at twice, and one of an older form is committed in between
abbrev pub attaching_calls : Bool → ℕ → ℕ
attaching_calls moved maps = moving_calls moved maps + (maps + 8)

-- It is called as often for the map pages of what a read gives at the start; and never more than for the 488 of the largest volume.
pub record AttachesInFew (old new : Outside (List ℕ)) : Type 0 where
  pub told : (bytes : List ℕ) → old.contents bytes → new.device_calls ≤ old.device_calls + attaching_calls (lacks_index bytes) (maps_held (held_in bytes))
  pub most : new.device_calls ≤ old.device_calls + attaching_calls true 488

-- A volume was found in each content at the start, and what it held was left; from some moment on a crash leaves only files that hold that, and
-- before that moment nothing was output, and a crash leaves what it could leave at the start.
pub record KeepsVolume (old new : Outside (List ℕ)) : Type 0 where
  pub keeps : KeepsHeld old new
  pub from : KeepsFrom old new
  pub found : (bytes : List ℕ) → old.contents bytes → HasVolume bytes

-- The store of a volume in its last form, and nothing was output: its calls may be made, no pin holds anything, and the space that it holds is the one that was committed in the
-- file at the start.
pub record IsStored {H : Type 0} (outside : H → Outside (List ℕ)) (old : Outside (List ℕ)) (store : Store H) : Type 0 where
  pub keeps : KeepsVolume old (outside store.host)
  pub told : TellsNothing old (outside store.host)
  -- the file that a read gives now is of the last form: it has an index page, where it has 88 pages
  pub moved : (bytes : List ℕ) → (outside store.host).contents bytes → lacks_index bytes ≡ false
  pub calls : AttachesInFew old (outside store.host)
  pub counts : old.device_faults ≤ (outside store.host).device_faults
  pub output : (outside store.host).output_faults ≡ old.output_faults
  pub live : store.live ≡ true
  pub alone : is_alone store.table.pins.items ≡ true
  pub used : store.used ≡ store.table.committed.note.used
  pub holds : (space : Space) → (outside_of outside store).contents space → After old.contents IsSpaceOf space
  pub stays : (space : Space) → After old.contents IsSpaceOf space → (outside_of outside store).contents space

-- the report of what was wrong with the device or with the file on it
abbrev pub report_for : OpenFault → Report
report_for Device = reports.Device
report_for (NotAVolume size gate) = reports.NotAVolume size gate
report_for (Damaged at found wanted) = reports.Damaged at found wanted
report_for Memory = reports.NoMemory

-- its line and its status
abbrev pub line_of : OpenFault → List ℕ
line_of cause = reported.line_of (report_for cause)

abbrev pub status_of : OpenFault → ℕ
status_of cause = number_of (reported.status_of (report_for cause))

-- Why there is no volume: the device failed, and its count rose; or each content fails the tests in this way; or there was no memory.
pub record IsWhyNone (old new : Outside (List ℕ)) (cause : OpenFault) : Type 0 where
  pub device : cause ≡ Device → Rose old.device_faults new.device_faults
  pub found : (bytes : List ℕ) → old.contents bytes → IsNoVolume cause bytes

-- there is none, the report says why, and nothing was output
pub record IsUnattached (old new : Outside (List ℕ)) (report : Report) : Type 0 where
  pub cause : OpenFault
  pub why : IsWhyNone old new cause
  pub report_is : report ≡ report_for cause
  pub told : TellsNothing old new
  pub calm : new.output_faults ≡ old.output_faults
  pub calls : new.device_calls ≤ old.device_calls + attaching_calls true 488
  pub keeps : KeepsHeld old new

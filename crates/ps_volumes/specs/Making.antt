-- What is due where a volume is made, and what is left of the device.
use Rattle.std.specs.Prelude.{◌≡◌, ℕ, ◌≤◌, List, [], length, Result, Ok, Err}
use Rattle.ps_port.specs.ps_outside.Outside.{Outside, Leaves, TellsNothing, Rose}
use Rattle.obj_store.specs.volume_parts.Layout.{gate}
use Rattle.obj_store.specs.paged_volume.Making.{IsMaking, IsNew}
use Rattle.obj_store.specs.volume_parts.Making.{IsNone}
use Rattle.obj_store.specs.paged_volume.Opening.{ShutsAt, OpensAt}
use Rattle.ps_reports.specs.declared.report.Report.{Report}
use Rattle.ps_reports.specs.Reporting.{line_of}
use Rattle.ps_reports.specs.Reporting as reported
use Rattle.ps_reports.specs.Reports.{device_line, already_line}
use Rattle.ps_reports.specs.Statuses.{number_of}
use Rattle.ps_volumes.specs.Attaching.{Keeps}

-- The new volume stands there, whole: in what a read gives, and in all that a crash may leave. On the way the gate was shut, from a moment up to which
-- nothing but byte 0 was written, until the volume stood whole after it.
pub record IsMade (pages : ℕ) (old new : Outside (List ℕ)) : Type 0 where
  pub opened : OpensAt pages old new
  pub contents : (bytes : List ℕ) → new.contents bytes → IsNew pages bytes × (gate bytes ≡ 1)
  pub durable : (image : List ℕ) → new.images new.clock image → new.contents image

-- there are enough bytes for a volume, and the gate is open
pub record IsOpen (bytes : List ℕ) : Type 0 where
  pub long : 16384 ≤ length bytes
  pub opened : gate bytes ≡ 1

-- What is due: nothing where there was no volume and a new one was made; a line where the device failed, and where there is a volume already,
-- which is left.
pub data IsMakingDue (pages : ℕ) (old new : Outside (List ℕ)) : List ℕ → ℕ → Type 0 where
  made : ((bytes : List ℕ) → old.contents bytes → IsNone bytes) → IsMade pages old new → IsMakingDue pages old new [] 0
  failed : Rose old.device_faults new.device_faults → IsMakingDue pages old new device_line 6
  there_is_one : ((bytes : List ℕ) → old.contents bytes → IsOpen bytes) → Keeps old new → IsMakingDue pages old new already_line 14

-- the bytes that are due, and the status that stands with them
abbrev pub bytes_of : Result (Unit {0}) Report → List ℕ
bytes_of (Ok done) = []
bytes_of (Err report) = line_of report

abbrev pub status_of : Result (Unit {0}) Report → ℕ
status_of (Ok done) = 0
status_of (Err report) = number_of (reported.status_of report)

-- The volume is made, or the report says why it isn't, and nothing was output; and how far the making came: nothing but byte 0 was written, or from a moment
-- on the gate is shut, or the new volume stood whole after it before it was opened.
pub record Makes (pages : ℕ) (old new : Outside (List ℕ)) (answer : Result (Unit {0}) Report) : Type 0 where
  pub any_moment : Leaves old new (IsMaking old pages)
  pub gate : ShutsAt pages old new
  pub told : TellsNothing old new
  pub calm : new.output_faults ≡ old.output_faults
  pub due : IsMakingDue pages old new (bytes_of answer) (status_of answer)

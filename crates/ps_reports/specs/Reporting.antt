-- The line of each report, and its status.
use Rattle.std.specs.Prelude.{ℕ, List, codes}
use Rattle.ps_reports.specs.declared.status.Status.{Status}
use Rattle.ps_reports.specs.declared.status.Status.TheVariants as status
use Rattle.ps_reports.specs.declared.report.Stage.{Stage}
use Rattle.ps_reports.specs.declared.report.Stage.TheVariants.{Scan, Parse, Check}
use Rattle.ps_reports.specs.declared.report.Report.{Report}
use Rattle.ps_reports.specs.declared.report.Report.TheVariants.{Usage, NoMemory, Unreadable, TooLong, Refused, AreaFull, VolumeFull, Device, NotAVolume, Damaged, AlreadyAVolume}
use Rattle.ps_reports.specs.Reports.{usage_line, memory_line, unreadable_line, too_long_line, fault_line, area_full_line, volume_full_line, device_line, not_a_volume_line, damaged_line, already_line}

abbrev pub name_of : Stage → List ℕ
name_of Scan = codes "scan"
name_of Parse = codes "parse"
name_of Check = codes "check"

abbrev pub line_of : Report → List ℕ
line_of Usage = usage_line
line_of NoMemory = memory_line
line_of (Unreadable file) = unreadable_line file.now
line_of (TooLong file length) = too_long_line file.now length
line_of (Refused file stage number line) = fault_line file.now (name_of stage) number line
line_of (AreaFull top wanted size) = area_full_line top wanted size
line_of (VolumeFull used wanted capacity) = volume_full_line used wanted capacity
line_of Device = device_line
line_of (NotAVolume size gate) = not_a_volume_line size gate
line_of (Damaged at found wanted) = damaged_line at found wanted
line_of AlreadyAVolume = already_line

abbrev pub status_of : Report → Status
status_of Usage = status.Usage
status_of NoMemory = status.NoMemory
status_of (Unreadable file) = status.Unreadable
status_of (TooLong file length) = status.TooLong
status_of (Refused file stage number line) = status.Refused
status_of (AreaFull top wanted size) = status.AreaFull
status_of (VolumeFull used wanted capacity) = status.VolumeFull
status_of Device = status.Device
status_of (NotAVolume size gate) = status.NotAVolume
status_of (Damaged at found wanted) = status.Damaged
status_of AlreadyAVolume = status.AlreadyAVolume

-- The statuses of the program, by number.
use Rattle.std.specs.Prelude.{ℕ}
use Rattle.ps_reports.specs.declared.status.Status.{Status}
use Rattle.ps_reports.specs.declared.status.Status.TheVariants.{Done, Usage, Refused, Trapped, OutOfTurns, NoMemory, Device, Unreadable, Output, NotAVolume, Damaged, AreaFull, VolumeFull, TooLong, AlreadyAVolume}

abbrev pub number_of : Status → ℕ
number_of Done = 0
number_of Usage = 1
number_of Refused = 2
number_of Trapped = 3
number_of OutOfTurns = 4
number_of NoMemory = 5
number_of Device = 6
number_of Unreadable = 7
number_of Output = 8
number_of NotAVolume = 9
number_of Damaged = 10
number_of AreaFull = 11
number_of VolumeFull = 12
number_of TooLong = 13
number_of AlreadyAVolume = 14

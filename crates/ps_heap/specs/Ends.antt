-- How a program ends, the line that reports it, and the status of the end.
use Rattle.std.specs.Prelude.{ℕ, List, [], ◌++◌, codes, decimal}
use Rattle.ps_base.specs.declared.line.Line.{Line}
use Rattle.ps_base.specs.declared.trap.Trap.{Trap}
use Rattle.ps_base.specs.declared.trap.Trap.TheVariants.{Overflow, ZeroDivisor, Bounds, Nil, WrongClass, Substring, TooDeep, Abort, KeyKind, TooLong, NoInput}

-- how a program ends
pub data End : Type 0 where
  Done : End
  Trapped : (trap : Trap) (line : Line) → End
  OutOfTurns : End

abbrev pub trap_number : Trap → ℕ
trap_number Overflow = 1
trap_number ZeroDivisor = 2
trap_number Bounds = 3
trap_number Nil = 4
trap_number WrongClass = 5
trap_number Substring = 6
trap_number TooDeep = 7
trap_number Abort = 8
trap_number KeyKind = 9
trap_number TooLong = 10
trap_number NoInput = 11

-- the line that reports an end
abbrev pub report_of : End → List ℕ
report_of Done = []
report_of (Trapped trap line) = codes "trap " ++ decimal (trap_number trap) ++ codes " at line " ++ decimal line.0 ++ codes "\n"
report_of OutOfTurns = codes "out of turns\n"

-- the status that the program answers where a run ends so
abbrev pub status_of : End → ℕ
status_of Done = 0
status_of (Trapped trap line) = 3
status_of OutOfTurns = 4

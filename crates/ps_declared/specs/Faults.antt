-- The faults of the check: what the typing rules call them, their numbers and their lines.
use Rattle.std.specs.Prelude.{ℕ, Option, Some, None}
use Rattle.ps_base.specs.TyView.{ty_view}
use Rattle.ps_base.specs.declared.line.Line.{Line}
use Rattle.ps_scope.specs.ps_typing.Fault.{Fault}
use Rattle.ps_scope.specs.ps_typing.Fault as fault
use Rattle.ps_declared.specs.declared.fault.CheckFault.{CheckFault}
use Rattle.ps_declared.specs.declared.fault.CheckFault.TheVariants.{Unknown, Twice, Mismatch, NotAssignable, NotApplicable, Limit, TooComplex, Memory}

-- want of memory is no fault of the program
abbrev pub fault_of : CheckFault → Option Fault
fault_of (Unknown line) = Some (fault.Unknown line)
fault_of (Twice line) = Some (fault.Twice line)
fault_of (Mismatch line found wanted) = Some (fault.Mismatch line (ty_view found) (ty_view wanted))
fault_of (NotAssignable line) = Some (fault.NotAssignable line)
fault_of (NotApplicable line) = Some (fault.NotApplicable line)
fault_of (Limit line count) = Some (fault.Limit line count)
fault_of (TooComplex line count) = Some (fault.TooComplex line count)
fault_of Memory = None

abbrev pub number_of : CheckFault → Option ℕ
number_of (Unknown line) = Some 1
number_of (Twice line) = Some 2
number_of (Mismatch line found wanted) = Some 3
number_of (NotAssignable line) = Some 4
number_of (NotApplicable line) = Some 5
number_of (Limit line count) = Some 6
number_of (TooComplex line count) = Some 7
number_of Memory = None

abbrev pub line_of_fault : CheckFault → Option Line
line_of_fault (Unknown line) = Some line
line_of_fault (Twice line) = Some line
line_of_fault (Mismatch line found wanted) = Some line
line_of_fault (NotAssignable line) = Some line
line_of_fault (NotApplicable line) = Some line
line_of_fault (Limit line count) = Some line
line_of_fault (TooComplex line count) = Some line
line_of_fault Memory = None

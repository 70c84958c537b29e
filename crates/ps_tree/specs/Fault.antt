-- A fault's number and line.
use Rattle.std.specs.Prelude.{ℕ, Option, Some, None}
use Rattle.ps_base.specs.declared.line.Line.{Line}
use Rattle.ps_tree.specs.declared.fault.ParseFault.{ParseFault}
use Rattle.ps_tree.specs.declared.fault.ParseFault.TheVariants.{Unexpected, TooNested, Memory}

abbrev pub number_of : ParseFault → Option ℕ
number_of (Unexpected line token) = Some 1
number_of (TooNested line) = Some 2
number_of Memory = None

abbrev pub line_of_fault : ParseFault → Option Line
line_of_fault (Unexpected line token) = Some line
line_of_fault (TooNested line) = Some line
line_of_fault Memory = None

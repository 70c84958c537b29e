-- The first body of a program that is too complex.
use Rattle.std.specs.Prelude.{◌≡◌, Option, Some, None}
use Rattle.ps_program.specs.Node.{BodyNode}
use Rattle.ps_slots.specs.declared.complex.Complex.{Complex}
use Rattle.ps_typing.specs.Fault.{Fault, TooComplex}
use Rattle.ps_typing.specs.Program.{bodies, first_complex}

abbrev pub fault_of : Option Complex → Option Fault
fault_of None = None
fault_of (Some it) = Some (TooComplex it.line it.count)

-- the first in the order of the text, of the body itself and all within it; or that there is none
abbrev pub IsFirstComplex : BodyNode → Option Complex → Type 0
IsFirstComplex program found = first_complex (bodies program) ≡ fault_of found

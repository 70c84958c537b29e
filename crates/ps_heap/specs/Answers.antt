-- A result in code and the answer that it stands for.
use Rattle.std.specs.Prelude.{◌≡◌, ℤ, Result, Ok, Err}
use Rattle.ps_base.specs.declared.trap.Trap.{Trap}
use Rattle.ps_heap.specs.Operators.{Answer, Gives, Traps}

abbrev pub answer_of : Result ℤ Trap → Answer
answer_of (Ok z) = Gives z
answer_of (Err trap) = Traps trap

abbrev pub Is : Answer → Result ℤ Trap → Type 0
Is answer result = answer_of result ≡ answer

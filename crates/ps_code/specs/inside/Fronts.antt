-- What stands before bytes, after the code that was read.
use Rattle.std.specs.Prelude.{◌≡◌, ℕ, ◌*◌, ◌<◌, List, ◌∷◌, ◌++◌, length, drop}
use Rattle.ps_base.specs.declared.instr.Instr.{Instr}
use Rattle.ps_base.specs.Instr.{spelling, width_of, IsInstr}
use Rattle.ps_code.specs.Codes.{IsCode, operand_count}

-- too few bytes after a code, if it is one
abbrev pub IsShort : ℕ → List ℕ → Type 0
IsShort code rest = IsCode code → length rest < 4 * operand_count code

-- an instruction, and its length, whose spelling stands at the start
abbrev pub IsPrefix : ℕ → List ℕ → Instr × ℕ → Type 0
IsPrefix code rest x = (code ∷ rest ≡ spelling x.0 ++ drop x.1 (code ∷ rest)) × (x.1 ≡ width_of x.0) × IsInstr x.0

-- The instructions that the machine has: all but the calls on databases. At one of these it is stuck, as where there is none.
use Rattle.std.specs.Prelude.{◌≡◌, ℕ, Bool, true, false, Option, Some, if◌then◌else◌}
use Rattle.ps_code.specs.ps_base.declared.line.Line.{Line}
use Rattle.ps_code.specs.ps_base.declared.instr.Instr.{Instr}
use Rattle.ps_code.specs.ps_base.declared.instr.Instr.TheVariants.{Lib}
use Rattle.ps_heap.specs.Library.{LibraryProcedure, OnHeap, CreateDatabase, OpenDatabase, Commit, library_procedure}
use Rattle.ps_stepping.specs.Config.{Config, code_in, IsAt}
use Rattle.ps_stepping.specs.Machine.{Step, Stuck, acts, act}
use Rattle.ps_stepping.specs.Library.{library}

abbrev pub is_plain_call : Option LibraryProcedure → Bool
is_plain_call (Some (OnHeap CreateDatabase)) = false
is_plain_call (Some (OnHeap OpenDatabase)) = false
is_plain_call (Some (OnHeap Commit)) = false
is_plain_call _ = true

abbrev pub is_plain : Instr → Bool
is_plain (Lib k line) = is_plain_call (library_procedure k)
is_plain _ = true

-- what the machine does at an instruction whose own offset this is; the configuration stands after it already
abbrev pub acts_plainly : Instr → ℕ → Config → Step
acts_plainly i own c = if is_plain i then acts i own c else Stuck

-- The machine's step.
pub data PlainSteps (c : Config) : Step → Type 0 where
  at_plain : {i : Instr} → IsAt (code_in c.unit) c.at i → is_plain i ≡ true → PlainSteps c (act i c)
  at_another : {i : Instr} → IsAt (code_in c.unit) c.at i → is_plain i ≡ false → PlainSteps c Stuck
  at_none : ((i : Instr) → IsAt (code_in c.unit) c.at i → ⊥) → PlainSteps c Stuck

-- what it does at a call of the library
abbrev pub plain_library : ℕ → Line → Config → Step
plain_library k line c = if is_plain_call (library_procedure k) then library k line c else Stuck

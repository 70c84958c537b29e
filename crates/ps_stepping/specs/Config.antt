-- Where a run of a unit stands, and what is at hand there.
use Rattle.std.specs.Prelude.{◌≡◌, ℕ, zero, suc, ℤ, pos, List, [], ◌++◌, drop, Option, Some, None}
use Rattle.ps_code.specs.ps_base.Limits.{most_slots}
use Rattle.ps_code.specs.ps_base.CodeUnit.{UnitView, unit, ConstantView, ConstantsView, no_constants, constant_then}
use Rattle.ps_code.specs.ps_base.Instr.{spelling, IsInstr}
use Rattle.ps_code.specs.ps_base.declared.instr.Instr.{Instr}
use Rattle.ps_code.specs.ps_base.declared.code_unit.Frame.{Frame}
use Rattle.ps_heap.specs.Values.{Value, Nil}
use Rattle.ps_meaning.specs.Meaning.{Store}

-- the most words of one frame on each stack, its locals and what is pushed above them: as many as the slots of a body
abbrev pub frame_words : ℕ
frame_words = most_slots

-- The locals of a body: its ints and bools as numbers, and its references.
pub record Locals : Type 0 where
  pub nums : ℕ → ℤ
  pub refs : ℕ → Value

-- a body that waits for a call to come back: where it goes on, and what it had
pub record Caller : Type 0 where
  pub unit : UnitView
  pub at : ℕ
  pub nums : List ℤ
  pub refs : List Value
  pub locals : Locals
  pub scope : Option ℕ

-- The unit that runs, the offset of its next instruction, what is pushed on the two stacks (the top first), the locals, the current
-- scope, the bodies that wait (the last first), and what the run holds.
pub record Config : Type 0 where
  pub unit : UnitView
  pub at : ℕ
  pub nums : List ℤ
  pub refs : List Value
  pub locals : Locals
  pub scope : Option ℕ
  pub callers : List Caller
  pub store : Store

abbrev pub code_in : UnitView → List ℕ
code_in (unit code row frame) = code

abbrev pub constants_in : UnitView → ConstantsView
constants_in (unit code row frame) = row

abbrev pub frame_in : UnitView → Frame
frame_in (unit code row frame) = frame

-- the constant of this number
abbrev pub constant_at : ConstantsView → ℕ → Option ConstantView
constant_at no_constants k = None
constant_at (constant_then first rest) zero = Some first
constant_at (constant_then first rest) (suc k) = constant_at rest k

-- this instruction is spelled at an offset of the code
pub record IsAt (code : List ℕ) (at : ℕ) (i : Instr) : Type 0 where
  pub is_instr : IsInstr i
  pub rest : List ℕ
  pub spelled : drop at code ≡ spelling i ++ rest

-- the start of a program: its locals are 0 or nil, and nothing is pushed
abbrev pub start : UnitView → Store → Config
start u store = record {
  unit = u;
  at = 0;
  nums = [];
  refs = [];
  locals = record { nums = λ slot. pos 0; refs = λ slot. Nil };
  scope = None;
  callers = [];
  store = store;
}

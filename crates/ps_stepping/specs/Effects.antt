-- What each instruction does to the two stacks: how many it takes from the top of each, and how many it leaves there.
use Rattle.std.specs.Prelude.{◌≡◌, ℕ, zero, suc, ◌+◌, ◌≤◌, ◌⊎◌, List, [], ◌∷◌, nat_eq, length, get_or, Option, Some, if◌then◌else◌}
use Rattle.ps_meaning.specs.text_forms.declared.forms.Rows.{Rows}
use Rattle.ps_meaning.specs.text_forms.Forms.{forms_of, rows_of}
use Rattle.ps_code.specs.ps_base.CodeUnit.{ConstantView, text}
use Rattle.ps_code.specs.ps_base.declared.instr.Instr.{Instr}
use Rattle.ps_code.specs.ps_base.declared.instr.Instr.TheVariants.{Int, True, False, Text, Nil, GetM, GetP, SetM, SetP, KeptM, KeptP, KeepM, KeepP, Scope, Leave, Jump, JumpFalse, Again, And, Or, Not, Neg, Add, Sub, Mul, Div, Rem, EqM, NeM, LtM, LeM, GtM, GeM, EqP, NeP, EqT, NeT, LtT, LeT, GtT, GeT, Join, Part, Is, Make, FieldM, FieldP, SetFieldM, SetFieldP, FillM, FillP, ListM, ListP, ElemM, ElemP, SetElemM, SetElemP, Lwb, Upb, Closure, Call, Return, Lib, WriteI, WriteB, WriteT, Abort, ForStart, ForNext, ScanT, ScanI, ScanMore, DupM, DupP, DropM, DropP, JumpTrue}
use Rattle.ps_stepping.specs.Config.{Caller, Config, constants_in, frame_in, constant_at}

-- numbers taken and left, and references taken and left
pub record Moves : Type 0 where
  pub nums_taken : ℕ
  pub nums_left : ℕ
  pub refs_taken : ℕ
  pub refs_left : ℕ

pub data Effect : Type 0 where
  moves : (on_stacks : Moves) → Effect
  -- one where the instruction goes on, the other where it jumps
  either : (on jumping : Moves) → Effect
  -- the fields of the class that is this constant are taken, and a reference is left
  makes : (constant : ℕ) → Effect
  -- a procedure is taken, with so many references above it and as many numbers as are parameters of it; its body is entered with empty stacks
  enters : (references : ℕ) → Effect
  -- the body is left: this is taken from its stacks, and left on those of the body that waits, where they were at the call
  leaves : (given : Moves) → Effect

-- on the number stack alone, on the reference stack alone, and on both
abbrev pub nums : ℕ → ℕ → Effect
nums taken left = moves (record { nums_taken = taken; nums_left = left; refs_taken = 0; refs_left = 0 })

abbrev pub refs : ℕ → ℕ → Effect
refs taken left = moves (record { nums_taken = 0; nums_left = 0; refs_taken = taken; refs_left = left })

abbrev pub both : ℕ → ℕ → ℕ → ℕ → Effect
both nums_taken nums_left refs_taken refs_left =
    moves (record { nums_taken = nums_taken; nums_left = nums_left; refs_taken = refs_taken; refs_left = refs_left })

abbrev pub nothing : Effect
nothing = nums 0 0

abbrev pub taken_or_left : Effect
taken_or_left = either (record { nums_taken = 1; nums_left = 0; refs_taken = 0; refs_left = 0 }) (record { nums_taken = 1; nums_left = 1; refs_taken = 0; refs_left = 0 })

-- what a body gives: nothing, a number or a reference
abbrev pub given_by : ℕ → Moves
given_by zero = record { nums_taken = 0; nums_left = 0; refs_taken = 0; refs_left = 0 }
given_by (suc zero) = record { nums_taken = 1; nums_left = 1; refs_taken = 0; refs_left = 0 }
given_by (suc (suc kind)) = record { nums_taken = 0; nums_left = 0; refs_taken = 1; refs_left = 1 }

-- what each procedure of the library takes and leaves, by its number from 0
abbrev pub library_effects : List Effect
library_effects =
    refs 2 1 ∷ refs 3 1 ∷ refs 0 1 ∷ refs 0 1 ∷ refs 3 0 ∷ refs 2 1 ∷ both 1 0 2 0 ∷ both 1 0 1 1 ∷ both 0 1 1 0 ∷ refs 0 1 ∷ nums 0 1 ∷ both 0 1 1 0
    ∷ both 1 0 0 1 ∷ []

abbrev pub library_effect : ℕ → Effect
library_effect k = get_or library_effects k nothing

-- a width stands on the number stack where the operand says so
abbrev pub width_and : ℕ → ℕ
width_and w = if nat_eq w 1 then 1 else 0

abbrev pub effect_of : Instr → Effect
effect_of (Int v) = nums 0 1
effect_of True = nums 0 1
effect_of False = nums 0 1
effect_of (Text k) = refs 0 1
effect_of Nil = refs 0 1
effect_of (GetM s) = nums 0 1
effect_of (GetP s) = refs 0 1
effect_of (SetM s) = nums 1 0
effect_of (SetP s) = refs 1 0
effect_of (KeptM u i) = nums 0 1
effect_of (KeptP u i) = refs 0 1
effect_of (KeepM u i) = nums 1 0
effect_of (KeepP u i) = refs 1 0
effect_of (Scope k) = nothing
effect_of Leave = nothing
effect_of (Jump t) = nothing
effect_of (JumpFalse t) = nums 1 0
effect_of (Again t) = nums 1 0
effect_of (And t) = taken_or_left
effect_of (Or t) = taken_or_left
effect_of Not = nums 1 1
effect_of (Neg line) = nums 1 1
effect_of (Add line) = nums 2 1
effect_of (Sub line) = nums 2 1
effect_of (Mul line) = nums 2 1
effect_of (Div line) = nums 2 1
effect_of (Rem line) = nums 2 1
effect_of EqM = nums 2 1
effect_of NeM = nums 2 1
effect_of LtM = nums 2 1
effect_of LeM = nums 2 1
effect_of GtM = nums 2 1
effect_of GeM = nums 2 1
effect_of EqP = both 0 1 2 0
effect_of NeP = both 0 1 2 0
effect_of EqT = both 0 1 2 0
effect_of NeT = both 0 1 2 0
effect_of LtT = both 0 1 2 0
effect_of LeT = both 0 1 2 0
effect_of GtT = both 0 1 2 0
effect_of GeT = both 0 1 2 0
effect_of (Join line) = refs 2 1
effect_of (Part line) = both 2 0 1 1
effect_of (Is k) = both 0 1 1 0
effect_of (Make k) = makes k
effect_of (FieldM k i line) = both 0 1 1 0
effect_of (FieldP k i line) = refs 1 1
effect_of (SetFieldM k i line) = both 1 0 1 0
effect_of (SetFieldP k i line) = refs 2 0
effect_of (FillM k line) = both 3 0 0 1
effect_of (FillP k line) = both 2 0 1 1
effect_of (ListM k n line) = both (1 + n) 0 0 1
effect_of (ListP k n line) = both 1 0 n 1
effect_of (ElemM line) = both 1 1 1 0
effect_of (ElemP line) = both 1 0 1 1
effect_of (SetElemM line) = both 2 0 1 0
effect_of (SetElemP line) = both 1 0 2 0
effect_of Lwb = both 0 1 1 0
effect_of Upb = both 0 1 1 0
effect_of (Closure k) = refs 0 1
effect_of (Call n line) = enters n
effect_of (Return k) = leaves (given_by k)
effect_of (Lib k line) = library_effect k
effect_of (WriteI w line) = nums (1 + width_and w) 0
effect_of (WriteB w line) = nums (1 + width_and w) 0
effect_of (WriteT w line) = both (width_and w) 0 1 0
effect_of (Abort line) = nothing
effect_of (ForStart s t line) = nothing
effect_of (ForNext s t) = nothing
effect_of (ScanT q s t line) = either (record { nums_taken = 0; nums_left = 0; refs_taken = 0; refs_left = 3 }) (record { nums_taken = 0; nums_left = 0; refs_taken = 0; refs_left = 0 })
effect_of (ScanI q s t line) = either (record { nums_taken = 0; nums_left = 1; refs_taken = 0; refs_left = 2 }) (record { nums_taken = 0; nums_left = 0; refs_taken = 0; refs_left = 0 })
effect_of (ScanMore s t) = nums 1 0
effect_of DupM = nums 1 2
effect_of DupP = refs 1 2
effect_of DropM = nums 1 0
effect_of DropP = refs 1 0
effect_of (JumpTrue t) = nums 1 0

-- so much was taken from the stacks, and so much left on them
pub record Moved (m : Moves) (c next : Config) : Type 0 where
  pub nums : length next.nums + m.nums_taken ≡ length c.nums + m.nums_left
  pub refs : length next.refs + m.refs_taken ≡ length c.refs + m.refs_left

-- the fields of a class lie on the stack of their form
abbrev pub taken_by : Rows → Moves
taken_by fields = record { nums_taken = fields.nums; nums_left = 0; refs_taken = fields.refs; refs_left = 1 }

-- a structure of the class of a constant is made
pub record Made (constant : ℕ) (c next : Config) : Type 0 where
  pub class : List ℕ
  pub named : constant_at (constants_in c.unit) constant ≡ Some (text class)
  pub moved : Moved (taken_by (rows_of (forms_of class))) c next

-- The body that calls waits, its stacks without the arguments and the procedure. The one that runs takes so many references, and its stacks are empty.
pub record Entered (references : ℕ) (c next : Config) : Type 0 where
  pub caller : Caller
  pub waits : next.callers ≡ caller ∷ c.callers
  pub taken : (frame_in next.unit).ref_params ≡ references
  pub nums : length caller.nums + (frame_in next.unit).num_params ≡ length c.nums
  pub refs : length caller.refs + (references + 1) ≡ length c.refs
  pub own_nums : next.nums ≡ []
  pub own_refs : next.refs ≡ []

-- the body that waits goes on, with what it had and what is given
pub record Left (given : Moves) (c next : Config) : Type 0 where
  pub caller : Caller
  pub waited : c.callers ≡ caller ∷ next.callers
  pub own_nums : given.nums_taken ≤ length c.nums
  pub own_refs : given.refs_taken ≤ length c.refs
  pub nums : length next.nums ≡ length caller.nums + given.nums_left
  pub refs : length next.refs ≡ length caller.refs + given.refs_left

abbrev pub HasEffect : Effect → Config → Config → Type 0
HasEffect (moves m) c next = Moved m c next
HasEffect (either on jumping) c next = Moved on c next ⊎ Moved jumping c next
HasEffect (makes constant) c next = Made constant c next
HasEffect (enters references) c next = Entered references c next
HasEffect (leaves given) c next = Left given c next

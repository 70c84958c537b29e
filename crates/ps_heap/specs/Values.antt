-- What a clause gives. A structure, a table or a vector is named by its number in the heap; a procedure is what it does and the scope
-- that it was made in.
use Rattle.std.specs.Prelude.{ℕ, suc, ℤ, pos, Bool, true, false, List, [], codes, Option}
use Rattle.std.specs.Fmt.{signed_decimal}
use Rattle.ps_base.specs.TyView.{TyView}
use Rattle.ps_base.specs.TyView as ty
use Rattle.ps_base.specs.CodeUnit.{UnitView}
use Rattle.ps_typing.specs.ps_program.Node.{BodyNode}

-- What a procedure does: a body as it is written, or the unit of code that one was made into. The meaning makes and calls procedures as they are
-- written, and the machine that steps through units those that are compiled.
pub data Routine : Type 0 where
  as_written : (of : BodyNode) → Routine
  as_compiled : (of : UnitView) → Routine

pub data Value : Type 0 where
  Num : (value : ℤ) → Value
  Flag : (value : Bool) → Value
  Text : (bytes : List ℕ) → Value
  Nil : Value
  Pointer : (object : ℕ) → Value
  Vector : (object : ℕ) → Value
  Procedure : (does : Routine) (scope : Option ℕ) → Value
  -- a clause of type void gives no value
  Nothing : Value

abbrev pub number_of : Bool → ℤ
number_of true = pos 1
number_of false = pos 0

-- a value as the number that stands for it: a bool is 0 or 1
abbrev pub word_of : Value → ℤ
word_of (Num z) = z
word_of (Flag b) = number_of b
word_of _ = pos 0

abbrev pub is_one : ℤ → Bool
is_one (pos (suc n)) = true
is_one z = false

abbrev pub flag_of : Value → Bool
flag_of v = is_one (word_of v)

abbrev pub flag_text : Bool → List ℕ
flag_text true = codes "true"
flag_text false = codes "false"

abbrev pub bytes_of : Value → List ℕ
bytes_of (Text bytes) = bytes
bytes_of _ = []

-- a value as `write` shows it
abbrev pub shown : TyView → Value → List ℕ
shown ty.Int v = signed_decimal (word_of v)
shown ty.Bool v = flag_text (flag_of v)
shown _ v = bytes_of v

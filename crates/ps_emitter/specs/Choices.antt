-- Which instruction of a family a form takes: `M` where ints and bools are meant, `T` for strings, and else `P`.
use Rattle.std.specs.Prelude.{ℕ, ◌+◌, Bool, true, false, if◌then◌else◌}
use Rattle.ps_base.specs.TyView.{TyView, TyViews}
use Rattle.ps_base.specs.TyView as types
use Rattle.ps_base.specs.declared.line.Line.{Line}
use Rattle.ps_base.specs.declared.operator.Operator.{Operator}
use Rattle.ps_base.specs.declared.operator.Operator.TheVariants as operator
use Rattle.ps_base.specs.declared.operator.Relation.{Relation}
use Rattle.ps_base.specs.declared.operator.Relation.TheVariants as relation
use Rattle.ps_base.specs.declared.instr.Instr.{Instr}
use Rattle.ps_base.specs.declared.instr.Instr.TheVariants as instr
use Rattle.ps_program.specs.declared.place.Place.{Place}
use Rattle.ps_program.specs.declared.place.Place.TheVariants.{Plain, Kept}
use Rattle.ps_typing.specs.Placing.{is_number}

abbrev pub by_type : TyView → Instr → Instr → Instr
by_type ty m p = if is_number ty then m else p

abbrev pub flag : Bool → Instr
flag true = instr.True
flag false = instr.False

-- pushes the value of a place, and pops into it
abbrev pub get : Place → TyView → Instr
get (Plain s) ty = by_type ty (instr.GetM s) (instr.GetP s)
get (Kept u i) ty = by_type ty (instr.KeptM u i) (instr.KeptP u i)

abbrev pub set : Place → TyView → Instr
set (Plain s) ty = by_type ty (instr.SetM s) (instr.SetP s)
set (Kept u i) ty = by_type ty (instr.KeepM u i) (instr.KeepP u i)

abbrev pub arith : Operator → Line → Instr
arith operator.Add line = instr.Add line
arith operator.Sub line = instr.Sub line
arith operator.Mul line = instr.Mul line
arith operator.Div line = instr.Div line
arith operator.Rem line = instr.Rem line

abbrev pub number_relation : Relation → Instr
number_relation relation.Equal = instr.EqM
number_relation relation.NotEqual = instr.NeM
number_relation relation.Less = instr.LtM
number_relation relation.LessEqual = instr.LeM
number_relation relation.Greater = instr.GtM
number_relation relation.GreaterEqual = instr.GeM

abbrev pub text_relation : Relation → Instr
text_relation relation.Equal = instr.EqT
text_relation relation.NotEqual = instr.NeT
text_relation relation.Less = instr.LtT
text_relation relation.LessEqual = instr.LeT
text_relation relation.Greater = instr.GtT
text_relation relation.GreaterEqual = instr.GeT

-- pointers and vectors are equal or not
abbrev pub identity : Relation → Instr
identity relation.NotEqual = instr.NeP
identity _ = instr.EqP

abbrev pub compare : Relation → TyView → Instr
compare op types.Int = number_relation op
compare op types.Bool = number_relation op
compare op types.Str = text_relation op
compare op _ = identity op

abbrev pub number_if : Bool → ℕ
number_if true = 1
number_if false = 0

abbrev pub write : TyView → Bool → Line → Instr
write types.Int wide line = instr.WriteI (number_if wide) line
write types.Bool wide line = instr.WriteB (number_if wide) line
write _ wide line = instr.WriteT (number_if wide) line

abbrev pub bound : Bool → Instr
bound true = instr.Upb
bound false = instr.Lwb

abbrev pub scan : Bool → ℕ → ℕ → ℕ → Line → Instr
scan true q s t line = instr.ScanT q s t line
scan false q s t line = instr.ScanI q s t line

-- how many arguments of a procedure of this type are references
abbrev pub references : TyViews → ℕ
references types.none = 0
references (types.more first rest) = (if is_number first then 0 else 1) + references rest

abbrev pub reference_arguments : TyView → ℕ
reference_arguments (types.Proc params gives) = references params
reference_arguments _ = 0

-- what a procedure leaves for its caller: nothing, a number or a reference
abbrev pub kind_of : TyView → ℕ
kind_of types.Void = 0
kind_of ty = if is_number ty then 1 else 2

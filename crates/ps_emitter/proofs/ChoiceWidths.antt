-- How many bytes the instructions of a family have.
use Rattle.std.proofs.Common.{◌≡◌, ℕ, Bool, true, false, refl}
use Rattle.std.specs.Prelude.{if◌then◌else◌}
use Rattle.ps_base.specs.TyView.{TyView}
use Rattle.ps_base.specs.TyView as types
use Rattle.ps_base.specs.Instr.{width_of}
use Rattle.ps_base.specs.declared.line.Line.{Line}
use Rattle.ps_base.specs.declared.operator.Operator.{Operator}
use Rattle.ps_base.specs.declared.operator.Operator.TheVariants as operator
use Rattle.ps_base.specs.declared.operator.Relation.{Relation}
use Rattle.ps_base.specs.declared.operator.Relation.TheVariants as relation
use Rattle.ps_base.specs.declared.instr.Instr.{Instr}
use Rattle.ps_typing.specs.Placing.{is_number}
use Rattle.ps_emitter.specs.Choices as choice

-- where each of two instructions has this width
chosen : (n : ℕ) (number : Bool) (i j : Instr) → width_of i ≡ n → width_of j ≡ n → width_of (if number then i else j) ≡ n
chosen n true i j h k = h
chosen n false i j h k = k

pub width_by_type : (n : ℕ) (ty : TyView) (i j : Instr) → width_of i ≡ n → width_of j ≡ n → width_of (choice.by_type ty i j) ≡ n
width_by_type n ty i j h k = chosen n (is_number ty) i j h k

-- as wide as the second, where both have one width
pub by_type_width : (ty : TyView) (m p : Instr) → width_of m ≡ width_of p → width_of (choice.by_type ty m p) ≡ width_of p
by_type_width ty m p same = width_by_type (width_of p) ty m p same refl

pub width_flag : (v : Bool) → width_of (choice.flag v) ≡ 1
width_flag true = refl
width_flag false = refl

pub width_arith : (op : Operator) (line : Line) → width_of (choice.arith op line) ≡ 5
width_arith operator.Add line = refl
width_arith operator.Sub line = refl
width_arith operator.Mul line = refl
width_arith operator.Div line = refl
width_arith operator.Rem line = refl

width_number_relation : (op : Relation) → width_of (choice.number_relation op) ≡ 1
width_number_relation relation.Equal = refl
width_number_relation relation.NotEqual = refl
width_number_relation relation.Less = refl
width_number_relation relation.LessEqual = refl
width_number_relation relation.Greater = refl
width_number_relation relation.GreaterEqual = refl

width_text_relation : (op : Relation) → width_of (choice.text_relation op) ≡ 1
width_text_relation relation.Equal = refl
width_text_relation relation.NotEqual = refl
width_text_relation relation.Less = refl
width_text_relation relation.LessEqual = refl
width_text_relation relation.Greater = refl
width_text_relation relation.GreaterEqual = refl

width_identity : (op : Relation) → width_of (choice.identity op) ≡ 1
width_identity relation.NotEqual = refl
width_identity other = refl

pub width_compare : (op : Relation) (ty : TyView) → width_of (choice.compare op ty) ≡ 1
width_compare op types.Int = width_number_relation op
width_compare op types.Bool = width_number_relation op
width_compare op types.Str = width_text_relation op
width_compare op other = width_identity op

pub width_write : (ty : TyView) (wide : Bool) (line : Line) → width_of (choice.write ty wide line) ≡ 9
width_write types.Int wide line = refl
width_write types.Bool wide line = refl
width_write other wide line = refl

pub width_bound : (upper : Bool) → width_of (choice.bound upper) ≡ 1
width_bound true = refl
width_bound false = refl

pub width_scan : (text : Bool) (q s t : ℕ) (line : Line) → width_of (choice.scan text q s t line) ≡ 17
width_scan true q s t line = refl
width_scan false q s t line = refl

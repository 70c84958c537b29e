-- The instructions of each family can be spelled where the numbers in them can.
use Rattle.std.proofs.Common.{ℕ, ◌<◌, Bool, true, false, List, [], ◌∷◌, ◌++◌, arith}
use Rattle.std.specs.Prelude.{◌^◌, pos, if◌then◌else◌}
use Rattle.std.specs.List.{AllByRecursion}
use Rattle.ps_gen.specs.ps_base.TyView.{TyView, TyViews}
use Rattle.ps_gen.specs.ps_base.TyView as types
use Rattle.ps_gen.specs.ps_base.Instr.{IsInstr}
use Rattle.ps_gen.specs.ps_base.declared.line.Line.{Line}
use Rattle.ps_gen.specs.ps_base.declared.operator.Operator.{Operator}
use Rattle.ps_gen.specs.ps_base.declared.operator.Operator.TheVariants as operator
use Rattle.ps_gen.specs.ps_base.declared.operator.Relation.{Relation}
use Rattle.ps_gen.specs.ps_base.declared.operator.Relation.TheVariants as relation
use Rattle.ps_gen.specs.ps_base.declared.instr.Instr.{Instr}
use Rattle.ps_gen.specs.ps_base.declared.instr.Instr.TheVariants as instr
use Rattle.ps_gen.specs.ps_program.declared.place.Place.{Place}
use Rattle.ps_gen.specs.ps_program.declared.place.Place.TheVariants.{Plain, Kept}
use Rattle.ps_typing_laws.specs.ps_typing.Placing.{is_number}
use Rattle.ps_typing_laws.specs.Counted.{Each, Slot, slot_of}
use Rattle.ps_gen.specs.ps_emitter.Choices as choice
use Rattle.ps_unit_laws.specs.Fields.{IsWord, IsLine, IsPlace}

abbrev pub Spelled : List Instr → Type 0
Spelled is = AllByRecursion IsInstr is

pub join : (is js : List Instr) → Spelled is → Spelled js → Spelled (is ++ js)
join [] js h k = k
join (i ∷ is) js h k = (h.0, join is js h.1 k)

chosen : (number : Bool) (i j : Instr) → IsInstr i → IsInstr j → IsInstr (if number then i else j)
chosen true i j h k = h
chosen false i j h k = k

pub by_type_is : (ty : TyView) (i j : Instr) → IsInstr i → IsInstr j → IsInstr (choice.by_type ty i j)
by_type_is ty i j h k = chosen (is_number ty) i j h k

abbrev pub AreSmall : List Slot → Type 0
AreSmall slots = Each (λ (s : Slot). s.slot < 2 ^ 32) slots

pub get_is : (place : Place) (ty : TyView) → IsPlace place → AreSmall (slot_of ty place) → IsInstr (choice.get place ty)
get_is (Plain slot) ty h small = by_type_is ty (instr.GetM slot) (instr.GetP slot) (small.0, tt) (small.0, tt)
get_is (Kept up position) ty h small = by_type_is ty (instr.KeptM up position) (instr.KeptP up position) (h.0, (h.1, tt)) (h.0, (h.1, tt))

pub set_is : (place : Place) (ty : TyView) → IsPlace place → AreSmall (slot_of ty place) → IsInstr (choice.set place ty)
set_is (Plain slot) ty h small = by_type_is ty (instr.SetM slot) (instr.SetP slot) (small.0, tt) (small.0, tt)
set_is (Kept up position) ty h small = by_type_is ty (instr.KeepM up position) (instr.KeepP up position) (h.0, (h.1, tt)) (h.0, (h.1, tt))

pub flag_is : (v : Bool) → IsInstr (choice.flag v)
flag_is true = tt
flag_is false = tt

pub arith_is : (op : Operator) (line : Line) → IsLine line → IsInstr (choice.arith op line)
arith_is operator.Add line h = (h, tt)
arith_is operator.Sub line h = (h, tt)
arith_is operator.Mul line h = (h, tt)
arith_is operator.Div line h = (h, tt)
arith_is operator.Rem line h = (h, tt)

number_relation_is : (op : Relation) → IsInstr (choice.number_relation op)
number_relation_is relation.Equal = tt
number_relation_is relation.NotEqual = tt
number_relation_is relation.Less = tt
number_relation_is relation.LessEqual = tt
number_relation_is relation.Greater = tt
number_relation_is relation.GreaterEqual = tt

text_relation_is : (op : Relation) → IsInstr (choice.text_relation op)
text_relation_is relation.Equal = tt
text_relation_is relation.NotEqual = tt
text_relation_is relation.Less = tt
text_relation_is relation.LessEqual = tt
text_relation_is relation.Greater = tt
text_relation_is relation.GreaterEqual = tt

identity_is : (op : Relation) → IsInstr (choice.identity op)
identity_is relation.NotEqual = tt
identity_is other = tt

pub compare_is : (op : Relation) (ty : TyView) → IsInstr (choice.compare op ty)
compare_is op types.Int = number_relation_is op
compare_is op types.Bool = number_relation_is op
compare_is op types.Str = text_relation_is op
compare_is op other = identity_is op

number_if_small : (wide : Bool) → IsWord (choice.number_if wide)
number_if_small true = omega arith
number_if_small false = omega arith

pub write_is : (ty : TyView) (wide : Bool) (line : Line) → IsLine line → IsInstr (choice.write ty wide line)
write_is types.Int wide line h = (number_if_small wide, (h, tt))
write_is types.Bool wide line h = (number_if_small wide, (h, tt))
write_is other wide line h = (number_if_small wide, (h, tt))

pub bound_is : (upper : Bool) → IsInstr (choice.bound upper)
bound_is true = tt
bound_is false = tt

pub scan_is : (text : Bool) (q s t : ℕ) (line : Line) → IsWord q → IsWord s → IsWord t → IsLine line → IsInstr (choice.scan text q s t line)
scan_is true q s t line a b c h = (a, (b, (c, (h, tt))))
scan_is false q s t line a b c h = (a, (b, (c, (h, tt))))

pub call_is : (text : Bool) (line : Line) → IsLine line → IsInstr (instr.Call (if text then 2 else 1) line)
call_is true line h = (omega arith, (h, tt))
call_is false line h = (omega arith, (h, tt))

pub kind_is : (ty : TyView) → IsInstr (instr.Return (choice.kind_of ty))
kind_is types.Void = (omega arith, tt)
kind_is types.Int = (omega arith, tt)
kind_is types.Bool = (omega arith, tt)
kind_is types.Str = (omega arith, tt)
kind_is types.Pntr = (omega arith, tt)
kind_is (types.Vector element) = (omega arith, tt)
kind_is (types.Proc parameters gives) = (omega arith, tt)

pub zero_is : IsInstr (instr.Int (pos 0))
zero_is = omega arith

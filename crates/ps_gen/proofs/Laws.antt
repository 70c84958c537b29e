-- The code of each form is made of the pieces that its row names.
use Rattle.std.proofs.Common.{◌≡◌, ℕ, ◌+◌, List, [], ◌∷◌, ◌++◌, Bool, true, false, Option, refl, ap, if◌then◌else◌, ◌∙◌, arith, append_assoc, pos}
use Rattle.std.proofs.lemmas.List.{append-nil}
use Rattle.ps_base.specs.TyView.{TyView}
use Rattle.ps_base.specs.TyView as types
use Rattle.ps_base.specs.Instr.{width_of}
use Rattle.ps_base.specs.CodeUnit.{text}
use Rattle.ps_base.specs.declared.instr.Instr.{Instr}
use Rattle.ps_base.specs.declared.instr.Instr.TheVariants as instr
use Rattle.ps_base.specs.declared.line.Line.{Line}
use Rattle.ps_base.specs.declared.operator.Operator.{Operator}
use Rattle.ps_base.specs.declared.operator.Relation.{Relation}
use Rattle.ps_base.specs.declared.operator.Relation.TheVariants as relation
use Rattle.ps_program.specs.declared.place.Place.{Place}
use Rattle.ps_program.specs.Node.{Node, Nodes, none, more, Arms, no_arms, more_arms, arm, BodyNode, body}
use Rattle.ps_program.specs.Node as node
use Rattle.ps_program.specs.Parts.{Part, operand, label, branch, fold_all, fold_arms}
use Rattle.ps_program.specs.Slots.{sum_of}
use Rattle.ps_emitter.specs.ps_typing.Locals.{own_taken, taken_in}
use Rattle.ps_emitter.specs.Giving.{type_of, element_of}
use Rattle.ps_emitter.specs.Choices as choice
use Rattle.ps_emitter.proofs.ChoiceWidths.{by_type_width, width_flag, width_arith, width_compare, width_write, width_bound, width_scan}
use Rattle.ps_gen.proofs.Widths.{width_get, width_set}
use Rattle.ps_gen.specs.Emission.{size, size_arms, count_arms, size_entered, size_left, count, count_all, count_scope, entered, left, emit, emit_arms, emit_labels, size_labels, items_in}
use Rattle.ps_gen.specs.Units.{constants, constants_of_all, constants_of_arms, scope_constants}
use Rattle.ps_emitter.specs.Pieces.{Same, ◌▷◌, empty, one, takes, to_behind, from_begin}
use Rattle.ps_gen.specs.inside.Clauses.{closing, clause, clauses, labels_of, arms_of, entering, leaving, made, label_of, arm_of, taken_all, taken_arms}
use Rattle.ps_emitter.specs.Instructions.{naming, taking}

-- what the clauses of a list take

all_taken : (stack : Bool) (as_part : ℕ → Part ℕ) → ((n : ℕ) (ps : List (Part ℕ)) → sum_of (as_part n ∷ ps) ≡ n + sum_of ps) → (ns : Nodes) (ps : List (Part ℕ)) → sum_of (fold_all (λ clause parts. own_taken stack clause + sum_of parts) as_part ns ++ ps) ≡ taken_all stack ns + sum_of ps
all_taken stack as_part sums none ps = omega arith
all_taken stack as_part sums (more n ns) ps =
    let rest = all_taken stack as_part sums ns ps in
    let first = sums (taken_in stack n) (fold_all (λ clause parts. own_taken stack clause + sum_of parts) as_part ns ++ ps) in
    omega (arith, rest, first)

all_operands : (stack : Bool) (ns : Nodes) → sum_of (fold_all (λ clause parts. own_taken stack clause + sum_of parts) operand ns) ≡ taken_all stack ns
all_operands stack none = refl
all_operands stack (more n ns) = ap (λ k. taken_in stack n + k) (all_operands stack ns)

all_branches : (stack : Bool) (ns : Nodes) → sum_of (fold_all (λ clause parts. own_taken stack clause + sum_of parts) branch ns) ≡ taken_all stack ns
all_branches stack none = refl
all_branches stack (more n ns) = ap (λ k. taken_in stack n + k) (all_branches stack ns)

arms_taken : (stack : Bool) (arms : Arms) (d : ℕ) → sum_of (fold_arms (λ clause parts. own_taken stack clause + sum_of parts) arms ++ branch d ∷ []) ≡ taken_arms stack arms + d
arms_taken stack no_arms d = omega arith
arms_taken stack (more_arms (arm labels a) rest) d =
    let g : Node → List (Part ℕ) → ℕ = λ clause parts. own_taken stack clause + sum_of parts in
    let behind = branch (taken_in stack a) ∷ (fold_arms g rest ++ branch d ∷ []) in
    let whole = ap sum_of (append_assoc (fold_all g label labels) (branch (taken_in stack a) ∷ fold_arms g rest) (branch d ∷ [])) in
    let first = all_taken stack label (λ n ps. refl) labels behind in
    let others = arms_taken stack rest d in
    omega (arith, whole, first, others)

-- the clauses with a first part

pub set_name : (place : Place) (ty : TyView) (e : Node) → Same (clause e ▷ one (choice.set place ty)) (clause (node.SetName place ty e))
unfolding ◌▷◌ clause clauses naming one takes empty to_behind from_begin entering leaving arms_of labels_of
set_name place ty e = record {
  ends = λ at. omega (arith, width_set place ty);
  names = λ k. omega arith;
  constants = append-nil (constants e);
  nums = omega arith;
  refs = omega arith;
  literals = simp append-nil refl;
  instrs = λ at k. refl;
}

pub let_name : (place : Place) (ty : TyView) (e : Node) → Same (clause e ▷ (one (choice.set place ty) ▷ taking place ty)) (clause (node.Let place ty e))
unfolding ◌▷◌ clause clauses naming one takes empty to_behind from_begin entering leaving arms_of labels_of
let_name place ty e = record {
  ends = λ at. omega (arith, width_set place ty);
  names = λ k. omega arith;
  constants = append-nil (constants e);
  nums = omega arith;
  refs = omega arith;
  literals = simp append-nil refl;
  instrs = λ at k. refl;
}

pub and_is : (a b : Node) → Same (clause a ▷ to_behind (λ end. end) (λ t. one (instr.And t) ▷ clause b)) (clause (node.And a b))
unfolding ◌▷◌ clause clauses naming one takes empty to_behind from_begin entering leaving arms_of labels_of
and_is a b = record {
  ends = λ at. omega arith;
  names = λ k. omega arith;
  constants = refl;
  nums = omega arith;
  refs = omega arith;
  literals = refl;
  instrs = λ at k. refl;
}

pub or_is : (a b : Node) → Same (clause a ▷ to_behind (λ end. end) (λ t. one (instr.Or t) ▷ clause b)) (clause (node.Or a b))
unfolding ◌▷◌ clause clauses naming one takes empty to_behind from_begin entering leaving arms_of labels_of
or_is a b = record {
  ends = λ at. omega arith;
  names = λ k. omega arith;
  constants = refl;
  nums = omega arith;
  refs = omega arith;
  literals = refl;
  instrs = λ at k. refl;
}

pub not_is : (e : Node) → Same (clause e ▷ one instr.Not) (clause (node.Not e))
unfolding ◌▷◌ clause clauses naming one takes empty to_behind from_begin entering leaving arms_of labels_of
not_is e = record {
  ends = λ at. omega arith;
  names = λ k. omega arith;
  constants = append-nil (constants e);
  nums = omega arith;
  refs = omega arith;
  literals = simp append-nil refl;
  instrs = λ at k. refl;
}

pub neg_is : (e : Node) (line : Line) → Same (clause e ▷ one (instr.Neg line)) (clause (node.Neg e line))
unfolding ◌▷◌ clause clauses naming one takes empty to_behind from_begin entering leaving arms_of labels_of
neg_is e line = record {
  ends = λ at. omega arith;
  names = λ k. omega arith;
  constants = append-nil (constants e);
  nums = omega arith;
  refs = omega arith;
  literals = simp append-nil refl;
  instrs = λ at k. refl;
}

pub plus_is : (e : Node) → Same (clause e ▷ empty) (clause (node.Plus e))
unfolding ◌▷◌ clause clauses naming one takes empty to_behind from_begin entering leaving arms_of labels_of
plus_is e = record {
  ends = λ at. omega arith;
  names = λ k. omega arith;
  constants = append-nil (constants e);
  nums = omega arith;
  refs = omega arith;
  literals = simp append-nil refl;
  instrs = λ at k. append-nil (emit e at k);
}

pub arith_is : (op : Operator) (a b : Node) (line : Line) → Same (clause a ▷ (clause b ▷ one (choice.arith op line))) (clause (node.Arith op a b line))
unfolding ◌▷◌ clause clauses naming one takes empty to_behind from_begin entering leaving arms_of labels_of
arith_is op a b line = record {
  ends = λ at. omega (arith, width_arith op line);
  names = λ k. omega arith;
  constants = ap (λ z. constants a ++ z) (append-nil (constants b));
  nums = omega arith;
  refs = omega arith;
  literals = simp append-nil refl;
  instrs = λ at k. refl;
}

pub compare_is : (op : Relation) (ty : TyView) (a b : Node) → Same (clause a ▷ (clause b ▷ one (choice.compare op ty))) (clause (node.Compare op ty a b))
unfolding ◌▷◌ clause clauses naming one takes empty to_behind from_begin entering leaving arms_of labels_of
compare_is op ty a b = record {
  ends = λ at. omega (arith, width_compare op ty);
  names = λ k. omega arith;
  constants = ap (λ z. constants a ++ z) (append-nil (constants b));
  nums = omega arith;
  refs = omega arith;
  literals = simp append-nil refl;
  instrs = λ at k. refl;
}

pub is_is : (e : Node) (class : List ℕ) → Same (clause e ▷ naming instr.Is (text class)) (clause (node.Is e class))
unfolding ◌▷◌ clause clauses naming one takes empty to_behind from_begin entering leaving arms_of labels_of
is_is e class = record {
  ends = λ at. omega arith;
  names = λ k. omega arith;
  constants = refl;
  nums = omega arith;
  refs = omega arith;
  literals = simp append-nil refl;
  instrs = λ at k. refl;
}

pub join_is : (a b : Node) (line : Line) → Same (clause a ▷ (clause b ▷ one (instr.Join line))) (clause (node.Join a b line))
unfolding ◌▷◌ clause clauses naming one takes empty to_behind from_begin entering leaving arms_of labels_of
join_is a b line = record {
  ends = λ at. omega arith;
  names = λ k. omega arith;
  constants = ap (λ z. constants a ++ z) (append-nil (constants b));
  nums = omega arith;
  refs = omega arith;
  literals = simp append-nil refl;
  instrs = λ at k. refl;
}

pub part_is : (a b c : Node) (line : Line) → Same (clause a ▷ (clause b ▷ (clause c ▷ one (instr.Part line)))) (clause (node.Part a b c line))
unfolding ◌▷◌ clause clauses naming one takes empty to_behind from_begin entering leaving arms_of labels_of
part_is a b c line = record {
  ends = λ at. omega arith;
  names = λ k. omega arith;
  constants = ap (λ z. constants a ++ (constants b ++ z)) (append-nil (constants c));
  nums = omega arith;
  refs = omega arith;
  literals = simp append-nil refl;
  instrs = λ at k. refl;
}

pub field_is : (e : Node) (class : List ℕ) (index : ℕ) (ty : TyView) (line : Line) → Same (clause e ▷ naming (λ c. choice.by_type ty (instr.FieldM c index line) (instr.FieldP c index line)) (text class)) (clause (node.Field e class index ty line))
unfolding ◌▷◌ clause clauses naming one takes empty to_behind from_begin entering leaving arms_of labels_of
field_is e class index ty line = record {
  ends = λ at. omega (arith, by_type_width ty (instr.FieldM 0 index line) (instr.FieldP 0 index line) refl);
  names = λ k. omega arith;
  constants = refl;
  nums = omega arith;
  refs = omega arith;
  literals = simp append-nil refl;
  instrs = λ at k. refl;
}

pub set_field_is : (p : Node) (class : List ℕ) (index : ℕ) (ty : TyView) (e : Node) (line : Line) → Same (clause p ▷ (clause e ▷ naming (λ c. choice.by_type ty (instr.SetFieldM c index line) (instr.SetFieldP c index line)) (text class))) (clause (node.SetField p class index ty e line))
unfolding ◌▷◌ clause clauses naming one takes empty to_behind from_begin entering leaving arms_of labels_of
set_field_is p class index ty e line = record {
  ends = λ at. omega (arith, by_type_width ty (instr.SetFieldM 0 index line) (instr.SetFieldP 0 index line) refl);
  names = λ k. omega arith;
  constants = refl;
  nums = omega arith;
  refs = omega arith;
  literals = simp append-nil refl;
  instrs = λ at k. refl;
}

pub element_is : (a b : Node) (ty : TyView) (line : Line) → Same (clause a ▷ (clause b ▷ one (choice.by_type ty (instr.ElemM line) (instr.ElemP line)))) (clause (node.Element a b ty line))
unfolding ◌▷◌ clause clauses naming one takes empty to_behind from_begin entering leaving arms_of labels_of
element_is a b ty line = record {
  ends = λ at. omega (arith, by_type_width ty (instr.ElemM line) (instr.ElemP line) refl);
  names = λ k. omega arith;
  constants = ap (λ z. constants a ++ z) (append-nil (constants b));
  nums = omega arith;
  refs = omega arith;
  literals = simp append-nil refl;
  instrs = λ at k. refl;
}

pub set_element_is : (a b c : Node) (ty : TyView) (line : Line) → Same (clause a ▷ (clause b ▷ (clause c ▷ one (choice.by_type ty (instr.SetElemM line) (instr.SetElemP line))))) (clause (node.SetElement a b c ty line))
unfolding ◌▷◌ clause clauses naming one takes empty to_behind from_begin entering leaving arms_of labels_of
set_element_is a b c ty line = record {
  ends = λ at. omega (arith, by_type_width ty (instr.SetElemM line) (instr.SetElemP line) refl);
  names = λ k. omega arith;
  constants = ap (λ z. constants a ++ (constants b ++ z)) (append-nil (constants c));
  nums = omega arith;
  refs = omega arith;
  literals = simp append-nil refl;
  instrs = λ at k. refl;
}

pub bound_is : (e : Node) (upper : Bool) → Same (clause e ▷ one (choice.bound upper)) (clause (node.Bound e upper))
unfolding ◌▷◌ clause clauses naming one takes empty to_behind from_begin entering leaving arms_of labels_of
bound_is e upper = record {
  ends = λ at. omega (arith, width_bound upper);
  names = λ k. omega arith;
  constants = append-nil (constants e);
  nums = omega arith;
  refs = omega arith;
  literals = simp append-nil refl;
  instrs = λ at k. refl;
}

pub call_is : (f : Node) (args : Nodes) (line : Line) → Same (clause f ▷ (clauses args ▷ one (instr.Call (choice.reference_arguments (type_of f)) line))) (clause (node.Call f args line))
unfolding ◌▷◌ clause clauses naming one takes empty to_behind from_begin entering leaving arms_of labels_of
call_is f args line = record {
  ends = λ at. omega arith;
  names = λ k. omega arith;
  constants = ap (λ z. constants f ++ z) (append-nil (constants_of_all args));
  nums = omega (arith, all_operands true args);
  refs = omega (arith, all_operands false args);
  literals = simp append-nil refl;
  instrs = λ at k. refl;
}

-- the clauses without

pub int_is : (v : _) → Same (one (instr.Int v)) (clause (node.Int v))
unfolding ◌▷◌ clause clauses naming one takes empty to_behind from_begin entering leaving arms_of labels_of
int_is v = record {
  ends = λ at. omega arith;
  names = λ k. omega arith;
  constants = refl;
  nums = omega arith;
  refs = omega arith;
  literals = refl;
  instrs = λ at k. refl;
}

pub flag_is : (b : Bool) → Same (one (choice.flag b)) (clause (node.Flag b))
unfolding ◌▷◌ clause clauses naming one takes empty to_behind from_begin entering leaving arms_of labels_of
flag_is b = record {
  ends = λ at. omega (arith, width_flag b);
  names = λ k. omega arith;
  constants = refl;
  nums = omega arith;
  refs = omega arith;
  literals = refl;
  instrs = λ at k. refl;
}

pub text_is : (bytes : List ℕ) → Same (naming instr.Text (text bytes)) (clause (node.Text bytes))
unfolding ◌▷◌ clause clauses naming one takes empty to_behind from_begin entering leaving arms_of labels_of
text_is bytes = record {
  ends = λ at. omega arith;
  names = λ k. omega arith;
  constants = refl;
  nums = omega arith;
  refs = omega arith;
  literals = refl;
  instrs = λ at k. refl;
}

pub nil_is : Same (one instr.Nil) (clause (node.Nil))
unfolding ◌▷◌ clause clauses naming one takes empty to_behind from_begin entering leaving arms_of labels_of
nil_is = record {
  ends = λ at. omega arith;
  names = λ k. omega arith;
  constants = refl;
  nums = omega arith;
  refs = omega arith;
  literals = refl;
  instrs = λ at k. refl;
}

pub name_is : (place : Place) (ty : TyView) → Same (one (choice.get place ty)) (clause (node.Name place ty))
unfolding ◌▷◌ clause clauses naming one takes empty to_behind from_begin entering leaving arms_of labels_of
name_is place ty = record {
  ends = λ at. omega (arith, width_get place ty);
  names = λ k. omega arith;
  constants = refl;
  nums = omega arith;
  refs = omega arith;
  literals = refl;
  instrs = λ at k. refl;
}

pub class_is : Same (empty) (clause (node.Class))
unfolding ◌▷◌ clause clauses naming one takes empty to_behind from_begin entering leaving arms_of labels_of
class_is = record {
  ends = λ at. omega arith;
  names = λ k. omega arith;
  constants = refl;
  nums = omega arith;
  refs = omega arith;
  literals = refl;
  instrs = λ at k. refl;
}

pub empty_is : Same (empty) (clause (node.Empty))
unfolding ◌▷◌ clause clauses naming one takes empty to_behind from_begin entering leaving arms_of labels_of
empty_is = record {
  ends = λ at. omega arith;
  names = λ k. omega arith;
  constants = refl;
  nums = omega arith;
  refs = omega arith;
  literals = refl;
  instrs = λ at k. refl;
}

pub block_is : (scope : Option (List ℕ)) (items : Nodes) → Same (entering scope ▷ (clauses items ▷ leaving scope)) (clause (node.Block scope items))
unfolding ◌▷◌ clause clauses naming one takes empty to_behind from_begin entering leaving arms_of labels_of
block_is scope items = record {
  ends = λ at. omega arith;
  names = λ k. omega arith;
  constants = ap (λ z. scope_constants scope ++ z) (append-nil (constants_of_all items));
  nums = omega (arith, all_branches true items);
  refs = omega (arith, all_branches false items);
  literals = simp append-nil refl;
  instrs = λ at k. refl;
}

pub if_do_is : (c a : Node) → Same (clause c ▷ to_behind (λ end. end) (λ t. one (instr.JumpFalse t) ▷ clause a)) (clause (node.IfDo c a))
unfolding ◌▷◌ clause clauses naming one takes empty to_behind from_begin entering leaving arms_of labels_of
if_do_is c a = record {
  ends = λ at. omega arith;
  names = λ k. omega arith;
  constants = refl;
  nums = omega arith;
  refs = omega arith;
  literals = refl;
  instrs = λ at k. refl;
}

pub if_else_is : (c a b : Node) → Same (clause c ▷ (to_behind (λ end. end + 5) (λ t. one (instr.JumpFalse t) ▷ clause a) ▷ to_behind (λ end. end) (λ t. one (instr.Jump t) ▷ clause b))) (clause (node.IfElse c a b))
unfolding ◌▷◌ clause clauses naming one takes empty to_behind from_begin entering leaving arms_of labels_of
if_else_is c a b = record {
  ends = λ at. omega arith;
  names = λ k. omega arith;
  constants = refl;
  nums = omega arith;
  refs = omega arith;
  literals = simp append_assoc refl;
  instrs = λ at k. refl;
}

pub while_is : (c a : Node) → Same (from_begin (λ begin. to_behind (λ end. end) (λ t. one (instr.Jump t) ▷ clause a) ▷ (clause c ▷ one (instr.Again (begin + 5))))) (clause (node.While c a))
unfolding ◌▷◌ clause clauses naming one takes empty to_behind from_begin entering leaving arms_of labels_of
while_is c a = record {
  ends = λ at. omega arith;
  names = λ k. omega arith;
  constants = ap (λ z. constants a ++ z) (append-nil (constants c));
  nums = omega arith;
  refs = omega arith;
  literals = simp (append-nil, append_assoc) refl;
  instrs = λ at k. refl;
}

pub repeat_is : (a c b : Node) → Same (from_begin (λ begin. to_behind (λ end. end) (λ t. one (instr.Jump t) ▷ clause b) ▷ (clause a ▷ (clause c ▷ one (instr.Again (begin + 5)))))) (clause (node.Repeat a c b))
unfolding ◌▷◌ clause clauses naming one takes empty to_behind from_begin entering leaving arms_of labels_of
repeat_is a c b = record {
  ends = λ at. omega arith;
  names = λ k. omega arith;
  constants = ap (λ z. constants b ++ (constants a ++ z)) (append-nil (constants c));
  nums = omega arith;
  refs = omega arith;
  literals = simp (append-nil, append_assoc) refl;
  instrs = λ at k. refl;
}

pub for_is : (slot : ℕ) (a b c : Node) (scope : Option (List ℕ)) (control : Place) (s : Node) (line : Line) → Same (made (node.For slot a b c scope control s line)) (clause (node.For slot a b c scope control s line))
unfolding ◌▷◌ clause clauses naming one takes empty to_behind from_begin entering leaving arms_of labels_of
for_is slot a b c scope control s line = record {
  ends = λ at. omega (arith, width_set control types.Int);
  names = λ k. omega arith;
  constants = ap (λ z. constants a ++ (constants b ++ (constants c ++ (scope_constants scope ++ z)))) (append-nil (constants s));
  nums = omega arith;
  refs = omega arith;
  literals = simp append-nil refl;
  instrs = λ at k.
      let turn = at + size a + 5 + size b + 5 + size c + 5 + 13 in
      let own = k + count a + count b + count c in
      let with_clause : ℕ → List Instr = λ w.
      emit a at k ++ instr.SetM slot ∷ (emit b (at + size a + 5) (k + count a) ++ instr.SetM (slot + 1) ∷ (emit c (at + size a + 5 + size b + 5) (k + count a + count b) ++ instr.SetM (slot + 2)
      ∷ instr.ForStart slot (turn + size_entered scope + 5 + w + size s + size_left scope + 9) line
      ∷ (entered scope own ++ instr.GetM slot ∷ choice.set control types.Int ∷ (emit s (turn + size_entered scope + 5 + w) (own + count_scope scope) ++ (left scope ++ instr.ForNext slot turn ∷ []))))) in
      ap with_clause (width_set control types.Int);
}

pub case_is : (e : Node) (arms : Arms) (d : Node) (ty : TyView) → Same (made (node.Case e arms d ty)) (clause (node.Case e arms d ty))
unfolding ◌▷◌ clause clauses naming one takes empty to_behind from_begin entering leaving arms_of labels_of
case_is e arms d ty = record {
  ends = λ at. omega (arith, by_type_width ty instr.DropM instr.DropP refl);
  names = λ k. omega arith;
  constants = refl;
  nums = omega (arith, arms_taken true arms (taken_in true d));
  refs = omega (arith, arms_taken false arms (taken_in false d));
  literals = refl;
  instrs = λ at k.
      let first = at + size e + size_arms arms in
      ap (λ w. emit e at k ++ (emit_arms ty (first + 1 + size d) arms (at + size e) (k + count e) ++ choice.by_type ty instr.DropM instr.DropP ∷ emit d (first + w) (k + count e + count_arms arms)))
      (by_type_width ty instr.DropM instr.DropP refl);
}

pub make_is : (class : List ℕ) (args : Nodes) → Same (clauses args ▷ naming instr.Make (text class)) (clause (node.Make class args))
unfolding ◌▷◌ clause clauses naming one takes empty to_behind from_begin entering leaving arms_of labels_of
make_is class args = record {
  ends = λ at. omega arith;
  names = λ k. omega arith;
  constants = refl;
  nums = omega (arith, all_operands true args);
  refs = omega (arith, all_operands false args);
  literals = simp append-nil refl;
  instrs = λ at k. refl;
}

pub fill_is : (l u e : Node) (ty : TyView) (line : Line) → Same (made (node.Fill l u e ty line)) (clause (node.Fill l u e ty line))
unfolding ◌▷◌ clause clauses naming one takes empty to_behind from_begin entering leaving arms_of labels_of
fill_is l u e ty line = record {
  ends = λ at. omega (arith, by_type_width (element_of ty) (instr.FillM 0 line) (instr.FillP 0 line) refl);
  names = λ k. omega arith;
  constants = refl;
  nums = omega arith;
  refs = omega arith;
  literals = simp append-nil refl;
  instrs = λ at k. refl;
}

pub elems_is : (l : Node) (items : Nodes) (ty : TyView) (line : Line) → Same (made (node.Elems l items ty line)) (clause (node.Elems l items ty line))
unfolding ◌▷◌ clause clauses naming one takes empty to_behind from_begin entering leaving arms_of labels_of
elems_is l items ty line = record {
  ends = λ at. omega (arith, by_type_width (element_of ty) (instr.ListM 0 (items_in items) line) (instr.ListP 0 (items_in items) line) refl);
  names = λ k. omega arith;
  constants = refl;
  nums = omega (arith, all_operands true items);
  refs = omega (arith, all_operands false items);
  literals = simp append-nil refl;
  instrs = λ at k. refl;
}

pub proc_is : (of : BodyNode) → Same (made (node.Proc of)) (clause (node.Proc of))
unfolding ◌▷◌ clause clauses naming one takes empty to_behind from_begin entering leaving arms_of labels_of closing
proc_is (body params gives tree scope line) = record {
  ends = λ at. omega arith;
  names = λ k. omega arith;
  constants = refl;
  nums = omega arith;
  refs = omega arith;
  literals = refl;
  instrs = λ at k. refl;
}

pub lib_is : (code : ℕ) (args : Nodes) (line : Line) → Same (clauses args ▷ one (instr.Lib code line)) (clause (node.Lib code args line))
unfolding ◌▷◌ clause clauses naming one takes empty to_behind from_begin entering leaving arms_of labels_of
lib_is code args line = record {
  ends = λ at. omega arith;
  names = λ k. omega arith;
  constants = append-nil (constants_of_all args);
  nums = omega (arith, all_operands true args);
  refs = omega (arith, all_operands false args);
  literals = simp append-nil refl;
  instrs = λ at k. refl;
}

pub scan_is : (string : Bool) (a f : Node) (q s : ℕ) (line : Line) → Same (made (node.Scan string a f q s line)) (clause (node.Scan string a f q s line))
unfolding ◌▷◌ clause clauses naming one takes empty to_behind from_begin entering leaving arms_of labels_of
scan_is string a f q s line = record {
  ends = λ at. omega (arith, width_scan string q s 0 line);
  names = λ k. omega arith;
  constants = ap (λ z. constants a ++ z) (append-nil (constants f));
  nums = omega arith;
  refs = omega arith;
  literals = simp append-nil refl;
  instrs = λ at k.
      let procedure = at + size a + 5 in
      let behind = procedure + size f + 5 in
      let with_turn : ℕ → ℕ → List Instr = λ turn w.
      emit a at k ++ instr.SetP q ∷ (emit f procedure (k + count a) ++ instr.SetP (q + 1)
      ∷ instr.Int (pos 0) ∷ instr.SetM s ∷ instr.Int (pos 0) ∷ instr.SetM (s + 1) ∷ instr.Int (pos 0) ∷ instr.SetM (s + 2)
      ∷ choice.scan string q s (turn + w + 9 + 9) line ∷ instr.Call (if string then 2 else 1) line ∷ instr.ScanMore s turn ∷ instr.GetM s ∷ []) in
      let zeros_long : behind + 5 + 5 + 5 + 5 + 5 + 5 ≡ behind + 30 = omega arith in
      ap (λ turn. with_turn turn (width_of (choice.scan string q s 0 line))) zeros_long ∙ ap (with_turn (behind + 30)) (width_scan string q s 0 line);
}

pub write_is : (e w : Node) (wide : Bool) (ty : TyView) (line : Line) → Same (clause e ▷ (clause w ▷ one (choice.write ty wide line))) (clause (node.Write e w wide ty line))
unfolding ◌▷◌ clause clauses naming one takes empty to_behind from_begin entering leaving arms_of labels_of
write_is e w wide ty line = record {
  ends = λ at. omega (arith, width_write ty wide line);
  names = λ k. omega arith;
  constants = ap (λ z. constants e ++ z) (append-nil (constants w));
  nums = omega arith;
  refs = omega arith;
  literals = simp append-nil refl;
  instrs = λ at k. refl;
}

pub abort_is : (line : Line) → Same (one (instr.Abort line)) (clause (node.Abort line))
unfolding ◌▷◌ clause clauses naming one takes empty to_behind from_begin entering leaving arms_of labels_of
abort_is line = record {
  ends = λ at. omega arith;
  names = λ k. omega arith;
  constants = refl;
  nums = omega arith;
  refs = omega arith;
  literals = refl;
  instrs = λ at k. refl;
}

-- lists

pub no_clauses : Same (empty) (clauses (none))
unfolding ◌▷◌ clause clauses naming one takes empty to_behind from_begin entering leaving arms_of labels_of
no_clauses = record {
  ends = λ at. omega arith;
  names = λ k. omega arith;
  constants = refl;
  nums = omega arith;
  refs = omega arith;
  literals = refl;
  instrs = λ at k. refl;
}

pub more_clauses : (n : Node) (ns : Nodes) → Same (clause n ▷ clauses ns) (clauses (more n ns))
unfolding ◌▷◌ clause clauses naming one takes empty to_behind from_begin entering leaving arms_of labels_of
more_clauses n ns = record {
  ends = λ at. omega arith;
  names = λ k. omega arith;
  constants = refl;
  nums = omega arith;
  refs = omega arith;
  literals = refl;
  instrs = λ at k. refl;
}

-- the labels of an arm, and the arms of a `case`

pub no_labels : (ty : TyView) (t : ℕ) → Same empty (labels_of ty none t)
unfolding ◌▷◌ clause clauses naming one takes empty to_behind from_begin entering leaving arms_of labels_of
no_labels ty t = record { ends = λ at. omega arith; names = λ k. omega arith; constants = refl; nums = refl; refs = refl; literals = refl; instrs = λ at k. refl }

pub more_labels : (ty : TyView) (n : Node) (ns : Nodes) (t : ℕ) → Same (label_of ty n t ▷ labels_of ty ns t) (labels_of ty (more n ns) t)
unfolding ◌▷◌ clause clauses naming one takes empty to_behind from_begin entering leaving arms_of labels_of
more_labels ty n ns t =
    let dup = choice.by_type ty instr.DupM instr.DupP in
    let test = choice.compare relation.Equal ty in
    let dup_width : width_of dup ≡ 1 = by_type_width ty instr.DupM instr.DupP refl in
    let test_width : width_of test ≡ 1 = width_compare relation.Equal ty in
    record {
      ends = λ at. omega (arith, dup_width, test_width);
      names = λ k. omega arith;
      constants = ap (λ z. z ++ constants_of_all ns) (append-nil (constants n));
      nums = omega arith;
      refs = omega arith;
      literals = simp append-nil refl;
      instrs = λ at k.
          let code : ℕ → ℕ → List Instr = λ v w. dup ∷ (emit n (at + v) k ++ (test ∷ instr.JumpTrue t ∷ emit_labels ty t ns (at + v + size n + w + 5) (k + count n))) in
          ap (λ z. dup ∷ z) (append_assoc (emit n (at + width_of dup) k) (test ∷ instr.JumpTrue t ∷ []) (emit_labels ty t ns (at + width_of dup + size n + width_of test + 5) (k + count n)))
          ∙ ap (λ v. code v (width_of test)) dup_width ∙ ap (code 1) test_width;
    }

pub no_arms_is : (ty : TyView) (t : ℕ) → Same empty (arms_of ty no_arms t)
unfolding ◌▷◌ clause clauses naming one takes empty to_behind from_begin entering leaving arms_of labels_of
no_arms_is ty t = record { ends = λ at. omega arith; names = λ k. omega arith; constants = refl; nums = refl; refs = refl; literals = refl; instrs = λ at k. refl }

pub more_arms_is : (ty : TyView) (labels : Nodes) (a : Node) (rest : Arms) (t : ℕ) → Same (arm_of ty labels a t ▷ arms_of ty rest t) (arms_of ty (more_arms (arm labels a) rest) t)
unfolding ◌▷◌ clause clauses naming one takes empty to_behind from_begin entering leaving arms_of labels_of
more_arms_is ty labels a rest t =
    let drop = choice.by_type ty instr.DropM instr.DropP in
    let drop_width : width_of drop ≡ 1 = by_type_width ty instr.DropM instr.DropP refl in
    record {
      ends = λ at. omega (arith, drop_width);
      names = λ k. omega arith;
      constants = ap (λ z. (constants_of_all labels ++ z) ++ constants_of_arms rest) (append-nil (constants a)) ∙ append_assoc (constants_of_all labels) (constants a) (constants_of_arms rest);
      nums = omega arith;
      refs = omega arith;
      literals = simp (append-nil, append_assoc) refl;
      instrs = λ at k.
          let chosen = at + size_labels labels + 5 in
          let tests = emit_labels ty chosen labels at k in
          let here = k + count_all labels in
          let clause_at : ℕ → List Instr = λ w. emit a (chosen + w) here in
          let rest_at : ℕ → List Instr = λ w. emit_arms ty t rest (chosen + w + size a + 5) (here + count a) in
          let code : ℕ → List Instr = λ w. tests ++ instr.Jump (chosen + w + size a + 5) ∷ drop ∷ (clause_at w ++ instr.Jump t ∷ rest_at w) in
          let w = width_of drop in
          append_assoc tests ((instr.Jump (chosen + w + size a + 5) ∷ drop ∷ clause_at w) ++ instr.Jump t ∷ []) (rest_at w)
          ∙ ap (λ z. tests ++ instr.Jump (chosen + w + size a + 5) ∷ drop ∷ z) (append_assoc (clause_at w) (instr.Jump t ∷ []) (rest_at w))
          ∙ ap code drop_width;
    }

-- A clause is made of its first part and what stands after it, or of its own pieces.
use Rattle.std.proofs.Common.{◌≡◌, ℕ, ◌+◌, List, Some, None, refl, sym, ap, subst, ◌∙◌, arith}
use Rattle.ps_base.specs.TyView.{TyView}
use Rattle.ps_base.specs.declared.line.Line.{Line}
use Rattle.ps_base.specs.declared.instr.Instr.TheVariants as instr
use Rattle.ps_program.specs.Node.{Node, Nodes}
use Rattle.ps_program.specs.Node as node
use Rattle.ps_program.specs.Parts.{operand}
use Rattle.ps_program.specs.inside.Weights.{weight, weight_all}
use Rattle.ps_program.proofs.PartLemmas.{weight_is, weight_of_all}
use Rattle.ps_emitter.specs.Giving.{type_of}
use Rattle.ps_emitter.specs.Pieces.{Piece, Same, ◌▷◌, one}
use Rattle.ps_gen.specs.inside.Clauses.{clause, clauses, behind_of, made}
use Rattle.ps_emitter.specs.Chains.{first_part, called}
use Rattle.ps_gen.proofs.Laws.{set_name, let_name, and_is, or_is, not_is, neg_is, plus_is, arith_is, compare_is, is_is, join_is, part_is, field_is, set_field_is, element_is, set_element_is, bound_is, call_is, int_is, flag_is, text_is, nil_is, name_is, class_is, empty_is, block_is, if_do_is, if_else_is, while_is, repeat_is, for_is, case_is, make_is, fill_is, elems_is, proc_is, lib_is, scan_is, write_is, abort_is}
use Rattle.ps_emitter.proofs.Chaining.{some_is, called_references}

no_first : {f : Node} → None ≡ Some f → ⊥
no_first is = cc is

put_first : (p whole : Piece) {e g : Node} → Some e ≡ Some g → Same (clause e ▷ p) whole → Same (clause g ▷ p) whole
put_first p whole is same = subst (λ x. Same (clause x ▷ p) whole) (some_is is) same

-- a clause is its first part and what stands after it
pub linked : (before : TyView) (n f : Node) → first_part n ≡ Some f → called before ≡ called (type_of f) → Same (clause f ▷ behind_of before n) (clause n)
linked before (node.SetName place ty e) g is knows = put_first _ _ is (set_name place ty e)
linked before (node.Let place ty e) g is knows = put_first _ _ is (let_name place ty e)
linked before (node.And a b) g is knows = put_first _ _ is (and_is a b)
linked before (node.Or a b) g is knows = put_first _ _ is (or_is a b)
linked before (node.Not e) g is knows = put_first _ _ is (not_is e)
linked before (node.Neg e line) g is knows = put_first _ _ is (neg_is e line)
linked before (node.Plus e) g is knows = put_first _ _ is (plus_is e)
linked before (node.Arith op a b line) g is knows = put_first _ _ is (arith_is op a b line)
linked before (node.Compare op ty a b) g is knows = put_first _ _ is (compare_is op ty a b)
linked before (node.Is e class) g is knows = put_first _ _ is (is_is e class)
linked before (node.Join a b line) g is knows = put_first _ _ is (join_is a b line)
linked before (node.Part a i n line) g is knows = put_first _ _ is (part_is a i n line)
linked before (node.Field e class index ty line) g is knows = put_first _ _ is (field_is e class index ty line)
linked before (node.SetField p class index ty e line) g is knows = put_first _ _ is (set_field_is p class index ty e line)
linked before (node.Element v i ty line) g is knows = put_first _ _ is (element_is v i ty line)
linked before (node.SetElement v i e ty line) g is knows = put_first _ _ is (set_element_is v i e ty line)
linked before (node.Bound v upper) g is knows = put_first _ _ is (bound_is v upper)
linked before (node.Call f args line) g is knows = put_first _ _ is (subst (λ k. Same (clause f ▷ (clauses args ▷ one (instr.Call k line))) (clause (node.Call f args line))) (called_references (type_of f) before (ap (λ x. called (type_of x)) (some_is is) ∙ sym knows)) (call_is f args line))
linked before _ g is knows = absurd (no_first is)

-- a clause without a first part is made of its own pieces
pub made_is : (n : Node) → first_part n ≡ None → Same (made n) (clause n)
made_is (node.Int v) is = int_is v
made_is (node.Flag b) is = flag_is b
made_is (node.Text bytes) is = text_is bytes
made_is node.Nil is = nil_is
made_is (node.Name place ty) is = name_is place ty
made_is node.Class is = class_is
made_is node.Empty is = empty_is
made_is (node.Block scope items) is = block_is scope items
made_is (node.IfDo c a) is = if_do_is c a
made_is (node.IfElse c a b) is = if_else_is c a b
made_is (node.While c a) is = while_is c a
made_is (node.Repeat a c b) is = repeat_is a c b
made_is (node.For slot a b c scope control s line) is = for_is slot a b c scope control s line
made_is (node.Case e arms d ty) is = case_is e arms d ty
made_is (node.Make class args) is = make_is class args
made_is (node.Fill l u e ty line) is = fill_is l u e ty line
made_is (node.Elems l items ty line) is = elems_is l items ty line
made_is (node.Proc of) is = proc_is of
made_is (node.Lib code args line) is = lib_is code args line
made_is (node.Scan string a f q s line) is = scan_is string a f q s line
made_is (node.Write e w wide ty line) is = write_is e w wide ty line
made_is (node.Abort line) is = abort_is line
made_is _ is = absurd (no_first (sym is))

pub make_weight : (class : List ℕ) (args : Nodes) → weight (node.Make class args) ≡ 1 + weight_all args
make_weight class args = let all = weight_of_all operand (λ n. refl) args in omega (arith, weight_is (node.Make class args))

pub lib_weight : (code : ℕ) (args : Nodes) (line : Line) → weight (node.Lib code args line) ≡ 1 + weight_all args
lib_weight code args line = let all = weight_of_all operand (λ n. refl) args in omega (arith, weight_is (node.Lib code args line))

pub elems_weight : (l : Node) (items : Nodes) (ty : TyView) (line : Line) → weight (node.Elems l items ty line) ≡ 1 + (weight l + weight_all items)
elems_weight l items ty line = let all = weight_of_all operand (λ n. refl) items in omega (arith, weight_is (node.Elems l items ty line))

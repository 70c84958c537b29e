-- Going down a chain and back up.
use Rattle.std.proofs.Common.{◌≡◌, ◌≤◌, ◌<◌, ◌-◌, length, get_or, ℕ, ◌+◌, zero, suc, List, [], ◌∷◌, ◌++◌, Option, Some, None, refl, sym, ap, ◌∙◌, arith}
use Rattle.std.specs.Borrow.{Bor}
use Rattle.ps_base.specs.TyView.{TyView}
use Rattle.ps_base.specs.TyView as types
use Rattle.ps_base.specs.declared.line.Line.{Line}
use Rattle.ps_program.specs.declared.form.Tree.{Tree}
use Rattle.ps_program.specs.Node.{Node, Nodes, Arms}
use Rattle.ps_program.specs.Node as node
use Rattle.ps_program.specs.NodeView.{node_of, nodes_in}
use Rattle.ps_program.specs.Parts.{operand, branch}
use Rattle.ps_program.specs.inside.Weights.{weight, weight_all, weight_arms}
use Rattle.ps_program.proofs.PartLemmas.{weight_is, weight_of_all, weight_of_arms, weight_parts-append}
use Rattle.ps_program.specs.inside.Listed.{parts_arms}
use Rattle.ps_emitter.specs.declared.known.Source.{Source}
use Rattle.ps_emitter.specs.declared.known.Source.TheVariants as source
use Rattle.ps_emitter.specs.Choices as choice
use Rattle.ps_emitter.specs.Giving.{type_of, type_of_last, result_of}
use Rattle.ps_emitter.specs.Chains.{first_part, called, Chained, type_behind}
use Rattle.ps_emitter.specs.inside.Sources.{results, IsSource, IsLastSource}

pub some_is : {a f : Node} → Some a ≡ Some f → a ≡ f
some_is {a} e = ap (λ (o : Option Node). elim o [ Some x ↦ x | None ↦ a ]) e

pub called_references : (t u : TyView) → called t ≡ called u → choice.reference_arguments t ≡ choice.reference_arguments u
called_references t u same = own t ∙ ap choice.reference_arguments same ∙ sym (own u)
  where
    own : (t : TyView) → choice.reference_arguments t ≡ choice.reference_arguments (called t)
    own (types.Proc params gives) = refl
    own _ = refl

pub called_result : (t u : TyView) → called t ≡ called u → called (result_of t) ≡ called (result_of u)
called_result t u same = ap called (own t ∙ ap result_of same ∙ sym (own u))
  where
    own : (t : TyView) → result_of t ≡ result_of (called t)
    own (types.Proc params gives) = refl
    own _ = refl

-- and what is known of its type goes on from that of the first part
pub knows_behind : (before : TyView) (n f : Node) → first_part n ≡ Some f → called before ≡ called (type_of f) → called (type_behind before n) ≡ called (type_of n)
knows_behind before (node.SetName place ty e) g is knows = refl
knows_behind before (node.Let place ty e) g is knows = refl
knows_behind before (node.And a b) g is knows = refl
knows_behind before (node.Or a b) g is knows = refl
knows_behind before (node.Not e) g is knows = refl
knows_behind before (node.Neg e line) g is knows = refl
knows_behind before (node.Plus e) g is knows = refl
knows_behind before (node.Arith op a b line) g is knows = refl
knows_behind before (node.Compare op ty a b) g is knows = refl
knows_behind before (node.Is e class) g is knows = refl
knows_behind before (node.Join a b line) g is knows = refl
knows_behind before (node.Part a i n line) g is knows = refl
knows_behind before (node.Field e class index ty line) g is knows = refl
knows_behind before (node.SetField p class index ty e line) g is knows = refl
knows_behind before (node.Element v i ty line) g is knows = refl
knows_behind before (node.SetElement v i e ty line) g is knows = refl
knows_behind before (node.Bound v upper) g is knows = refl
knows_behind before (node.Call f args line) g is knows = called_result before (type_of f) (knows ∙ ap (λ x. called (type_of x)) (sym (some_is is)))
knows_behind before _ g is knows = absurd (cc is)

pub call_weight : (f : Node) (args : Nodes) (line : Line) → weight (node.Call f args line) ≡ 1 + (weight f + weight_all args)
call_weight f args line = let all = weight_of_all operand (λ n. refl) args in omega (arith, weight_is (node.Call f args line))

pub first_lighter : (n f : Node) → first_part n ≡ Some f → weight f + 1 ≤ weight n
first_lighter (node.SetName place ty e) g is = let e = ap weight (some_is is) in omega (arith, e)
first_lighter (node.Let place ty e) g is = let e = ap weight (some_is is) in omega (arith, e)
first_lighter (node.And a b) g is = let e = ap weight (some_is is) in omega (arith, e)
first_lighter (node.Or a b) g is = let e = ap weight (some_is is) in omega (arith, e)
first_lighter (node.Not e) g is = let e = ap weight (some_is is) in omega (arith, e)
first_lighter (node.Neg e line) g is = let e = ap weight (some_is is) in omega (arith, e)
first_lighter (node.Plus e) g is = let e = ap weight (some_is is) in omega (arith, e)
first_lighter (node.Arith op a b line) g is = let e = ap weight (some_is is) in omega (arith, e)
first_lighter (node.Compare op ty a b) g is = let e = ap weight (some_is is) in omega (arith, e)
first_lighter (node.Is e class) g is = let e = ap weight (some_is is) in omega (arith, e)
first_lighter (node.Join a b line) g is = let e = ap weight (some_is is) in omega (arith, e)
first_lighter (node.Part a i n line) g is = let e = ap weight (some_is is) in omega (arith, e)
first_lighter (node.Field e class index ty line) g is = let e = ap weight (some_is is) in omega (arith, e)
first_lighter (node.SetField p class index ty e line) g is = let e = ap weight (some_is is) in omega (arith, e)
first_lighter (node.Element v i ty line) g is = let e = ap weight (some_is is) in omega (arith, e)
first_lighter (node.SetElement v i e ty line) g is = let e = ap weight (some_is is) in omega (arith, e)
first_lighter (node.Bound v upper) g is = let e = ap weight (some_is is) in omega (arith, e)
first_lighter (node.Call f args line) g is = let e = ap weight (some_is is) in omega (arith, e, call_weight f args line)
first_lighter _ g is = absurd (cc is)

-- one link more, and one less
pub chained_more : (links : List (Bor Tree)) (link : Bor Tree) (f whole : Node) → Chained whole links (node_of link.now) → first_part (node_of link.now) ≡ Some f → Chained whole (links ++ link ∷ []) f
chained_more [] link f whole is e = (is, (f, ap first_part is ∙ e, refl))
chained_more (first ∷ links) link f whole is e = (is.0, (is.1.0, is.1.1, chained_more links link f is.1.0 is.1.2 e))

pub chained_last : (links : List (Bor Tree)) (link : Bor Tree) (inner whole : Node) → Chained whole (links ++ link ∷ []) inner → Chained whole links (node_of link.now) × (first_part (node_of link.now) ≡ Some inner)
chained_last [] link inner whole is = (is.0, sym (ap first_part is.0) ∙ is.1.1 ∙ ap Some is.1.2)
chained_last (first ∷ links) link inner whole is = let rest = chained_last links link inner is.1.0 is.1.2 in ((is.0, (is.1.0, is.1.1, rest.0)), rest.1)

pub chained_weight : (links : List (Bor Tree)) (inner whole : Node) → Chained whole links inner → weight inner ≤ weight whole
chained_weight [] inner whole is = let e = ap weight is in omega arith
chained_weight (first ∷ links) inner whole is = let rest = chained_weight links inner is.1.0 is.1.2 in let first = first_lighter whole is.1.0 is.1.1 in omega arith

pub results_more : (n : ℕ) (t : TyView) → results (n + 1) t ≡ results n (result_of t)
results_more n t = let e : n + 1 ≡ suc n = omega arith in ap (λ k. results k t) e

pub called_results : (n : ℕ) (t u : TyView) → called t ≡ called u → called (results n t) ≡ called (results n u)
called_results zero t u same = same
called_results (suc n) t u same = called_results n (result_of t) (result_of u) (called_result t u same)

-- the last clause of a list
pub last_gives : (before : TyView) (ts : List Tree) (t d : Tree) → 0 < length ts → t ≡ get_or ts (length ts - 1) d → type_of_last before (nodes_in ts) ≡ type_of (node_of t)
last_gives before [] t d some is = absurd (omega arith)
last_gives before (x ∷ []) t d some is = ap (λ z. type_of (node_of z)) (sym is)
last_gives before (x ∷ y ∷ ts) t d some is =
    let e : length (x ∷ y ∷ ts) - 1 ≡ suc (length (y ∷ ts) - 1) = omega arith in
    last_gives (type_of (node_of x)) (y ∷ ts) t d (omega arith) (is ∙ ap (λ n. get_or (x ∷ y ∷ ts) n d) e)

pub block_weight : (scope : Option (List ℕ)) (ns : Nodes) → weight (node.Block scope ns) ≡ 1 + weight_all ns
block_weight scope ns = let all = weight_of_all branch (λ n. refl) ns in omega (arith, weight_is (node.Block scope ns))

pub block_source : (scope : Option (List ℕ)) (ns : Nodes) (s : Source) → IsLastSource ns s → IsSource (node.Block scope ns) s
block_source scope ns (source.Here known) is = is
block_source scope ns (source.Of t) is = (is.0, omega (arith, is.1, block_weight scope ns))
block_source scope ns (source.ResultOf t) is = (is.0, omega (arith, is.1, block_weight scope ns))

pub case_weight : (e : Node) (arms : Arms) (d : Node) (ty : TyView) → weight (node.Case e arms d ty) ≡ 1 + (weight e + (weight_arms arms + weight d))
case_weight e arms d ty =
    let w = weight_of_arms arms in
    let sum = weight_parts-append (parts_arms arms) (branch d ∷ []) in
    omega (arith, weight_is (node.Case e arms d ty))

-- A clause whose parts have their places.
use Rattle.std.proofs.Common.{◌≡◌, ◌<◌, ◌≤◌, ℕ, ◌+◌, ◌*◌, refl, sym, ap, subst, ◌∙◌, arith, OnOk}
use Rattle.ps_base.specs.TyView.{TyView, ty_view}
use Rattle.ps_base.specs.declared.ty.Ty.{Ty}
use Rattle.ps_base.specs.List.{items_of}
use Rattle.ps_base.specs.declared.list.List.{List as ListOf}
use Rattle.ps_program.specs.declared.body.Body.{Body}
use Rattle.ps_program.specs.declared.form.Tree.{Tree}
use Rattle.ps_program.specs.declared.form.Loop.{Loop}
use Rattle.ps_program.specs.declared.form.TreeForm.{TreeForm}
use Rattle.ps_program.specs.declared.form.TreeForm.TheVariants as code
use Rattle.std.specs.declared.alloc.Global.{Global}
use Rattle.std.specs.declared.boxed.Box.{Box}
use Rattle.ps_program.specs.declared.form.Arm.{Arm as ArmOf}
use Rattle.ps_program.specs.declared.place.Place.{Place}
use Rattle.ps_program.specs.Node.{Node, Nodes, BodyNode}
use Rattle.ps_program.specs.NodeView.{node_of, node_of_form, nodes_in, body_of}
use Rattle.ps_program.specs.inside.PartsView.{arms_in}
use Rattle.ps_program.specs.Node as node
use Rattle.ps_program.specs.inside.Weights.{weight, weight_all, weight_arms}
use Rattle.ps_program.proofs.PartLemmas.{weight_is}
use Rattle.ps_placer.specs.ps_typing.Mentions.{number_of}
use Rattle.ps_placer.specs.ps_typing.Placing.{Around, Locals, with_declared, place_of}
use Rattle.ps_placer.specs.ps_typing.Placed.{Given, then_give, placed, placed_all, placed_literal}
use Rattle.ps_placer.specs.declared.placer.Placer.{Placer}
use Rattle.ps_placer.specs.inside.Standing.{Stands, Does}
use Rattle.ps_names.specs.inside.Clauses.{loop_of, Pair, Triple, WithAll, Case, Block, Named, Scan, pair, named, scan_of, placed_assigned, placed_declared, placed_scan, placed_pair, placed_triple, placed_with_all, placed_case, placed_block}
use Rattle.ps_names.specs.inside.Chains.{placed_parts, weight_placed}
use Rattle.ps_names.proofs.Doing.{Made, does_same, does_made, on_ok}

-- what is done to a tree, to several, and to lists

abbrev pub tree_does : Tree → Around → Locals → Given Node
tree_does a around locals = placed around locals (node_of a)

abbrev pub pair_does : Tree → Tree → Around → Locals → Given Pair
pair_does a b around locals = placed_pair around locals (node_of a) (node_of b)

abbrev pub triple_does : Tree → Tree → Tree → Around → Locals → Given Triple
triple_does a b c around locals = placed_triple around locals (node_of a) (node_of b) (node_of c)

abbrev pub all_does : ListOf Tree → Around → Locals → Given Nodes
all_does items around locals = placed_all around locals (nodes_in (items_of items))

abbrev pub with_all_does : Tree → ListOf Tree → Around → Locals → Given WithAll
with_all_does a items around locals = placed_with_all around locals (node_of a) (nodes_in (items_of items))

abbrev pub case_does : Tree → ListOf ArmOf → Tree → Around → Locals → Given Case
case_does e arms d around locals = placed_case around locals (node_of e) (arms_in (items_of arms)) (node_of d)

abbrev pub block_does : ListOf Tree → Around → Locals → Given Block
block_does items around locals = placed_block around locals (nodes_in (items_of items))

abbrev pub literal_does : Body → Around → Locals → Given BodyNode
literal_does of around locals = placed_literal around locals (body_of of)

abbrev pub assigned_does : Place → Tree → Around → Locals → Given Named
assigned_does place e around locals = placed_assigned around locals place (node_of e)

abbrev pub declared_does : Place → Ty → Tree → Around → Locals → Given Named
declared_does place ty e around locals = placed_declared around locals place (ty_view ty) (node_of e)

abbrev pub loop_does : Loop → Around → Locals → Given Node
loop_does it around locals = placed around locals (loop_of it)

abbrev pub body_does : Body → Around → Locals → Given Node
body_does it around locals = placed around locals (node.Proc (body_of it))

abbrev pub scan_does : Tree → Tree → Around → Locals → Given Scan
scan_does a f around locals = placed_scan around locals (node_of a) (node_of f)

-- the same, of what is known to be equal

pub at_one : {A B : Type 0} (f : B → Around → Locals → Given A) (b b' : B) (x : A) (old new : Placer) (r : Made) → b' ≡ b → OnOk r (Does (f b') old x new) → OnOk r (Does (f b) old x new)
at_one {A} {B} f b b' x old new r is done = subst (λ (y : B). OnOk r (Does (f y) old x new)) is done

pub at_two : {A B C : Type 0} (f : B → C → Around → Locals → Given A) (b b' : B) (c c' : C) (x : A) (old new : Placer) (r : Made) → b' ≡ b → c' ≡ c → OnOk r (Does (f b' c') old x new) → OnOk r (Does (f b c) old x new)
at_two {A} {B} {C} f b b' c c' x old new r b_is c_is done = subst (λ (y : C). OnOk r (Does (f b y) old x new)) c_is (subst (λ (y : B). OnOk r (Does (f y c') old x new)) b_is done)

pub at_three : {A B C D : Type 0} (f : B → C → D → Around → Locals → Given A) (b b' : B) (c c' : C) (d d' : D) (x : A) (old new : Placer) (r : Made) → b' ≡ b → c' ≡ c → d' ≡ d → OnOk r (Does (f b' c' d') old x new) → OnOk r (Does (f b c d) old x new)
at_three {A} {B} {C} {D} f b b' c c' d d' x old new r b_is c_is d_is done = subst (λ (y : D). OnOk r (Does (f b c y) old x new)) d_is (at_two (λ y z. f y z d') b b' c c' x old new r b_is c_is done)

-- what was done to the form of a tree

pub form_did : {F form : TreeForm} {m x : Node} {old new : Placer} → F ≡ form → m ≡ x → Does (λ around locals. placed_parts around locals (node_of_form F)) old x new → Does (λ around locals. placed_parts around locals (node_of_form form)) old m new
form_did {F} {form} {m} {x} {old} {new} is m_is does =
    does_same (λ around locals. placed_parts around locals (node_of_form F)) (λ around locals. placed_parts around locals (node_of_form form)) old new x m (λ around locals. ap (λ f. placed_parts around locals (node_of_form f)) (sym is)) m_is does

pub tree_did : (F form : TreeForm) (m x : Node) (old new : Placer) (r : Made) → ((around : Around) (locals : Locals) → placed around locals (node_of_form form) ≡ placed_parts around locals (node_of_form form)) → F ≡ form → m ≡ x → OnOk r (Does (λ around locals. placed_parts around locals (node_of_form F)) old x new) → OnOk r (Does (λ around locals. placed around locals (node_of_form form)) old m new)
tree_did F form m x old new r places is m_is done =
    on_ok r (λ (does : Does (λ around locals. placed_parts around locals (node_of_form F)) old x new). does_same (λ around locals. placed_parts around locals (node_of_form form)) (λ around locals. placed around locals (node_of_form form)) old new m m places refl (form_did is m_is does)) done

-- a clause is made of what was done
pub formed : {A : Type 0} (g : Around → Locals → Node → Given Node) (f : Around → Locals → Given A) (make : A → Node) (n m before : Node) (x : A) (old new : Placer) (r : Made) → OnOk r (Does f old x new) → n ≡ before → ((around : Around) (locals : Locals) → g around locals before ≡ then_give make (f around locals)) → m ≡ make x → OnOk r (Does (λ around locals. g around locals n) old m new)
formed g f make n m before x old new r done n_is same m_is =
    on_ok r (λ (does : Does f old x new). does_same (λ around locals. then_give make (f around locals)) (λ around locals. g around locals n) old new (make x) m (λ around locals. ap (g around locals) n_is ∙ same around locals) m_is (does_made f make old new x does)) done

-- a clause is what was done
pub formed_as : (f : Around → Locals → Given Node) (n m before x : Node) (old new : Placer) (r : Made) → OnOk r (Does f old x new) → n ≡ before → ((around : Around) (locals : Locals) → placed_parts around locals before ≡ f around locals) → m ≡ x → OnOk r (Does (λ around locals. placed_parts around locals n) old m new)
formed_as f n m before x old new r done n_is same m_is =
    on_ok r (λ (does : Does f old x new). does_same f (λ around locals. placed_parts around locals n) old new x m (λ around locals. ap (placed_parts around locals) n_is ∙ same around locals) m_is does) done

-- the same, of a form that is known to be this one
pub formed_to : {A : Type 0} (g : Around → Locals → Node → Given Node) (f : Around → Locals → Given A) (make : A → Node) (n m before : Node) (is : TreeForm) (x : A) (old new : Placer) (r : Made) → OnOk r (Does f old x new) → n ≡ before → ((around : Around) (locals : Locals) → g around locals before ≡ then_give make (f around locals)) → node_of_form is ≡ make x → m ≡ node_of_form is → OnOk r (Does (λ around locals. g around locals n) old m new)
formed_to g f make n m before is x old new r done n_is same made m_is = formed g f make n m before x old new r done n_is same (m_is ∙ made)

-- a name has its place
pub name_done : (n m : Node) (place made : Place) (ty : TyView) (old : Placer) → n ≡ node.Name place ty → ((around : Around) (locals : Locals) → Stands old around locals → made ≡ place_of around locals place) → m ≡ node.Name made ty → Does (λ around locals. placed_parts around locals n) old m old
name_done n m place made ty old n_is place_is m_is = record {
  at = λ around locals stands.
      (m_is ∙ ap (λ p. node.Name p ty) (place_is around locals stands) ∙ ap (λ (k : Node). (placed_parts around locals k).of) (sym n_is), subst (λ (k : Node). Stands old around (placed_parts around locals k).locals) (sym n_is) stands);
}

pub assigned_done : (place made : Place) (a x : Node) (old new : Placer) (r : Made) → ((around : Around) (locals : Locals) → Stands old around locals → made ≡ place_of around locals place) → OnOk r (Does (λ around locals. placed around locals a) old x new) → OnOk r (Does (λ around locals. placed_assigned around locals place a) old (named made x) new)
unfolding then_give
assigned_done place made a x old new r place_is done =
    on_ok r (λ (does : Does (λ around locals. placed around locals a) old x new). record {
      at = λ around locals stands.
          let here = does.at around locals stands in
          (ap (λ p. named p x) (place_is around locals stands) ∙ ap (named (place_of around locals place)) here.0, here.1);
    }) done

pub declared_done : (place made : Place) (ty : TyView) (a x : Node) (old mid new : Placer) (r : Made) →
    ((around : Around) (locals : Locals) → Stands old around locals → Stands mid around (with_declared around (number_of place) ty locals)) →
    ((around : Around) (locals : Locals) → Stands mid around locals → made ≡ place_of around locals place) → OnOk r (Does (λ around locals. placed around locals a) mid x new) → OnOk r (Does (λ around locals. placed_declared around locals place ty a) old (named made x) new)
unfolding then_give
declared_done place made ty a x old mid new r declared place_is done =
    on_ok r (λ (does : Does (λ around locals. placed around locals a) mid x new). record {
      at = λ around locals stands.
          let own = with_declared around (number_of place) ty locals in
          let known = declared around locals stands in
          let here = does.at around own known in
          (ap (λ p. named p x) (place_is around own known) ∙ ap (named (place_of around own place)) here.0, here.1);
    }) done

abbrev moved : Placer → Placer
moved p = record p { nums = p.nums + 3; refs = p.refs + 3 }

moved_stands : (p : Placer) (around : Around) (locals : Locals) → Stands p around locals → Stands (moved p) around (record locals { nums = locals.nums + 3; refs = locals.refs + 3 })
moved_stands p around locals stands = record {
  names = stands.names;
  kept = stands.kept;
  scopes = stands.scopes;
  spots = stands.spots;
  nums = ap (λ n. n + 3) stands.nums;
  refs = ap (λ n. n + 3) stands.refs;
  of = stands.of;
}

pub scan_done : (a f x y : Node) (old first mid new : Placer) (r : Made) → first ≡ record old { nums = old.nums + 3 } → mid ≡ record first { refs = first.refs + 3 } → OnOk r (Does (λ around locals. placed_pair around locals a f) mid (pair x y) new) → OnOk r (Does (λ around locals. placed_scan around locals a f) old (scan_of (pair x y) old.refs old.nums) new)
unfolding then_give
scan_done a f x y old first mid new r first_is mid_is done =
    on_ok r (λ (does : Does (λ around locals. placed_pair around locals a f) mid (pair x y) new). record {
      at = λ around locals stands.
          let own = record locals { nums = locals.nums + 3; refs = locals.refs + 3 } in
          let taken : mid ≡ moved old = mid_is ∙ ap (λ (p : Placer). record p { refs = p.refs + 3 }) first_is in
          let known : Stands mid around own = subst (λ (p : Placer). Stands p around own) (sym taken) (moved_stands old around locals stands) in
          let here = does.at around own known in
          (ap (λ k. scan_of (pair x y) k old.nums) stands.refs ∙ ap (λ k. scan_of (pair x y) locals.refs k) stands.nums ∙ ap (λ (p : Pair). scan_of p locals.refs locals.nums) here.0, here.1);
    }) done

pub weight_some : (n : Node) → 1 ≤ weight n
weight_some n = omega (arith, weight_is n)

-- a part of a clause weighs less

pub tree_falls : (k : ℕ) (now form : TreeForm) (b b' : Tree) (t : ℕ) → 10 * weight_placed (node_of_form now) ≡ t → now ≡ form → b' ≡ b → k ≤ 9 → 1 + weight (node_of b) ≤ weight_placed (node_of_form form) → (10 * weight (node_of b') + k < t) × Unit {0}
tree_falls k now form b b' t t_is is b_is few most =
    let whole = ap (λ f. weight_placed (node_of_form f)) is in
    let part = ap (λ (a : Tree). weight (node_of a)) b_is in
    (omega (arith, t_is, whole, part, few, most), tt)

pub pair_falls : (k : ℕ) (now form : TreeForm) (a a' b b' : Tree) (t : ℕ) → 10 * weight_placed (node_of_form now) ≡ t → now ≡ form → a' ≡ a → b' ≡ b → k ≤ 9 → 1 + (weight (node_of a) + weight (node_of b)) ≤ weight_placed (node_of_form form) → (10 * (weight (node_of a') + weight (node_of b')) + k < t) × Unit {0}
pair_falls k now form a a' b b' t t_is is a_is b_is few most =
    let whole = ap (λ f. weight_placed (node_of_form f)) is in
    let first = ap (λ (a : Tree). weight (node_of a)) a_is in
    let second = ap (λ (a : Tree). weight (node_of a)) b_is in
    (omega (arith, t_is, whole, first, second, few, most), tt)

pub triple_falls : (now form : TreeForm) (a a' b b' c c' : Tree) (t : ℕ) → 10 * weight_placed (node_of_form now) ≡ t → now ≡ form → a' ≡ a → b' ≡ b → c' ≡ c → 1 + (weight (node_of a) + weight (node_of b) + weight (node_of c)) ≤ weight_placed (node_of_form form) → (10 * (weight (node_of a') + weight (node_of b') + weight (node_of c')) + 5 < t) × Unit {0}
triple_falls now form a a' b b' c c' t t_is is a_is b_is c_is most =
    let whole = ap (λ f. weight_placed (node_of_form f)) is in
    let first = ap (λ (a : Tree). weight (node_of a)) a_is in
    let second = ap (λ (a : Tree). weight (node_of a)) b_is in
    let third = ap (λ (a : Tree). weight (node_of a)) c_is in
    (omega (arith, t_is, whole, first, second, third, most), tt)

pub all_falls : (k : ℕ) (now n : Node) (items items' : ListOf Tree) (t : ℕ) → 10 * weight_placed now ≡ t → now ≡ n → items' ≡ items → k ≤ 9 → 1 + weight_all (nodes_in (items_of items)) ≤ weight_placed n → (10 * weight_all (nodes_in (items_of items')) + k < t) × Unit {0}
all_falls k now n items items' t t_is is items_is few most =
    let whole = ap weight_placed is in
    let part = ap (λ (ts : ListOf Tree). weight_all (nodes_in (items_of ts))) items_is in
    (omega (arith, t_is, whole, part, few, most), tt)

pub with_all_falls : (now n : Node) (a a' : Tree) (items items' : ListOf Tree) (t : ℕ) → 10 * weight_placed now ≡ t → now ≡ n → a' ≡ a → items' ≡ items → 1 + (weight (node_of a) + weight_all (nodes_in (items_of items))) ≤ weight_placed n → (10 * (weight (node_of a') + weight_all (nodes_in (items_of items'))) + 5 < t) × Unit {0}
with_all_falls now n a a' items items' t t_is is a_is items_is most =
    let whole = ap weight_placed is in
    let first = ap (λ (a : Tree). weight (node_of a)) a_is in
    let rest = ap (λ (ts : ListOf Tree). weight_all (nodes_in (items_of ts))) items_is in
    (omega (arith, t_is, whole, first, rest, most), tt)

pub case_falls : (now n : Node) (e e' : Tree) (arms arms' : ListOf ArmOf) (d d' : Tree) (t : ℕ) → 10 * weight_placed now ≡ t → now ≡ n → e' ≡ e → arms' ≡ arms → d' ≡ d → 1 + (weight (node_of e) + weight_arms (arms_in (items_of arms)) + weight (node_of d)) ≤ weight_placed n → (10 * (weight (node_of e') + weight_arms (arms_in (items_of arms')) + weight (node_of d')) + 7 < t) × Unit {0}
case_falls now n e e' arms arms' d d' t t_is is e_is arms_is d_is most =
    let whole = ap weight_placed is in
    let first = ap (λ (a : Tree). weight (node_of a)) e_is in
    let middle = ap (λ (ts : ListOf ArmOf). weight_arms (arms_in (items_of ts))) arms_is in
    let last = ap (λ (a : Tree). weight (node_of a)) d_is in
    (omega (arith, t_is, whole, first, middle, last, most), tt)

pub loop_falls : (now : TreeForm) (box : Box Loop Global) (it : Loop) (t : ℕ) → 10 * weight_placed (node_of_form now) ≡ t → now ≡ code.For box → it ≡ box.value → (10 * (weight (node_of it.a) + weight (node_of it.b) + weight (node_of it.c) + weight (node_of it.s)) + 6 < t) × Unit {0}
loop_falls now box it t t_is is it_is =
    let least : 1 + (weight (node_of box.value.a) + weight (node_of box.value.b) + weight (node_of box.value.c) + weight (node_of box.value.s)) ≤ weight_placed (node_of_form (code.For box)) = omega arith in
    let whole = ap (λ f. weight_placed (node_of_form f)) is in
    let parts = ap (λ (l : Loop). weight (node_of l.a) + weight (node_of l.b) + weight (node_of l.c) + weight (node_of l.s)) it_is in
    (omega (arith, t_is, whole, parts, least), tt)

pub literal_falls : (now : TreeForm) (box : Box Body Global) (it : Body) (t : ℕ) → 10 * weight_placed (node_of_form now) ≡ t → now ≡ code.Proc box → it ≡ box.value → (10 * weight (node_of it.tree) + 4 < t) × Unit {0}
literal_falls now box it t t_is is it_is =
    let least : 1 + weight (node_of box.value.tree) ≤ weight_placed (node_of_form (code.Proc box)) = omega arith in
    let whole = ap (λ f. weight_placed (node_of_form f)) is in
    let part = ap (λ (b : Body). weight (node_of b.tree)) it_is in
    (omega (arith, t_is, whole, part, least), tt)

-- What is done in steps.
use Rattle.std.proofs.Common.{◌≡◌, ◌<◌, ℕ, ◌+◌, List, [], ◌∷◌, ◌++◌, length, get_or, take, set, Result, Ok, Err, OnOk, refl, sym, ap, subst, ◌∙◌, arith}
use Rattle.std.specs.declared.alloc.AllocError.{AllocError}
use Rattle.std.proofs.lemmas.List.{take_more, take_more_set}
use Rattle.ps_program.specs.declared.form.Tree.{Tree}
use Rattle.ps_base.specs.List.{items_of}
use Rattle.ps_base.specs.declared.list.List.{List as ListOf}
use Rattle.ps_program.specs.declared.body.Body.{Body}
use Rattle.ps_program.specs.declared.form.Loop.{Loop}
use Rattle.ps_program.specs.declared.form.TreeForm.{TreeForm}
use Rattle.ps_program.specs.declared.form.Arm.{Arm as ArmOf, Arm-F, out-Arm, roll-Arm, out-roll-Arm}
use Rattle.ps_program.proofs.NodeLists.{arm_of-parts}
use Rattle.ps_program.specs.Node.{Node, Nodes, none, more, Arm, arm, Arms, no_arms, more_arms}
use Rattle.ps_program.specs.NodeView.{node_of, nodes_in, arm_of}
use Rattle.ps_program.specs.inside.PartsView.{arms_in}
use Rattle.ps_placer.specs.ps_typing.Placing.{Around, Locals}
use Rattle.ps_placer.specs.ps_typing.Placed.{Given, ◌>>=◌, then_give, placed, placed_all, placed_arms}
use Rattle.ps_placer.specs.declared.placer.Placer.{Placer}
use Rattle.ps_placer.specs.inside.Standing.{Stands, Does}
use Rattle.ps_names.specs.inside.Clauses.{placed_arm}

abbrev pub Made : Type 0
Made = Result (Unit {0}) AllocError

-- the same, said otherwise
pub does_same : {A : Type 0} (f g : Around → Locals → Given A) (old new : Placer) (a b : A) → ((around : Around) (locals : Locals) → g around locals ≡ f around locals) → b ≡ a → Does f old a new → Does g old b new
does_same f g old new a b same b_is does = record {
  at = λ around locals stands.
      let here = does.at around locals stands in
      (b_is ∙ here.0 ∙ ap (λ x. x.of) (sym (same around locals)), subst (λ (x : Given _). Stands new around x.locals) (sym (same around locals)) here.1);
}

-- one step, and something made of what it gives
pub does_made : {A B : Type 0} (f : Around → Locals → Given A) (make : A → B) (old new : Placer) (a : A) → Does f old a new → Does (λ around locals. then_give make (f around locals)) old (make a) new
unfolding then_give
does_made f make old new a does = record { at = λ around locals stands. let here = does.at around locals stands in (ap make here.0, here.1) }

-- two steps
pub does_both : {A B C : Type 0} (f : Around → Locals → Given A) (g : Around → Locals → Given B) (make : A → B → C) (old mid new : Placer) (a : A) (b : B) → Does f old a mid → Does g mid b new → Does (λ around locals. f around locals >>= λ x l. then_give (make x) (g around l)) old (make a b) new
unfolding ◌>>=◌ then_give
does_both f g make old mid new a b first second = record {
  at = λ around locals stands.
      let one = first.at around locals stands in
      let two = second.at around (f around locals).locals one.1 in
      (ap (λ x. make x b) one.0 ∙ ap (make (f around locals).of) two.0, two.1);
}

pub on_ok : (r : Made) {P Q : Type 0} → (P → Q) → OnOk r P → OnOk r Q
on_ok (Ok done) step is = step is
on_ok (Err fault) step is = is

-- lists, from their start

and_node : Nodes → Node → Nodes
and_node none n = more n none
and_node (more m ms) n = more m (and_node ms n)

and_arm : Arms → Arm → Arms
and_arm no_arms a = more_arms a no_arms
and_arm (more_arms b bs) a = more_arms b (and_arm bs a)

nodes_append : (ts : List Tree) (t : Tree) → nodes_in (ts ++ t ∷ []) ≡ and_node (nodes_in ts) (node_of t)
unfolding and_node
nodes_append [] t = refl
nodes_append (u ∷ ts) t = ap (more (node_of u)) (nodes_append ts t)

arms_append : (ts : List ArmOf) (t : ArmOf) → arms_in (ts ++ t ∷ []) ≡ and_arm (arms_in ts) (arm_of t)
unfolding and_arm
arms_append [] t = refl
arms_append (u ∷ ts) t = ap (more_arms (arm_of u)) (arms_append ts t)

all_more : (around : Around) (locals : Locals) (ns : Nodes) (n : Node) → placed_all around locals (and_node ns n) ≡ (placed_all around locals ns >>= λ ns l. then_give (and_node ns) (placed around l n))
unfolding and_node ◌>>=◌ then_give
all_more around locals none n = refl
all_more around locals (more m ms) n = let l = (placed around locals m).locals in ap (then_give (more (placed around locals m).of)) (all_more around l ms n)

arms_more : (around : Around) (locals : Locals) (ns : Arms) (n : Arm) → placed_arms around locals (and_arm ns n) ≡ (placed_arms around locals ns >>= λ ns l. then_give (and_arm ns) (placed_arm around l n))
unfolding and_arm ◌>>=◌ then_give
arms_more around locals no_arms (arm labels a) = refl
arms_more around locals (more_arms (arm labels a) ms) n =
    let first = placed_all around locals labels in
    let second = placed around first.locals a in
    ap (then_give (more_arms (arm first.of second.of))) (arms_more around second.locals ms n)

-- one tree of a list more
pub tree_more : (trees before : List Tree) (i : ℕ) (t made d : Tree) (old mid new : Placer) → i < length trees → length trees ≡ length before → t ≡ get_or before i d →
    Does (λ around locals. placed_all around locals (nodes_in (take i before))) old (nodes_in (take i trees)) mid →
    Does (λ around locals. placed around locals (node_of t)) mid (node_of made) new →
    Does (λ around locals. placed_all around locals (nodes_in (take (i + 1) before))) old (nodes_in (take (i + 1) (set trees i made))) new
tree_more trees before i t made d old mid new below same t_is first second =
    let ns = nodes_in (take i before) in
    let cut : nodes_in (take (i + 1) before) ≡ and_node ns (node_of t) = ap nodes_in (take_more before i d (omega (arith, same))) ∙ nodes_append (take i before) (get_or before i d) ∙ ap (λ u. and_node ns (node_of u)) (sym t_is) in
    let cut' : nodes_in (take (i + 1) (set trees i made)) ≡ and_node (nodes_in (take i trees)) (node_of made) = ap nodes_in (take_more_set trees i made below) ∙ nodes_append (take i trees) made in
    does_same _ _ old new _ _ (λ around locals. ap (placed_all around locals) cut ∙ all_more around locals ns (node_of t)) cut'
    (does_both (λ around locals. placed_all around locals ns) (λ around locals. placed around locals (node_of t)) and_node old mid new (nodes_in (take i trees)) (node_of made) first second)

-- one arm of a list more
pub arm_more : (arms before : List ArmOf) (i : ℕ) (t made d : ArmOf) (old mid new : Placer) → i < length arms → length arms ≡ length before → t ≡ get_or before i d →
    Does (λ around locals. placed_arms around locals (arms_in (take i before))) old (arms_in (take i arms)) mid →
    Does (λ around locals. placed_arm around locals (arm_of t)) mid (arm_of made) new →
    Does (λ around locals. placed_arms around locals (arms_in (take (i + 1) before))) old (arms_in (take (i + 1) (set arms i made))) new
arm_more arms before i t made d old mid new below same t_is first second =
    let ns = arms_in (take i before) in
    let cut : arms_in (take (i + 1) before) ≡ and_arm ns (arm_of t) = ap arms_in (take_more before i d (omega (arith, same))) ∙ arms_append (take i before) (get_or before i d) ∙ ap (λ u. and_arm ns (arm_of u)) (sym t_is) in
    let cut' : arms_in (take (i + 1) (set arms i made)) ≡ and_arm (arms_in (take i arms)) (arm_of made) = ap arms_in (take_more_set arms i made below) ∙ arms_append (take i arms) made in
    does_same _ _ old new _ _ (λ around locals. ap (placed_arms around locals) cut ∙ arms_more around locals ns (arm_of t)) cut'
    (does_both (λ around locals. placed_arms around locals ns) (λ around locals. placed_arm around locals (arm_of t)) and_arm old mid new (arms_in (take i arms)) (arm_of made) first second)

-- an arm with what was made of its labels and its clause
pub arm_made : (labels : ListOf Tree) (old a : Tree) → arm_of (roll-Arm (record { labels = (out-Arm (roll-Arm (record { labels = labels; a = old }))).labels; a = a })) ≡ arm (nodes_in (items_of labels)) (node_of a)
arm_made labels old a =
    let inner : Arm-F TreeForm Body ArmOf Loop Tree = record { labels = labels; a = old } in
    let whole : Arm-F TreeForm Body ArmOf Loop Tree = record { labels = (out-Arm (roll-Arm inner)).labels; a = a } in
    arm_of-parts (roll-Arm whole) ∙ ap (λ (r : Arm-F TreeForm Body ArmOf Loop Tree). arm (nodes_in (items_of r.labels)) (node_of r.a)) (out-roll-Arm whole)
    ∙ ap (λ (r : Arm-F TreeForm Body ArmOf Loop Tree). arm (nodes_in (items_of r.labels)) (node_of a)) (out-roll-Arm inner)

pub arm_kept : (labels : ListOf Tree) (old : Tree) → (out-Arm (roll-Arm (record { labels = labels; a = old }))).a ≡ old
arm_kept labels old = let inner : Arm-F TreeForm Body ArmOf Loop Tree = record { labels = labels; a = old } in ap (λ (r : Arm-F TreeForm Body ArmOf Loop Tree). r.a) (out-roll-Arm inner)

-- The items of a list inside a clause, by their places in the list.
use Rattle.std.proofs.Common.{◌≡◌, ◌≤◌, ◌<◌, ◌+◌, ℕ, zero, suc, List, [], ◌∷◌, length, get_or, drop, drop-cons, arith, sym, ap, subst, ◌∙◌}
use Rattle.ps_base.specs.List.{items_of}
use Rattle.ps_program.specs.declared.form.Tree.{Tree}
use Rattle.ps_program.specs.declared.form.Arm.{Arm as ArmOf, out-Arm}
use Rattle.ps_program.specs.Node.{more, more_arms, arm}
use Rattle.ps_program.specs.NodeView.{node_of, nodes_in}
use Rattle.ps_program.specs.inside.PartsView.{arms_in}
use Rattle.ps_program.specs.inside.Weights.{weight, weight_all, weight_arms}
use Rattle.ps_program.proofs.NodeLists.{arm_of-parts}

-- the items from one place on
pub nodes_from : (items : List Tree) (i : ℕ) (item d : Tree) → item ≡ get_or items i d → i < length items → nodes_in (drop i items) ≡ more (node_of item) (nodes_in (drop (i + 1) items))
nodes_from items i item d is below =
    let up : suc i ≡ i + 1 = omega arith in
    ap nodes_in (drop-cons items i d below) ∙ ap (λ k. more (node_of (get_or items i d)) (nodes_in (drop k items))) up ∙ ap (λ t. more (node_of t) (nodes_in (drop (i + 1) items))) (sym is)

arms_first : (a : ArmOf) (arms : List ArmOf) → arms_in (a ∷ arms) ≡ more_arms (arm (nodes_in (items_of (out-Arm a).labels)) (node_of (out-Arm a).a)) (arms_in arms)
arms_first a arms = ap (λ x. more_arms x (arms_in arms)) (arm_of-parts a)

pub arms_from : (arms : List ArmOf) (i : ℕ) (a d : ArmOf) → a ≡ get_or arms i d → i < length arms → arms_in (drop i arms) ≡ more_arms (arm (nodes_in (items_of (out-Arm a).labels)) (node_of (out-Arm a).a)) (arms_in (drop (i + 1) arms))
arms_from arms i a d is below =
    let up : suc i ≡ i + 1 = omega arith in
    ap arms_in (drop-cons arms i d below) ∙ ap (λ k. arms_in (get_or arms i d ∷ drop k arms)) up ∙ ap (λ x. arms_in (x ∷ drop (i + 1) arms)) (sym is) ∙ arms_first a (drop (i + 1) arms)

weighs : (items : List Tree) (i : ℕ) (d : Tree) → i < length items → weight (node_of (get_or items i d)) ≤ weight_all (nodes_in items)
weighs [] i d below = absurd (omega arith)
weighs (t ∷ ts) zero d below = omega arith
weighs (t ∷ ts) (suc i) d below = let rest : weight (node_of (get_or ts i d)) ≤ weight_all (nodes_in ts) = weighs ts i d (omega arith) in omega arith

-- an item of a list weighs no more than the list
pub weight_at : (items : List Tree) (i : ℕ) (item d : Tree) → item ≡ get_or items i d → i < length items → weight (node_of item) ≤ weight_all (nodes_in items)
weight_at items i item d is below = subst (λ t. weight (node_of t) ≤ weight_all (nodes_in items)) (sym is) (weighs items i d below)

abbrev weight_arm : ArmOf → ℕ
weight_arm a = weight_all (nodes_in (items_of (out-Arm a).labels)) + weight (node_of (out-Arm a).a)

arm_weighs : (arms : List ArmOf) (i : ℕ) (d : ArmOf) → i < length arms → weight_arm (get_or arms i d) ≤ weight_arms (arms_in arms)
arm_weighs [] i d below = absurd (omega arith)
arm_weighs (a ∷ arms) zero d below = let first = ap weight_arms (arms_first a arms) in omega (arith, first)
arm_weighs (a ∷ arms) (suc i) d below =
    let first = ap weight_arms (arms_first a arms) in
    let rest : weight_arm (get_or arms i d) ≤ weight_arms (arms_in arms) = arm_weighs arms i d (omega arith) in
    omega (arith, first)

pub weight_arm_at : (arms : List ArmOf) (i : ℕ) (a d : ArmOf) → a ≡ get_or arms i d → i < length arms → weight_all (nodes_in (items_of (out-Arm a).labels)) + weight (node_of (out-Arm a).a) ≤ weight_arms (arms_in arms)
weight_arm_at arms i a d is below = subst (λ x. weight_arm x ≤ weight_arms (arms_in arms)) (sym is) (arm_weighs arms i d below)

-- What is counted over a clause, from its parts.
use Rattle.std.proofs.Common.{◌≡◌, ◌≤◌, Option, Some, ◌+◌, List, [], ◌∷◌, ◌++◌, map, refl, sym, ap, subst, ◌∙◌, arith}
use Rattle.std.proofs.lemmas.List.{map-append}
use Rattle.std.specs.Borrow.{Bor}
use Rattle.ps_program.specs.declared.form.Tree.{Tree}
use Rattle.ps_program.specs.declared.parts.Parts.{Parts}
use Rattle.ps_program.specs.declared.parts.Further.{Further}
use Rattle.ps_program.specs.declared.parts.Further.TheVariants as code
use Rattle.ps_program.specs.Node.{Node, Nodes, none, more, Arm, arm, Arms, no_arms, more_arms, body}
use Rattle.ps_program.specs.Node as node
use Rattle.ps_program.specs.NodeView.{node_of}
use Rattle.ps_program.specs.Parts.{Part, operand, label, branch, literal, fold, fold_all, fold_arms}
use Rattle.ps_program.specs.inside.Listed.{parts_all, parts_arms, parts_of, part_as}
use Rattle.ps_program.specs.inside.PartsView.{ArePartsOf, AreListed, first_in, first_as, further_in}
use Rattle.ps_program.specs.inside.Weights.{sum_within, weight, weight_part, weight_parts, weight_all, weight_arms}

pub moved : (n m : Node) (found parts : Parts) → n ≡ m → found ≡ parts → ArePartsOf m parts → ArePartsOf n found
moved n m found parts n_is found_is are = subst (λ (p : Parts). ArePartsOf n p) (sym found_is) (subst (λ (k : Node). ArePartsOf k parts) (sym n_is) are)

module _ {A : Type 0} (g : Node → List (Part A) → A) where
  abbrev folded : List (Part Node) → List (Part A)
  folded parts = map (part_as (fold g)) parts

  all_folded : (as_node : Node → Part Node) (as_part : A → Part A) → ((n : Node) → as_part (fold g n) ≡ part_as (fold g) (as_node n)) → (ns : Nodes) → fold_all g as_part ns ≡ folded (parts_all as_node ns)
  all_folded as_node as_part same none = refl
  all_folded as_node as_part same (more n ns) = ap (λ p. p ∷ fold_all g as_part ns) (same n) ∙ ap (λ ps. part_as (fold g) (as_node n) ∷ ps) (all_folded as_node as_part same ns)

  arms_folded : (arms : Arms) → fold_arms g arms ≡ folded (parts_arms arms)
  arms_folded no_arms = refl
  arms_folded (more_arms (arm labels a) rest) =
      ap (λ ps. ps ++ (branch (fold g a) ∷ fold_arms g rest)) (all_folded label label (λ n. refl) labels)
      ∙ ap (λ ps. folded (parts_all label labels) ++ (branch (fold g a) ∷ ps)) (arms_folded rest)
      ∙ sym (map-append (part_as (fold g)) (parts_all label labels) (branch a ∷ parts_arms rest))

  -- a fold over a clause is what is made of the clause and the folds over its parts
  pub fold_parts : (n : Node) → fold g n ≡ g n (folded (parts_of n))
  fold_parts (node.Block scope items) = ap (g (node.Block scope items)) (all_folded branch branch (λ n. refl) items)
  fold_parts (node.Make class args) = ap (g (node.Make class args)) (all_folded operand operand (λ n. refl) args)
  fold_parts (node.Lib code args line) = ap (g (node.Lib code args line)) (all_folded operand operand (λ n. refl) args)
  fold_parts (node.Elems l items ty line) = ap (λ ps. g (node.Elems l items ty line) (operand (fold g l) ∷ ps)) (all_folded operand operand (λ n. refl) items)
  fold_parts (node.Call f args line) = ap (λ ps. g (node.Call f args line) (operand (fold g f) ∷ ps)) (all_folded operand operand (λ n. refl) args)
  fold_parts (node.Case e arms d ty) =
      ap (λ ps. g (node.Case e arms d ty) (operand (fold g e) ∷ (ps ++ branch (fold g d) ∷ []))) (arms_folded arms)
      ∙ ap (λ ps. g (node.Case e arms d ty) (operand (fold g e) ∷ ps)) (sym (map-append (part_as (fold g)) (parts_arms arms) (branch d ∷ [])))
  fold_parts (node.Proc (body params gives tree scope line)) = refl
  fold_parts _ = refl

weighed : (parts : List (Part Node)) → sum_within (map (part_as weight) parts) ≡ weight_parts parts
weighed [] = refl
weighed (operand n ∷ rest) = ap (λ w. weight n + w) (weighed rest)
weighed (label n ∷ rest) = ap (λ w. weight n + w) (weighed rest)
weighed (branch n ∷ rest) = ap (λ w. weight n + w) (weighed rest)
weighed (literal n ∷ rest) = ap (λ w. weight n + w) (weighed rest)

-- a clause weighs one more than its parts
pub weight_is : (n : Node) → weight n ≡ 1 + weight_parts (parts_of n)
weight_is n = fold_parts (λ clause parts. 1 + sum_within parts) n ∙ ap (λ w. 1 + w) (weighed (parts_of n))

pub weight_parts-append : (ps qs : List (Part Node)) → weight_parts (ps ++ qs) ≡ weight_parts ps + weight_parts qs
weight_parts-append [] qs = omega arith
weight_parts-append (p ∷ ps) qs = let rest = weight_parts-append ps qs in omega arith

pub weight_of_all : (as_node : Node → Part Node) → ((n : Node) → weight_part (as_node n) ≡ weight n) → (ns : Nodes) → weight_parts (parts_all as_node ns) ≡ weight_all ns
weight_of_all as_node same none = refl
weight_of_all as_node same (more n ns) = let rest = weight_of_all as_node same ns in omega (arith, same n)

pub weight_of_arms : (arms : Arms) → weight_parts (parts_arms arms) ≡ weight_arms arms
weight_of_arms no_arms = refl
weight_of_arms (more_arms (arm labels a) rest) =
    let ls = weight_of_all label (λ n. refl) labels in
    let rs = weight_of_arms rest in
    let both = weight_parts-append (parts_all label labels) (branch a ∷ parts_arms rest) in
    omega arith

first_weight : (further : Further) (n : Node) → weight_part (first_as further n) ≡ weight n
first_weight (code.OneBranch a) n = refl
first_weight (code.TwoBranches a b) n = refl
first_weight _ n = refl

-- the parts of a clause weigh less than the clause
pub further_lighter : (n : Node) (first : Option (Bor Tree)) (further : Further) → AreListed n first further → weight_parts (further_in further) + 1 ≤ weight n
further_lighter n first further are =
    omega (arith, weight_is n, ap weight_parts are.listed, weight_parts-append (first_in further first) (further_in further))

pub first_lighter : (n : Node) (first : Bor Tree) (further : Further) → AreListed n (Some first) further → weight (node_of first.now) + 1 ≤ weight n
first_lighter n first further are =
    let listed : weight_part (first_as further (node_of first.now)) + weight_parts (further_in further) ≡ weight_parts (parts_of n) = ap weight_parts are.listed in
    omega (arith, weight_is n, listed, first_weight further (node_of first.now))

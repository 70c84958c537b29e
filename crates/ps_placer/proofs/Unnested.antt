-- A program in which no literal stands keeps no name: all its names are mentioned inside as many literals as they are declared in.
use Rattle.std.proofs.Common.{◌≡◌, ◌≤◌, ℕ, zero, suc, ◌+◌, nat_eq, nat_lt, Bool, true, false, Option, Some, None, List, [], ◌∷◌, ◌++◌, length, map, refl, sym, ap, ◌∙◌, arith, if◌then◌else◌}
use Rattle.ps_program.specs.Node.{Node, Nodes, none, more, arm, Arms, no_arms, more_arms, BodyNode, body}
use Rattle.ps_program.specs.Node as node
use Rattle.ps_program.specs.Parts.{Part, operand, label, branch, literal}
use Rattle.ps_program.specs.inside.Listed.{parts_all, parts_arms, parts_of, part_as}
use Rattle.ps_program.specs.inside.Weights.{weight, weight_parts}
use Rattle.ps_program.proofs.PartLemmas.{fold_parts, weight_is}
use Rattle.ps_typing.specs.Mentions.{number_of, own_mention, kept_names, is_among}
use Rattle.ps_typing.specs.Program.{bodies, bodies_of, own_body, bodies_with, bodies_in}
use Rattle.ps_placer.specs.inside.Marks.{deepest, marks, marks_parts, marks_body, no_marks, is_deeper, is_kept}
use Rattle.ps_placer.proofs.Marking.{marks_is}
use Rattle.ps_placer.proofs.Keeping.{kept_names_is}

module _ {A : Type 0} where
  front_empty : (xs ys : List A) → xs ++ ys ≡ [] → xs ≡ []
  front_empty [] ys is = refl
  front_empty (x ∷ xs) ys is = absurd (omega (arith, ap length is))

  back_empty : (xs ys : List A) → xs ++ ys ≡ [] → ys ≡ []
  back_empty [] ys is = is
  back_empty (x ∷ xs) ys is = absurd (omega (arith, ap length is))

-- how many parts are clauses of literals

abbrev literals_among : List (Part Node) → ℕ
literals_among [] = 0
literals_among (operand n ∷ rest) = literals_among rest
literals_among (label n ∷ rest) = literals_among rest
literals_among (branch n ∷ rest) = literals_among rest
literals_among (literal n ∷ rest) = 1 + literals_among rest

among_both : (ps qs : List (Part Node)) → literals_among (ps ++ qs) ≡ literals_among ps + literals_among qs
among_both [] qs = omega arith
among_both (operand n ∷ ps) qs = among_both ps qs
among_both (label n ∷ ps) qs = among_both ps qs
among_both (branch n ∷ ps) qs = among_both ps qs
among_both (literal n ∷ ps) qs = let rest = among_both ps qs in omega arith

among_all : (as_node : Node → Part Node) → ((n : Node) (rest : List (Part Node)) → literals_among (as_node n ∷ rest) ≡ literals_among rest) → (ns : Nodes) → literals_among (parts_all as_node ns) ≡ 0
among_all as_node is none = refl
among_all as_node is (more n ns) = is n (parts_all as_node ns) ∙ among_all as_node is ns

among_arms : (arms : Arms) → literals_among (parts_arms arms) ≡ 0
among_arms no_arms = refl
among_arms (more_arms (arm labels a) rest) =
    let here = among_all label (λ n rest. refl) labels in
    let behind = among_arms rest in
    let both = among_both (parts_all label labels) (branch a ∷ parts_arms rest) in
    omega arith

among_parts : (n : Node) → own_body n ≡ [] → literals_among (parts_of n) ≡ 0
among_parts (node.Block scope items) free = among_all branch (λ n rest. refl) items
among_parts (node.Make class args) free = among_all operand (λ n rest. refl) args
among_parts (node.Lib code args line) free = among_all operand (λ n rest. refl) args
among_parts (node.Elems l items ty line) free = among_all operand (λ n rest. refl) items
among_parts (node.Call f args line) free = among_all operand (λ n rest. refl) args
among_parts (node.Case e arms d ty) free = let both = among_both (parts_arms arms) (branch d ∷ []) in let none = among_arms arms in omega arith
among_parts (node.Proc of) free = absurd (omega (arith, ap length free))
among_parts _ free = refl

-- nothing is mentioned inside a literal

none_either : (b : Bool) → (if b then 0 + 0 else 0) ≡ 0
none_either true = refl
none_either false = refl

own_outside : (n : Node) (k : ℕ) → deepest 0 (own_mention n) k ≡ 0
own_outside (node.Name place ty) k = omega (arith, none_either (nat_eq (number_of place) k))
own_outside (node.SetName place ty e) k = omega (arith, none_either (nat_eq (number_of place) k))
own_outside _ k = refl

parts_outside : (most : ℕ) → ((n : Node) → weight n ≤ most → bodies_in n ≡ [] → (k : ℕ) → (marks 0 n).mentioned k ≡ 0)
    → (ps : List (Part Node)) → weight_parts ps ≤ most → literals_among ps ≡ 0 → bodies_of (map (part_as bodies_in) ps) ≡ [] → (k : ℕ) → (marks_parts 0 ps).mentioned k ≡ 0
parts_outside most each [] light plain free k = refl
parts_outside most each (operand n ∷ ps) light plain free k =
    let here = each n (omega arith) (front_empty (bodies_in n) _ free) k in
    let rest = parts_outside most each ps (omega arith) plain (back_empty (bodies_in n) _ free) k in
    omega arith
parts_outside most each (label n ∷ ps) light plain free k =
    let here = each n (omega arith) (front_empty (bodies_in n) _ free) k in
    let rest = parts_outside most each ps (omega arith) plain (back_empty (bodies_in n) _ free) k in
    omega arith
parts_outside most each (branch n ∷ ps) light plain free k =
    let here = each n (omega arith) (front_empty (bodies_in n) _ free) k in
    let rest = parts_outside most each ps (omega arith) plain (back_empty (bodies_in n) _ free) k in
    omega arith
parts_outside most each (literal n ∷ ps) light plain free k = absurd (omega (arith, plain))

outside : (most : ℕ) (n : Node) → weight n ≤ most → bodies_in n ≡ [] → (k : ℕ) → (marks 0 n).mentioned k ≡ 0
outside zero n light free k = absurd (omega (arith, weight_is n, light))
outside (suc most) n light free k =
    let found : bodies_in n ≡ own_body n ++ bodies_of (map (part_as bodies_in) (parts_of n)) = fold_parts bodies_with n in
    let whole = sym found ∙ free in
    let own = own_outside n k in
    let parts = parts_outside most (outside most) (parts_of n) (omega (arith, weight_is n, light)) (among_parts n (front_empty (own_body n) _ whole)) (back_empty (own_body n) _ whole) k in
    let sum = ap (λ m. m.mentioned k) (marks_is 0 n) in
    omega (arith, own, parts, sum)

none_below : (d : ℕ) → nat_lt d 0 ≡ false
none_below zero = refl
none_below (suc d) = grind arith

not_deeper : (declared : Option ℕ) (mentioned : ℕ) → mentioned ≡ 0 → is_deeper declared mentioned ≡ false
not_deeper None mentioned is = refl
not_deeper (Some d) mentioned is = ap (λ m. nat_lt d m) is ∙ none_below d

abbrev behind_first : List BodyNode → List BodyNode
behind_first [] = []
behind_first (first ∷ rest) = rest

pub keeps_nothing : (program : BodyNode) → bodies program ≡ program ∷ [] → (k : ℕ) → is_kept no_marks k ≡ is_among (kept_names program) k
keeps_nothing (body params gives tree scope line) alone k =
    let of = body params gives tree scope line in
    let free : bodies_in tree ≡ [] = ap behind_first alone in
    let none = outside (weight tree) tree (omega arith) free k in
    sym (not_deeper ((marks_body 0 of).declared k) ((marks_body 0 of).mentioned k) (omega (arith, none))) ∙ kept_names_is of k

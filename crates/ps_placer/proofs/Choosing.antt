-- The kept ones among some names.
use Rattle.std.proofs.Common.{◌≡◌, ◌<◌, ℕ, ◌+◌, suc, Bool, true, false, if◌then◌else◌, List, [], ◌∷◌, ◌++◌, length, get_or, drop, drop-cons, append_assoc, refl, sym, ap, ◌∙◌, arith}
use Rattle.ps_program.specs.declared.body.Param.{Param}
use Rattle.ps_program.specs.declared.form.Tree.{Tree}
use Rattle.ps_program.specs.Node.{Node, Nodes, more}
use Rattle.ps_program.specs.Node as node
use Rattle.ps_program.specs.NodeView.{node_of, nodes_in, params_of}
use Rattle.ps_program.proofs.NodeSteps.{nodes_from}
use Rattle.ps_typing.specs.Mentions.{is_among, common, numbers, number_of}
use Rattle.ps_typing.specs.Placing.{declared}
use Rattle.ps_placer.specs.inside.Standing.{chosen, declared_by}

chosen_append : (test : ℕ → Bool) (xs ys : List ℕ) → chosen test (xs ++ ys) ≡ chosen test xs ++ chosen test ys
chosen_append test [] ys = refl
chosen_append test (x ∷ xs) ys =
    ap (λ l. if test x then x ∷ l else l) (chosen_append test xs ys)
    ∙ elim (test x) as (λ b. (if b then x ∷ (chosen test xs ++ chosen test ys) else (chosen test xs ++ chosen test ys)) ≡ (if b then x ∷ chosen test xs else chosen test xs) ++ chosen test ys) [ true ↦ refl | false ↦ refl ]

-- the kept ones, where the test finds them
pub chosen_common : (test : ℕ → Bool) (kept ks : List ℕ) → ((k : ℕ) → test k ≡ is_among kept k) → chosen test ks ≡ common ks kept
chosen_common test kept [] same = refl
chosen_common test kept (k ∷ ks) same =
    ap (λ l. if test k then k ∷ l else l) (chosen_common test kept ks same) ∙ ap (λ b. if b then k ∷ common ks kept else common ks kept) (same k)

declared_more : (n : Node) (ns : Nodes) → declared (more n ns) ≡ declared_by n ++ declared ns
declared_more (node.Let place ty e) ns = refl
declared_more _ ns = refl

-- one item more
pub item_more : (test : ℕ → Bool) (items : List Tree) (i : ℕ) (item d : Tree) (kept after whole : List ℕ) → item ≡ get_or items i d → i < length items → after ≡ kept ++ chosen test (declared_by (node_of item)) → kept ++ chosen test (declared (nodes_in (drop i items))) ≡ whole → after ++ chosen test (declared (nodes_in (drop (i + 1) items))) ≡ whole
item_more test items i item d kept after whole is below after_is whole_is =
    let rest = declared (nodes_in (drop (i + 1) items)) in
    ap (λ l. l ++ chosen test rest) after_is ∙ append_assoc kept (chosen test (declared_by (node_of item))) (chosen test rest)
    ∙ ap (λ l. kept ++ l) (sym (chosen_append test (declared_by (node_of item)) rest) ∙ ap (chosen test) (sym (declared_more (node_of item) (nodes_in (drop (i + 1) items)))) ∙ ap (λ ns. chosen test (declared ns)) (sym (nodes_from items i item d is below)))
    ∙ whole_is

-- one parameter more
pub param_more : (test : ℕ → Bool) (params : List Param) (i : ℕ) (param d : Param) (kept after whole : List ℕ) → param ≡ get_or params i d → i < length params → after ≡ kept ++ chosen test (number_of param.place ∷ []) → kept ++ chosen test (numbers (params_of (drop i params))) ≡ whole → after ++ chosen test (numbers (params_of (drop (i + 1) params))) ≡ whole
param_more test params i param d kept after whole is below after_is whole_is =
    let up : suc i ≡ i + 1 = omega arith in
    let rest = numbers (params_of (drop (i + 1) params)) in
    let cut : numbers (params_of (drop i params)) ≡ (number_of param.place ∷ []) ++ rest =
    ap (λ ps. numbers (params_of ps)) (drop-cons params i d below) ∙ ap (λ k. number_of (get_or params i d).place ∷ numbers (params_of (drop k params))) up ∙ ap (λ (p : Param). number_of p.place ∷ rest) (sym is) in
    ap (λ l. l ++ chosen test rest) after_is ∙ append_assoc kept (chosen test (number_of param.place ∷ [])) (chosen test rest)
    ∙ ap (λ l. kept ++ l) (sym (chosen_append test (number_of param.place ∷ []) rest) ∙ ap (chosen test) (sym cut))
    ∙ whole_is

-- The clauses of lists, by their places.
use Rattle.std.proofs.Common.{◌≡◌, ◌≤◌, ◌<◌, ◌+◌, ℕ, zero, suc, List, [], ◌∷◌, length, get_or, drop, drop-cons, arith, refl, sym, ap, ◌∙◌}
use Rattle.std.proofs.lemmas.List.{drop_all}
use Rattle.ps_base.specs.TyView.{ty_view, ty_views}
use Rattle.ps_base.specs.TyView as ty
use Rattle.ps_base.specs.declared.ty.Ty.{Ty}
use Rattle.ps_tree.specs.declared.rough.Rough.{Rough}
use Rattle.ps_tree.specs.declared.rough.RoughArm.{RoughArm}
use Rattle.ps_tree.specs.declared.rough.RoughItem.{RoughItem}
use Rattle.ps_tree.specs.Phrase.{more, more_items, more_arms, none, no_items, no_arms, phrase_of, item_of, arm_of}
use Rattle.ps_tree.specs.PhraseLists.{phrases_in, items_in, arms_in}
use Rattle.ps_steps.specs.ps_checked.inside.Weights.{weight, weight_all, weight_item, weight_written, weight_arm, weight_arms}

-- a clause of a list weighs no more than the list
pub weight_at : (clauses : List Rough) (i : ℕ) (d : Rough) → i < length clauses → weight (phrase_of (get_or clauses i d)) ≤ weight_all (phrases_in clauses)
weight_at [] i d below = absurd (omega arith)
weight_at (t ∷ ts) zero d below = omega arith
weight_at (t ∷ ts) (suc i) d below = let rest : weight (phrase_of (get_or ts i d)) ≤ weight_all (phrases_in ts) = weight_at ts i d (omega arith) in omega arith

pub item_weight_at : (items : List RoughItem) (i : ℕ) (d : RoughItem) → i < length items → weight_item (item_of (get_or items i d)) ≤ weight_written (items_in items)
item_weight_at [] i d below = absurd (omega arith)
item_weight_at (t ∷ ts) zero d below = omega arith
item_weight_at (t ∷ ts) (suc i) d below = let rest : weight_item (item_of (get_or ts i d)) ≤ weight_written (items_in ts) = item_weight_at ts i d (omega arith) in omega arith

pub arm_weight_at : (arms : List RoughArm) (i : ℕ) (d : RoughArm) → i < length arms → weight_arm (arm_of (get_or arms i d)) ≤ weight_arms (arms_in arms)
arm_weight_at [] i d below = absurd (omega arith)
arm_weight_at (t ∷ ts) zero d below = omega arith
arm_weight_at (t ∷ ts) (suc i) d below = let rest : weight_arm (arm_of (get_or ts i d)) ≤ weight_arms (arms_in ts) = arm_weight_at ts i d (omega arith) in omega arith

-- the clauses from one place on
up : (i : ℕ) → suc i ≡ i + 1
up i = omega arith

pub phrases_from : (clauses : List Rough) (i : ℕ) (one : Rough) → i < length clauses → one ≡ get_or clauses i one → phrases_in (drop i clauses) ≡ more (phrase_of one) (phrases_in (drop (i + 1) clauses))
phrases_from clauses i one below is = ap phrases_in (drop-cons clauses i one below) ∙ ap (λ r. more (phrase_of r) (phrases_in (drop (suc i) clauses))) (sym is) ∙ ap (λ k. more (phrase_of one) (phrases_in (drop k clauses))) (up i)

pub items_from : (items : List RoughItem) (i : ℕ) (one : RoughItem) → i < length items → one ≡ get_or items i one → items_in (drop i items) ≡ more_items (item_of one) (items_in (drop (i + 1) items))
items_from items i one below is = ap items_in (drop-cons items i one below) ∙ ap (λ r. more_items (item_of r) (items_in (drop (suc i) items))) (sym is) ∙ ap (λ k. more_items (item_of one) (items_in (drop k items))) (up i)

pub arms_from : (arms : List RoughArm) (i : ℕ) (one : RoughArm) → i < length arms → one ≡ get_or arms i one → arms_in (drop i arms) ≡ more_arms (arm_of one) (arms_in (drop (i + 1) arms))
arms_from arms i one below is = ap arms_in (drop-cons arms i one below) ∙ ap (λ r. more_arms (arm_of r) (arms_in (drop (suc i) arms))) (sym is) ∙ ap (λ k. more_arms (arm_of one) (arms_in (drop k arms))) (up i)

pub types_from : (types : List Ty) (i : ℕ) (one : Ty) → i < length types → one ≡ get_or types i one → ty_views (drop i types) ≡ ty.more (ty_view one) (ty_views (drop (i + 1) types))
types_from types i one below is = ap ty_views (drop-cons types i one below) ∙ ap (λ t. ty.more (ty_view t) (ty_views (drop (suc i) types))) (sym is) ∙ ap (λ k. ty.more (ty_view one) (ty_views (drop k types))) (up i)

-- after the last there is none
pub phrases_behind : (clauses : List Rough) (i : ℕ) → length clauses ≤ i → phrases_in (drop i clauses) ≡ none
phrases_behind clauses i past = ap phrases_in (drop_all i clauses past)

pub items_behind : (items : List RoughItem) (i : ℕ) → length items ≤ i → items_in (drop i items) ≡ no_items
items_behind items i past = ap items_in (drop_all i items past)

pub arms_behind : (arms : List RoughArm) (i : ℕ) → length arms ≤ i → arms_in (drop i arms) ≡ no_arms
arms_behind arms i past = ap arms_in (drop_all i arms past)

pub empty : {A : Type 0} (xs : List A) → length xs ≡ 0 → xs ≡ []
empty [] is = refl
empty (x ∷ xs) is = absurd (omega (arith, is))

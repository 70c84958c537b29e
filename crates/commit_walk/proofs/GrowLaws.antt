-- Lists that grow.
use Rattle.std.proofs.Common.{inl, inr, ◌⊎◌, ◌≡◌, ℕ, List, [], ◌∷◌, ◌++◌, refl, sym, ap, ◌∙◌, subst, append_assoc, append-nil}
use Rattle.std.proofs.lemmas.Bool.{cases_Bool}
use Rattle.reaching.specs.Reaching.{IsIn, is_in}
use Rattle.reaching.proofs.Lists.{then_is, else_is, is_in-in, not_in, in-append, in-front, in-behind}
use Rattle.commit_walk.specs.Walk.{and_once, Grows}

pub grows-none : (list : List ℕ) (adds : ℕ → Type 0) → ((y : ℕ) → adds y → ⊥) → Grows list list adds
grows-none list adds none = record {
  more = [];
  is = sym (append-nil list);
  only = λ y l. elim l [ ];
  fresh = λ y l m. l;
  has = λ y a. absurd (none y a);
}

pub grows-one : (list : List ℕ) (x : ℕ) → Grows list (and_once list x) (λ y. y ≡ x)
unfolding and_once
grows-one list x =
    elim (cases_Bool (is_in x list)) [
      | inl here ↦
          let is = then_is (is_in x list) list (list ++ x ∷ []) here in
          subst (λ new. Grows list new (λ y. y ≡ x)) (sym is) (record {
            more = [];
            is = sym (append-nil list);
            only = λ y l. elim l [ ];
            fresh = λ y l m. l;
            has = λ y e. subst (λ z. IsIn z list) (sym e) (is_in-in x list here);
          })
      | inr away ↦
          let is = else_is (is_in x list) list (list ++ x ∷ []) away in
          subst (λ new. Grows list new (λ y. y ≡ x)) (sym is) (record {
            more = x ∷ [];
            is = refl;
            only = λ y l. elim l [ inl e ↦ e | inr n ↦ absurd n ];
            fresh = λ y l m. elim l [ inl e ↦ not_in x list away (subst (λ z. IsIn z list) e m) | inr n ↦ n ];
            has = λ y e. in-behind y list (x ∷ []) (inl e);
          })
    ]

pub grows-as : (old new : List ℕ) (P Q : ℕ → Type 0) → Grows old new P → ((y : ℕ) → P y → Q y) → ((y : ℕ) → Q y → P y) → Grows old new Q
grows-as old new P Q g pq qp = record { more = g.more; is = g.is; only = λ y l. pq y (g.only y l); fresh = g.fresh; has = λ y q. g.has y (qp y q) }

pub grows-in : (old new : List ℕ) (P : ℕ → Type 0) → Grows old new P → (y : ℕ) → IsIn y old → IsIn y new
grows-in old new P g y l = subst (IsIn y) (sym g.is) (in-front y old g.more l)

pub grows-cases : (old new : List ℕ) (P : ℕ → Type 0) → Grows old new P → (y : ℕ) → IsIn y new → IsIn y old ⊎ P y
grows-cases old new P g y l = elim (in-append y old g.more (subst (IsIn y) g.is l)) [ inl a ↦ inl a | inr b ↦ inr (g.only y b) ]

pub grows-then : (a b c : List ℕ) (P Q : ℕ → Type 0) → Grows a b P → Grows b c Q → Grows a c (λ y. P y ⊎ Q y)
grows-then a b c P Q g h = record {
  more = g.more ++ h.more;
  is = h.is ∙ (ap (λ l. l ++ h.more) g.is ∙ append_assoc a g.more h.more);
  only = λ y l. elim (in-append y g.more h.more l) [ inl m ↦ inl (g.only y m) | inr m ↦ inr (h.only y m) ];
  fresh = λ y l m. elim (in-append y g.more h.more l) [ inl k ↦ g.fresh y k m | inr k ↦ h.fresh y k (grows-in a b P g y m) ];
  has = λ y e. elim e [ inl p ↦ grows-in b c Q h y (g.has y p) | inr q ↦ h.has y q ];
}

-- What one slot adds to the list of a walk.
use Rattle.std.proofs.Common.{inl, inr, ◌⊎◌, ◌≡◌, ℕ, ◌+◌, ◌<◌, subst, arith}
use Rattle.std.proofs.lemmas.Bool.{cases_eq}
use Rattle.swizzle.specs.Heap.{Heap}
use Rattle.commit_walk.specs.Walk.{Lists, Names, GoesBelow, May}
use Rattle.commit_walk.proofs.SteadyLaws.{alike, alike-back, names-alike, may-alike, lists-as, lists-none, lists-then}

-- the slots before one, and that one
pub slots-more : (old mid new : Heap) (x slot : ℕ)
    → Lists old mid (λ y. GoesBelow old slot x y × May old y) → Lists mid new (λ y. Names mid x slot y × May mid y)
    → Lists old new (λ y. GoesBelow old (slot + 1) x y × May old y)
slots-more old mid new x slot g h =
    let a = alike old mid g.steady in
    let back = alike-back old mid a in
    let P : ℕ → Type 0 = λ y. GoesBelow old slot x y × May old y in
    let Q : ℕ → Type 0 = λ y. Names mid x slot y × May mid y in
    lists-as old new (λ y. P y ⊎ Q y) (λ y. GoesBelow old (slot + 1) x y × May old y) (lists-then old mid new P Q g h)
    (λ y e. elim e [
      | inl p ↦ let b = p.0 in (record { slot = b.slot; below = omega (arith, b.below); names = b.names }, p.1)
      | inr q ↦ (record { slot = slot; below = omega arith; names = names-alike mid old back x slot y q.0 }, may-alike mid old back y q.1)
    ])
    (λ y p. let b = p.0 in elim (last b.slot slot b.below) [
      | inl lt ↦ inl (record { slot = b.slot; below = lt; names = b.names }, p.1)
      | inr same ↦ inr (names-alike old mid a x slot y (subst (λ s. Names old x s y) same b.names), may-alike old mid a y p.1)
    ])
  where
    last : (a b : ℕ) → a < b + 1 → (a < b) ⊎ (a ≡ b)
    last a b lt = elim (cases_eq a b) [ inl e ↦ inr e | inr ne ↦ inl (omega arith) ]

pub slots-none : (heap : Heap) (x : ℕ) → Lists heap heap (λ y. GoesBelow heap 0 x y × May heap y)
slots-none heap x = lists-none heap (λ y. GoesBelow heap 0 x y × May heap y) (λ y p. omega (arith, p.0.below))

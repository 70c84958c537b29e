-- Objects with a home, and the walks' starts.
use Rattle.std.proofs.Common.{Bool, true, false, inl, inr, ◌⊎◌, ◌≡◌, ℕ, zero, suc, ◌+◌, ◌<◌, List, [], ◌∷◌, length, refl, sym, ap, subst, arith, Some, None, get_or, if◌then◌else◌, nat_eq}
use Rattle.std.specs.Prelude.{unwrap_or}
use Rattle.std.proofs.lemmas.Bool.{true≢false, cases_eq}
use Rattle.swizzle.specs.obj_layout.Kind.{kind_number}
use Rattle.swizzle.specs.obj_layout.declared.header.Header.{Header}
use Rattle.swizzle.specs.Objects.{Object, size_of, find_from, IsFit, AreFit}
use Rattle.swizzle.specs.Heap.{Heap, IsHeap, IsHeld, nothing, header_at, IsListed}
use Rattle.swizzle.proofs.HeapLaws.{first_is, behind_is}
use Rattle.commit_walk.specs.Walk.{Lists, Goes, May, has_home, IsAt, StartsAt}
use Rattle.commit_walk.proofs.SteadyLaws.{alike, alike-back, goes-alike, may-alike, at-alike, homes-back, homes-stay, lists-as, lists-none, lists-then}

pub fit_found : (at : ℕ) (os : List Object) (i : ℕ) (o : Object) → AreFit os → find_from at os i ≡ Some o → IsFit o
fit_found at [] i o fit e = let none : None ≡ Some o = e in absurd (cc)
fit_found at (p ∷ os) i o fit e =
    elim (cases_eq i at) [
      | inl same ↦ subst IsFit (first_is at p os i o e same) fit.0
      | inr apart ↦ fit_found (at + size_of p) os i o fit.1 (behind_is at p os i o e apart)
    ]

pub home_below : (heap : Heap) (x : ℕ) → IsHeap heap → IsHeld heap x → 0 < (header_at heap x).nums
home_below heap x h held =
    let fit = fit_found 1 heap.objects x held.object h.fit held.is in
    let same = ap (λ f. (unwrap_or f nothing).header.nums) held.is in
    omega (arith, fit.home, same)

abbrev pub chain : Bool → Bool → Bool → Bool → Bool
chain a b c d = if a then true else (if b then true else (if c then true else d))

first_of_chain : (a b c d : Bool) → a ≡ true → chain a b c d ≡ true
first_of_chain true b c d e = refl
first_of_chain false b c d e = absurd (true≢false (sym e))

second_of_chain : (a b c d : Bool) → b ≡ true → chain a b c d ≡ true
second_of_chain true b c d e = refl
second_of_chain false true c d e = refl
second_of_chain false false c d e = absurd (true≢false (sym e))

third_of_chain : (a b c d : Bool) → c ≡ true → chain a b c d ≡ true
third_of_chain true b c d e = refl
third_of_chain false true c d e = refl
third_of_chain false false true d e = refl
third_of_chain false false false d e = absurd (true≢false (sym e))

last_of_chain : (a b c d : Bool) → a ≡ false → b ≡ false → c ≡ false → chain a b c d ≡ d
last_of_chain true b c d e f g = absurd (true≢false e)
last_of_chain false true c d e f g = absurd (true≢false f)
last_of_chain false false true d e f g = absurd (true≢false g)
last_of_chain false false false d e f g = refl

abbrev is_number : Header → ℕ → Bool
is_number h n = nat_eq (kind_number h.kind) n

pub homed-2 : (h : Header) → is_number h 2 ≡ true → has_home h ≡ true
unfolding has_home
homed-2 h e = first_of_chain (is_number h 2) (is_number h 3) (is_number h 4) (is_number h 7) e

pub homed-3 : (h : Header) → is_number h 3 ≡ true → has_home h ≡ true
unfolding has_home
homed-3 h e = second_of_chain (is_number h 2) (is_number h 3) (is_number h 4) (is_number h 7) e

pub homed-4 : (h : Header) → is_number h 4 ≡ true → has_home h ≡ true
unfolding has_home
homed-4 h e = third_of_chain (is_number h 2) (is_number h 3) (is_number h 4) (is_number h 7) e

pub homed-7 : (h : Header) → is_number h 2 ≡ false → is_number h 3 ≡ false → is_number h 4 ≡ false → has_home h ≡ is_number h 7
unfolding has_home
homed-7 h e f g = last_of_chain (is_number h 2) (is_number h 3) (is_number h 4) (is_number h 7) e f g

-- What one assigned object adds, or none where its home is elsewhere.

pub assigned-none : (heap : Heap) (number : ℕ) (assigned : List ℕ) → Lists heap heap (λ y. StartsAt heap number assigned 0 y × May heap y)
assigned-none heap number assigned = lists-none heap (λ y. StartsAt heap number assigned 0 y × May heap y) (λ y p. omega (arith, p.0.below))

pub assigned-more : (old mid new : Heap) (number : ℕ) (assigned : List ℕ) (count : ℕ)
    → Lists old mid (λ y. StartsAt old number assigned count y × May old y)
    → Lists mid new (λ y. IsAt mid number (get_or assigned count 0) × Goes mid (get_or assigned count 0) y × May mid y)
    → Lists old new (λ y. StartsAt old number assigned (count + 1) y × May old y)
assigned-more old mid new number assigned count g h =
    let a = alike old mid g.steady in
    let back = alike-back old mid a in
    let stay = homes-stay old mid g.homes in
    let x = get_or assigned count 0 in
    let P : ℕ → Type 0 = λ y. StartsAt old number assigned count y × May old y in
    let Q : ℕ → Type 0 = λ y. IsAt mid number x × Goes mid x y × May mid y in
    lists-as old new (λ y. P y ⊎ Q y) (λ y. StartsAt old number assigned (count + 1) y × May old y) (lists-then old mid new P Q g h)
    (λ y e. elim e [
      | inl p ↦ let s = p.0 in (record { place = s.place; below = omega (arith, s.below); at = s.at; goes = s.goes }, p.1)
      | inr q ↦ (
        record { place = count; below = omega arith; at = at-alike mid old back (homes-back old mid a stay) number x q.0; goes = goes-alike mid old back x y q.1 },
        may-alike mid old back y q.2,
      )
    ])
    (λ y p. let s = p.0 in elim (last s.place count s.below) [
      | inl lt ↦ inl (record { place = s.place; below = lt; at = s.at; goes = s.goes }, p.1)
      | inr same ↦
          let at = subst (λ i. IsAt old number (get_or assigned i 0)) same s.at in
          let goes = subst (λ i. Goes old (get_or assigned i 0) y) same s.goes in
          inr (at-alike old mid a stay number x at, goes-alike old mid a x y goes, may-alike old mid a y p.1)
    ])
  where
    last : (a b : ℕ) → a < b + 1 → (a < b) ⊎ (a ≡ b)
    last a b lt = elim (cases_eq a b) [ inl e ↦ inr e | inr ne ↦ inl (omega arith) ]

listed_at : (xs : List ℕ) (i : ℕ) → i < length xs → IsListed (get_or xs i 0) xs
listed_at [] i lt = omega arith
listed_at (x ∷ xs) zero lt = inl refl
listed_at (x ∷ xs) (suc i) lt = inr (listed_at xs i (omega arith))

-- an assigned object, and a reached one, is one of the area
pub assigned_held : (heap : Heap) (i : ℕ) → IsHeap heap → i < length heap.assigned → IsHeld heap (get_or heap.assigned i 0)
assigned_held heap i h lt =
    let m = h.noted.marked (get_or heap.assigned i 0) (listed_at heap.assigned i lt) in
    record { object = m.object; is = m.is }

pub reached_held : (heap : Heap) (i : ℕ) → IsHeap heap → i < length heap.reached → IsHeld heap (get_or heap.reached i 0)
reached_held heap i h lt =
    let m = h.walked.marked (get_or heap.reached i 0) (listed_at heap.reached i lt) in
    record { object = m.object; is = m.is }

-- The walk over the list: what holds while it goes on.
use Rattle.std.proofs.Common.{inl, inr, ◌⊎◌, ◌≡◌, ℕ, zero, suc, ◌+◌, ◌<◌, ◌≤◌, List, [], ◌∷◌, ◌++◌, length, refl, sym, ap, ◌∙◌, subst, arith, Option, Some, get_or, append_assoc, append-nil, length-append}
use Rattle.std.proofs.lemmas.List.{get_or_append_left}
use Rattle.std.proofs.lemmas.Bool.{cases_eq, cases_lt}
use Rattle.swizzle.specs.Heap.{Heap, IsHeap}
use Rattle.reaching.specs.Reaching.{IsIn, Reached, at_start, by_step}
use Rattle.reaching.proofs.Lists.{in-append, in-front}
use Rattle.commit_walk.specs.Walk.{Grows, Goes, May, AreHeld, GoesFrom, AreDone, IsWalked, IsClosed, Starts, StartsAt, Finds, IsSearched}
use Rattle.commit_walk.proofs.GrowLaws.{grows-in, grows-cases, grows-then}
use Rattle.commit_walk.proofs.SteadyLaws.{listed-held}

pub index-in : (xs : List ℕ) (i : ℕ) → i < length xs → IsIn (get_or xs i 0) xs
index-in [] i lt = omega arith
index-in (x ∷ xs) zero lt = inl refl
index-in (x ∷ xs) (suc i) lt = inr (index-in xs i (omega arith))

pub record Index (xs : List ℕ) (x : ℕ) : Type 0 where
  pub place : ℕ
  pub below : place < length xs
  pub is : get_or xs place 0 ≡ x

pub in-index : (xs : List ℕ) (x : ℕ) → IsIn x xs → Index xs x
in-index [] x l = elim l [ ]
in-index (y ∷ xs) x (inl e) = record { place = 0; below = omega arith; is = sym e }
in-index (y ∷ xs) x (inr l) = let rest = in-index xs x l in record { place = suc rest.place; below = omega (arith, rest.below); is = rest.is }

-- a place of a joined list is one of the first, or what stands there is in the second
pub place-cases : (xs ys : List ℕ) (i : ℕ) → i < length (xs ++ ys) → ((i < length xs) × (get_or (xs ++ ys) i 0 ≡ get_or xs i 0)) ⊎ IsIn (get_or (xs ++ ys) i 0) ys
place-cases [] ys i lt = inr (index-in ys i lt)
place-cases (x ∷ xs) ys zero lt = inl (omega arith, refl)
place-cases (x ∷ xs) ys (suc i) lt = elim (place-cases xs ys i (omega arith)) [ inl p ↦ inl (omega (arith, p.0), p.1) | inr l ↦ inr l ]

-- what holds where the objects before a place were looked at
pub record IsUnderWay (heap : Heap) (old : List ℕ) (from : ℕ) (list : List ℕ) (next : ℕ) : Type 0 where
  pub more : List ℕ
  pub is : list ≡ old ++ more
  pub only : (y : ℕ) → IsIn y more → Reached (Goes heap) (May heap) (GoesFrom heap old from) y
  pub fresh : (y : ℕ) → IsIn y more → IsIn y old → ⊥
  pub done : AreDone heap list from next
  pub low : from ≤ next
  pub high : next ≤ length list
  pub held : AreHeld heap list

pub begun : (heap : Heap) (from : ℕ) → from ≤ length heap.reached → IsHeap heap → IsUnderWay heap heap.reached from heap.reached from
begun heap from le h = let old = heap.reached in record {
  more = [];
  is = sym (append-nil old);
  only = λ y l. elim l [ ];
  fresh = λ y l m. l;
  done = λ place y low high g m. absurd (omega (arith, low, high));
  low = omega arith;
  high = le;
  held = λ x l. listed-held heap x h l;
}

grown-length : (old new : List ℕ) (P : ℕ → Type 0) → Grows old new P → length old ≤ length new
grown-length old new P g = let e = ap length g.is in let f = length-append old g.more in omega (arith, e, f)

grown-place : (old new : List ℕ) (P : ℕ → Type 0) (place : ℕ) → Grows old new P → place < length old → get_or new place 0 ≡ get_or old place 0
grown-place old new P place g lt = ap (λ l. get_or l place 0) g.is ∙ get_or_append_left old g.more 0 place lt

pub goes_on : (heap : Heap) (old : List ℕ) (from : ℕ) (list new : List ℕ) (next : ℕ) → IsHeap heap → IsUnderWay heap old from list next → next < length list
    → Grows list new (λ y. Goes heap (get_or list next 0) y × May heap y) → IsUnderWay heap old from new (next + 1)
goes_on heap old from list new next h u lt g =
    let x = get_or list next 0 in
    let x_in : IsIn x list = index-in list next lt in
    let step = reaches heap old from list next u lt in
    let P : ℕ → Type 0 = λ y. Goes heap x y × May heap y in
    record {
      more = u.more ++ g.more;
      is = g.is ∙ (ap (λ l. l ++ g.more) u.is ∙ append_assoc old u.more g.more);
      only = λ y l. elim (in-append y u.more g.more l) [ inl k ↦ u.only y k | inr k ↦ let p = g.only y k in step y p.0 p.1 ];
      fresh = λ y l m. elim (in-append y u.more g.more l) [
        | inl k ↦ u.fresh y k m
        | inr k ↦ g.fresh y k (subst (IsIn y) (sym u.is) (in-front y old u.more m))
      ];
      done = λ place y low high goes may. elim (before place next high) [
        | inl b ↦
            let same = grown-place list new P place g (omega (arith, b, u.high)) in
            grows-in list new P g y (u.done place y low b (subst (λ z. Goes heap z y) same goes) may)
        | inr e ↦
            let same = grown-place list new P place g (omega (arith, e, lt)) ∙ ap (λ n. get_or list n 0) e in
            g.has y (subst (λ z. Goes heap z y) same goes, may)
      ];
      low = omega (arith, u.low);
      high = let le = grown-length list new P g in omega (arith, le, lt);
      held = λ y l. elim (grows-cases list new P g y l) [ inl k ↦ u.held y k | inr p ↦ p.0.names.held ];
    }
  where
    before : (a b : ℕ) → a < b + 1 → (a < b) ⊎ (a ≡ b)
    before a b less = elim (cases_eq a b) [ inl e ↦ inr e | inr ne ↦ inl (omega arith) ]

    reaches : (heap : Heap) (old : List ℕ) (from : ℕ) (list : List ℕ) (next : ℕ) → IsUnderWay heap old from list next → next < length list
        → (y : ℕ) → Goes heap (get_or list next 0) y → May heap y → Reached (Goes heap) (May heap) (GoesFrom heap old from) y
    reaches heap old from list next u lt y goes may =
        let e = ap (λ l. get_or l next 0) u.is in
        let long = ap length u.is in
        elim (place-cases old u.more next (omega (arith, lt, long))) [
          | inl p ↦ at_start y (record { place = next; low = u.low; high = p.0; goes = subst (λ z. Goes heap z y) (e ∙ p.1) goes }) may
          | inr k ↦ by_step (get_or list next 0) y (u.only (get_or list next 0) (subst (λ z. IsIn z u.more) (sym e) k)) goes may
        ]

-- what a search lists

pub searched : (heap : Heap) (number : ℕ) (root : Option ℕ) (old first second new : List ℕ) → Grows old first (λ y. (root ≡ Some y) × May heap y)
    → Grows first second (λ y. StartsAt heap number heap.assigned (length heap.assigned) y × May heap y) → IsWalked heap second (length old) new
    → IsSearched heap number root old new
searched heap number root old first second new g h w =
    let P : ℕ → Type 0 = λ y. (root ≡ Some y) × May heap y in
    let Q : ℕ → Type 0 = λ y. StartsAt heap number heap.assigned (length heap.assigned) y × May heap y in
    let both = grows-then old first second P Q g h in
    let starts : (y : ℕ) → IsIn y both.more → Finds heap number root y =
    λ y l. elim (both.only y l) [ inl p ↦ at_start y (inl p.0) p.1 | inr q ↦ at_start y (inr q.0) q.1 ] in
    let long = length-append old both.more in
    let same = ap length both.is in
    let upto : (y : ℕ) → IsIn y second → IsIn y new = λ y l. subst (IsIn y) (sym w.is) (in-front y second w.more l) in
    let is_new : new ≡ old ++ (both.more ++ w.more) = w.is ∙ (ap (λ l. l ++ w.more) both.is ∙ append_assoc old both.more w.more) in
    let found : (y : ℕ) → Reached (Goes heap) (May heap) (GoesFrom heap second (length old)) y → Finds heap number root y = finds heap number root old both.more second both.is starts in
    let shut : IsClosed heap old → IsClosed heap new = closes heap old (both.more ++ w.more) new (length old) is_new refl w.done in
    record {
      more = both.more ++ w.more;
      is = is_new;
      only = λ y l. elim (in-append y both.more w.more l) [ inl k ↦ starts y k | inr k ↦ found y (w.only y k) ];
      fresh = λ y l m. elim (in-append y both.more w.more l) [ inl k ↦ both.fresh y k m | inr k ↦ w.fresh y k (subst (IsIn y) (sym both.is) (in-front y old both.more m)) ];
      all = λ closed y f. all_found heap number root new (λ z s a. upto z (both.has z (elim s [ inl e ↦ inl (e, a) | inr t ↦ inr (t, a) ]))) (shut closed) y f;
      closed = shut;
    }
  where
    finds : (heap : Heap) (number : ℕ) (root : Option ℕ) (old more second : List ℕ) → second ≡ old ++ more → ((y : ℕ) → IsIn y more → Finds heap number root y)
        → (y : ℕ) → Reached (Goes heap) (May heap) (GoesFrom heap second (length old)) y → Finds heap number root y
    finds heap number root old more second is starts y (at_start x b allowed) =
        let e = ap (λ l. get_or l b.place 0) is in
        let long = ap length is in
        elim (place-cases old more b.place (omega (arith, b.high, long))) [
          | inl p ↦ absurd (omega (arith, b.low, p.0))
          | inr k ↦ by_step (get_or second b.place 0) y (starts (get_or second b.place 0) (subst (λ z. IsIn z more) (sym e) k)) b.goes allowed
        ]
    finds heap number root old more second is starts y (by_step x z before goes allowed) =
        by_step x y (finds heap number root old more second is starts x before) goes allowed

    closes : (heap : Heap) (old more new : List ℕ) (from : ℕ) → new ≡ old ++ more → from ≡ length old → AreDone heap new from (length new) → IsClosed heap old → IsClosed heap new
    closes heap old more new from is e done closed x y l goes may =
        let i = in-index new x l in
        let there = ap (λ m. get_or m i.place 0) is in
        let long = ap length is in
        elim (cases_lt i.place from) [
          | inl lt ↦
              elim (place-cases old more i.place (omega (arith, i.below, long))) [
                | inl p ↦
                    let x_in : IsIn x old = subst (λ z. IsIn z old) (sym p.1 ∙ (sym there ∙ i.is)) (index-in old i.place p.0) in
                    subst (IsIn y) (sym is) (in-front y old more (closed x y x_in goes may))
                | inr k ↦
                    let x_in : IsIn x old = subst (λ z. IsIn z old) (sym (get_or_append_left old more 0 i.place (omega (arith, lt, e))) ∙ (sym there ∙ i.is)) (index-in old i.place (omega (arith, lt, e))) in
                    subst (IsIn y) (sym is) (in-front y old more (closed x y x_in goes may))
              ]
          | inr ge ↦ done i.place y ge i.below (subst (λ z. Goes heap z y) (sym i.is) goes) may
        ]

    all_found : (heap : Heap) (number : ℕ) (root : Option ℕ) (new : List ℕ) → ((y : ℕ) → Starts heap number root y → May heap y → IsIn y new) → IsClosed heap new → (y : ℕ) → Finds heap number root y → IsIn y new
    all_found heap number root new starts closed y (at_start x s allowed) = starts x s allowed
    all_found heap number root new starts closed y (by_step x z before goes allowed) = closed x y (all_found heap number root new starts closed x before) goes allowed

pub from-within : (old first second : List ℕ) (P Q : ℕ → Type 0) (from : ℕ) → from ≡ length old → Grows old first P → Grows first second Q → from ≤ length second
from-within old first second P Q from e g h =
    let a = grown-length old first P g in
    let b = grown-length first second Q h in
    omega (arith, e, a, b)

pub ended : (heap : Heap) (old : List ℕ) (from : ℕ) (list : List ℕ) (next : ℕ) → IsUnderWay heap old from list next → length list ≤ next → IsWalked heap old from list
ended heap old from list next u le = record {
  more = u.more;
  is = u.is;
  only = u.only;
  fresh = u.fresh;
  done = λ place y low high goes may. u.done place y low (omega (arith, high, le)) goes may;
}

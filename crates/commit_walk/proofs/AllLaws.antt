-- The walks of all databases, one after the other.
use Rattle.std.proofs.Common.{true, false, inl, inr, ◌⊎◌, ◌≡◌, ◌≢◌, ℕ, ◌+◌, ◌<◌, ◌≤◌, List, [], refl, sym, ap, ◌∙◌, subst, arith, Option, Some, None, if◌then◌else◌, nat_eq, IfSome}
use Rattle.std.proofs.lemmas.Bool.{true≢false, cases_eq, cases_Bool, eqb-true}
use Rattle.swizzle.specs.obj_layout.Kind.{kind_number}
use Rattle.swizzle.specs.obj_layout.declared.header.Header.{Header}
use Rattle.swizzle.specs.Heap.{Heap, IsHeld, header_at, num_at}
use Rattle.reaching.specs.Reaching.{IsIn, is_in, at_start, by_step}
use Rattle.reaching.proofs.Lists.{else_is, is_in-in, not_in, in-append, in-front}
use Rattle.commit_walk.specs.Walk.{May, is_walked, has_home, Finds}
use Rattle.commit_walk.specs.declared.homes.Source.{Source}
use Rattle.commit_walk.specs.Walk.{Steady}
use Rattle.commit_walk.specs.Homes.{IsHomedOne, source_at, FindsFrom, IsHomed, OwnsRoot, OwnsRoots}
use Rattle.commit_walk.proofs.SteadyLaws.{alike, alike-back, home-alike, finds-alike, closed-alike, HomesStay, homes-back, steady-none, steady-then}

pub found-may : (heap : Heap) (number : ℕ) (root : Option ℕ) (y : ℕ) → Finds heap number root y → May heap y
found-may heap number root y (at_start x s allowed) = allowed
found-may heap number root y (by_step x z before goes allowed) = allowed

-- a walk never comes to an object that is stored and has a home
pub may-not : (h : Header) → is_walked h ≡ true → 1 ≤ h.pid → has_home h ≡ true → ⊥
unfolding is_walked has_home
may-not h may le home =
    elim (cases_Bool (nat_eq h.pid 0)) [
      | inl none ↦ let e = eqb-true h.pid 0 none in omega (arith, e, le)
      | inr some ↦
          let node : nat_eq (kind_number h.kind) 8 ≡ true = sym (else_is (nat_eq h.pid 0) true (nat_eq (kind_number h.kind) 8) some) ∙ may in
          let is = eqb-true (kind_number h.kind) 8 node in
          let at : (n : ℕ) → n ≡ 8 → (if nat_eq n 2 then true else (if nat_eq n 3 then true else (if nat_eq n 4 then true else nat_eq n 7))) ≡ false =
          λ n e. subst (λ m. (if nat_eq m 2 then true else (if nat_eq m 3 then true else (if nat_eq m 4 then true else nat_eq m 7))) ≡ false) (sym e) refl in
          true≢false (sym home ∙ at (kind_number h.kind) is)
    ]

pub homed-none : (heap : Heap) (sources : List Source) (list : List ℕ) → list ≡ [] → IsHomed heap heap sources 0 list
homed-none heap sources list e =
    subst (IsHomed heap heap sources 0) (sym e) (record {
      same = steady-none heap;
      first = λ y l. elim l [ ];
      all = λ y f. absurd (omega (arith, f.below));
      closed = λ x y l goes may. elim l [ ];
      others = λ y away. refl;
      plain = λ y no. refl;
    })

pub listed-or : (y : ℕ) (list : List ℕ) → IsIn y list ⊎ (IsIn y list → ⊥)
listed-or y list = elim (cases_Bool (is_in y list)) [ inl e ↦ inl (is_in-in y list e) | inr e ↦ inr (not_in y list e) ]

pub homed-more : (old mid new : Heap) (sources : List Source) (count : ℕ) (before after : List ℕ) → IsHomed old mid sources count before
    → IsHomedOne mid new (source_at sources count).number (source_at sources count).root before after → IsHomed old new sources (count + 1) after
homed-more old mid new sources count before after h o =
    let s = source_at sources count in
    let there = alike old mid h.same in
    let back = alike-back old mid there in
    let stay : HomesStay old mid = λ x le home. h.others x (λ l. let f = h.first x l in
    may-not (header_at old x) (found-may old (source_at sources f.place).number (source_at sources f.place).root x f.finds) le home) in
    let stay_back = homes-back old mid there stay in
    let to_mid : (y : ℕ) → FindsFrom old sources count y → Finds mid s.number s.root y = λ y f. finds-alike old mid there h.same.assigned stay s.number s.root y f in
    let to_old : (y : ℕ) → Finds mid s.number s.root y → FindsFrom old sources count y = λ y f. finds-alike mid old back (sym h.same.assigned) stay_back s.number s.root y f in
    let shut = closed-alike old mid before there h.closed in
    let upto : (y : ℕ) → IsIn y before → IsIn y after = λ y l. subst (IsIn y) (sym o.searched.is) (in-front y before o.searched.more l) in
    record {
      same = steady-then old mid new h.same o.same;
      first = λ y l. elim (listed-or y before) [
        | inl b ↦
            let f = h.first y b in
            record { place = f.place; below = omega (arith, f.below); finds = f.finds; first = f.first; home = λ k. o.kept y b ∙ f.home k }
        | inr away ↦
            let m : IsIn y o.searched.more = elim (in-append y before o.searched.more (subst (IsIn y) o.searched.is l)) [ inl b ↦ absurd (away b) | inr m ↦ m ] in
            record {
              place = count;
              below = omega arith;
              finds = to_old y (o.searched.only y m);
              first = λ p lt f. away (h.all y (record { place = p; below = lt; finds = f }));
              home = λ k. o.given y l away (home-alike old mid there y ∙ k);
            }
      ];
      all = λ y f. elim (last f.place count f.below) [
        | inl lt ↦ upto y (h.all y (record { place = f.place; below = lt; finds = f.finds }))
        | inr e ↦ o.searched.all shut y (to_mid y (subst (λ p. FindsFrom old sources p y) e f.finds))
      ];
      closed = closed-alike mid old after back (o.searched.closed shut);
      others = λ y away. o.others y away ∙ h.others y (λ l. away (upto y l));
      plain = λ y no. o.plain y (home-alike old mid there y ∙ no) ∙ h.plain y no;
    }
  where
    last : (a b : ℕ) → a < b + 1 → (a < b) ⊎ (a ≡ b)
    last a b lt = elim (cases_eq a b) [ inl e ↦ inr e | inr ne ↦ inl (omega arith) ]

-- a root lies in the area, whatever homes were given
pub root-still : (old new : Heap) (root : Option ℕ) → Steady old new → IfSome root (IsHeld old) → IfSome root (IsHeld new)
root-still old new None o met = tt
root-still old new (Some at) o met = o.held at met

-- Roots with their own homes.

pub owns-none : (heap : Heap) (sources : List Source) → OwnsRoots heap heap sources 0
owns-none heap sources = record { same = steady-none heap; reached = refl; given = λ place at lt e k once. absurd (omega (arith, lt)); others = λ y away. refl; plain = λ y no. refl }

pub owns-more : (old mid new : Heap) (sources : List Source) (count : ℕ) → OwnsRoots old mid sources count → OwnsRoot mid new (source_at sources count).root (source_at sources count).number → OwnsRoots old new sources (count + 1)
owns-more old mid new sources count o one = go (source_at sources count).root refl one
  where
    last : (a b : ℕ) → a < b + 1 → (a < b) ⊎ (a ≡ b)
    last a b lt = elim (cases_eq a b) [ inl e ↦ inr e | inr ne ↦ inl (omega arith) ]

    some_root : (a b : ℕ) → Some a ≡ Some b → a ≡ b
    some_root a b e = cc

    go : (root : Option ℕ) → (source_at sources count).root ≡ root → OwnsRoot mid new root (source_at sources count).number → OwnsRoots old new sources (count + 1)
    go None e is = record {
      same = subst (Steady old) (sym is) o.same;
      reached = ap (λ h. h.reached) is ∙ o.reached;
      given = λ place at lt r k once. elim (last place count lt) [
        | inl b ↦ ap (λ h. num_at h at 0) is ∙ o.given place at b r k (λ p q s. once p (omega (arith, q)) s)
        | inr same ↦ let bad : None ≡ Some at = sym e ∙ (ap (λ p. (source_at sources p).root) (sym same) ∙ r) in absurd (cc)
      ];
      others = λ y away. ap (λ h. num_at h y 0) is ∙ o.others y (λ p lt. away p (omega (arith, lt)));
      plain = λ y no. ap (λ h. num_at h y 0) is ∙ o.plain y no;
    }
    go (Some x) e is = record {
      same = steady-then old mid new o.same is.same;
      reached = is.reached ∙ o.reached;
      given = λ place at lt r k once. elim (last place count lt) [
        | inl b ↦
            let ne : at ≢ x = λ q. let late = once count (omega arith) (e ∙ ap Some (sym q)) in omega (arith, late, b) in
            is.others at ne ∙ o.given place at b r k (λ p q s. once p (omega (arith, q)) s)
        | inr same ↦
            let here : at ≡ x = some_root at x (sym r ∙ (ap (λ p. (source_at sources p).root) same ∙ e)) in
            ap (λ z. num_at new z 0) here ∙ (is.given (home-alike old mid (alike old mid o.same) x ∙ (ap (λ z. has_home (header_at old z)) (sym here) ∙ k)) ∙ ap (λ p. (source_at sources p).number) (sym same))
      ];
      others = λ y away. is.others y (λ q. away count (omega arith) (e ∙ ap Some (sym q))) ∙ o.others y (λ p lt. away p (omega (arith, lt)));
      plain = λ y no. elim (cases_eq y x) [
        | inl q ↦
            ap (λ z. num_at new z 0) q
            ∙ (is.plain (home-alike old mid (alike old mid o.same) x ∙ (ap (λ z. has_home (header_at old z)) (sym q) ∙ no)) ∙ (ap (λ z. num_at mid z 0) (sym q) ∙ o.plain y no))
        | inr ne ↦ is.others y ne ∙ o.plain y no
      ];
    }

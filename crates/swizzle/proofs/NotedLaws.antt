-- The list of the objects that have a flag, as objects come, get it and lose it.
use Rattle.std.proofs.Common.{Bool, true, false, inl, inr, ◌⊎◌, ◌≡◌, ◌≢◌, ℕ, ◌+◌, ◌-◌, ◌/◌, ◌%◌, ◌<◌, ◌≤◌, ◌==◌, List, [], ◌∷◌, ◌++◌, length, map, refl, sym, ap, ◌∙◌, subst, arith, length-append, Some, if◌then◌else◌}
use Rattle.std.proofs.lemmas.Bool.{cases_eq, eq-eqb, ne_eqb, eqb-true, eqb-false}
use Rattle.swizzle.specs.Objects.{Object, size_of, find_from, replace_from}
use Rattle.swizzle.specs.Heap.{Heap, IsListed, AreOnce, IsMarked, AreNoted, is_assigned, is_reached, marked_one, marked_in, sum_of, flagged, unflagged, reach_flagged, reach_unflagged}
use Rattle.swizzle.proofs.ObjectLaws.{here, elsewhere}
use Rattle.swizzle.proofs.HeapLaws.{first_is, behind_is, find-replaced, find-replaced_other, find-append, find-append_cases}

-- Flags.

true-false : (b : Bool) → b ≡ true → b ≡ false → ⊥
true-false b t f = let both : true ≡ false = sym t ∙ f in cc

abbrev pub one_if : Bool → ℕ
one_if b = if b then 1 else 0

one_by : (b : Bool) → b ≡ true → one_if b ≡ 1
one_by b e = ap one_if e

none_by : (b : Bool) → b ≡ false → one_if b ≡ 0
none_by b e = ap one_if e

pub bit-le : (b : Bool) → one_if b ≤ 1
bit-le true = omega arith
bit-le false = omega arith

bit-none : (b : Bool) → one_if b ≡ 0 → b ≡ false
bit-none true e = absurd (omega arith)
bit-none false e = refl

pub flag_is : (o : Object) → o.header.flags % 2 ≡ 1 → is_assigned o ≡ true
flag_is o e = eq-eqb (o.header.flags % 2) 1 e

pub flag_is_not : (o : Object) → o.header.flags % 2 ≢ 1 → is_assigned o ≡ false
flag_is_not o ne = ne_eqb (o.header.flags % 2) 1 ne

pub is_flag : (o : Object) → is_assigned o ≡ true → o.header.flags % 2 ≡ 1
is_flag o e = eqb-true (o.header.flags % 2) 1 e

is_no_flag : (o : Object) → is_assigned o ≡ false → o.header.flags % 2 ≢ 1
is_no_flag o e = eqb-false (o.header.flags % 2) 1 e

pub flagged-is : (o : Object) → is_assigned o ≡ false → is_assigned (flagged o) ≡ true
flagged-is o e = let ne = is_no_flag o e in flag_is (flagged o) (omega arith)

pub unflagged-is : (o : Object) → is_assigned o ≡ true → is_assigned (unflagged o) ≡ false
unflagged-is o e = let odd = is_flag o e in flag_is_not (unflagged o) (λ q. omega arith)

-- The walk's flag, and that one leaves the other as it is.

pub reach_is : (o : Object) → o.header.flags / 2 % 2 ≡ 1 → is_reached o ≡ true
reach_is o e = eq-eqb (o.header.flags / 2 % 2) 1 e

pub reach_is_not : (o : Object) → o.header.flags / 2 % 2 ≢ 1 → is_reached o ≡ false
reach_is_not o ne = ne_eqb (o.header.flags / 2 % 2) 1 ne

pub is_reach : (o : Object) → is_reached o ≡ true → o.header.flags / 2 % 2 ≡ 1
is_reach o e = eqb-true (o.header.flags / 2 % 2) 1 e

is_no_reach : (o : Object) → is_reached o ≡ false → o.header.flags / 2 % 2 ≢ 1
is_no_reach o e = eqb-false (o.header.flags / 2 % 2) 1 e

pub reach_flagged-is : (o : Object) → is_reached o ≡ false → is_reached (reach_flagged o) ≡ true
reach_flagged-is o e = let ne = is_no_reach o e in reach_is (reach_flagged o) (omega arith)

pub reach_unflagged-is : (o : Object) → is_reached o ≡ true → is_reached (reach_unflagged o) ≡ false
reach_unflagged-is o e = let odd = is_reach o e in reach_is_not (reach_unflagged o) (λ q. omega arith)

halved : (a b : ℕ) → a / 2 % 2 ≡ b / 2 % 2 → (a / 2 % 2 == 1) ≡ (b / 2 % 2 == 1)
halved a b e = ap (λ (n : ℕ). n == 1) e

odd_as : (a b : ℕ) → a % 2 ≡ b % 2 → (a % 2 == 1) ≡ (b % 2 == 1)
odd_as a b e = ap (λ (n : ℕ). n == 1) e

pub flagged-reached : (o : Object) → is_assigned o ≡ false → is_reached (flagged o) ≡ is_reached o
flagged-reached o e = let ne = is_no_flag o e in halved (o.header.flags + 1) o.header.flags (omega arith)

pub unflagged-reached : (o : Object) → is_assigned o ≡ true → is_reached (unflagged o) ≡ is_reached o
unflagged-reached o e = let odd = is_flag o e in halved (o.header.flags - 1) o.header.flags (omega arith)

pub reach_flagged-assigned : (o : Object) → is_assigned (reach_flagged o) ≡ is_assigned o
reach_flagged-assigned o = odd_as (o.header.flags + 2) o.header.flags (omega arith)

pub reach_unflagged-assigned : (o : Object) → is_reached o ≡ true → is_assigned (reach_unflagged o) ≡ is_assigned o
reach_unflagged-assigned o e = let odd = is_reach o e in odd_as (o.header.flags - 2) o.header.flags (omega arith)

-- Counts.

pub sum-replaced : (f : Object → ℕ) (at : ℕ) (os : List Object) (i : ℕ) (o new : Object) → find_from at os i ≡ Some o → f o + sum_of f (replace_from at os i new) ≡ f new + sum_of f os
sum-replaced f at [] i o new e = absurd (cc)
sum-replaced f at (p ∷ os) i o new e =
    elim (cases_eq i at) [
      | inl same ↦
          let is = ap f (first_is at p os i o e same) in
          let step = ap (sum_of f) (here i at (new ∷ os) (p ∷ replace_from (at + size_of p) os i new) same) in
          omega (arith, is, step)
      | inr apart ↦
          let step = ap (sum_of f) (elsewhere i at (new ∷ os) (p ∷ replace_from (at + size_of p) os i new) apart) in
          omega (arith, step, sum-replaced f (at + size_of p) os i o new (behind_is at p os i o e apart))
    ]

pub sum-append : (f : Object → ℕ) (os : List Object) (new : Object) → sum_of f (os ++ new ∷ []) ≡ sum_of f os + f new
sum-append f [] new = omega arith
sum-append f (o ∷ os) new = omega (arith, sum-append f os new)

marked-le : (has : Object → Bool) (os : List Object) → marked_in has os ≤ length os
marked-le has [] = omega arith
marked-le has (o ∷ os) = omega (arith, bit-le (has o), marked-le has os)

-- fewer objects are marked than there are, where one isn't
pub marked-lt : (has : Object → Bool) (at : ℕ) (os : List Object) (i : ℕ) (o : Object) → find_from at os i ≡ Some o → has o ≡ false → marked_in has os < length os
marked-lt has at [] i o e none = absurd (cc)
marked-lt has at (p ∷ os) i o e none =
    elim (cases_eq i at) [
      | inl same ↦ let is = none_by (has p) (ap has (first_is at p os i o e same) ∙ none) in omega (arith, is, marked-le has os)
      | inr apart ↦ omega (arith, bit-le (has p), marked-lt has (at + size_of p) os i o (behind_is at p os i o e apart) none)
    ]

-- Lists.

listed-front : (j : ℕ) (is : List ℕ) (i : ℕ) → IsListed j is → IsListed j (is ++ i ∷ [])
listed-front j [] i none = elim none [ ]
listed-front j (k ∷ is) i (inl e) = inl e
listed-front j (k ∷ is) i (inr l) = inr (listed-front j is i l)

listed-last : (j : ℕ) (is : List ℕ) (i : ℕ) → j ≡ i → IsListed j (is ++ i ∷ [])
listed-last j [] i e = inl e
listed-last j (k ∷ is) i e = inr (listed-last j is i e)

listed-cases : (j : ℕ) (is : List ℕ) (i : ℕ) → IsListed j (is ++ i ∷ []) → IsListed j is ⊎ (j ≡ i)
listed-cases j [] i (inl e) = inr e
listed-cases j [] i (inr none) = elim none [ ]
listed-cases j (k ∷ is) i (inl e) = inl (inl e)
listed-cases j (k ∷ is) i (inr l) = elim (listed-cases j is i l) [ inl a ↦ inl (inr a) | inr e ↦ inr e ]

once-more : (is : List ℕ) (i : ℕ) → AreOnce is → (IsListed i is → ⊥) → AreOnce (is ++ i ∷ [])
once-more [] i o apart = ((λ l. l), tt)
once-more (k ∷ is) i o apart =
    ((λ l. elim (listed-cases k is i l) [ inl a ↦ o.0 a | inr e ↦ apart (inl (sym e)) ]), once-more is i o.1 (λ l. apart (inr l)))

once-front : (is : List ℕ) (i : ℕ) → AreOnce (is ++ i ∷ []) → AreOnce is × (IsListed i is → ⊥)
once-front [] i o = (tt, λ l. l)
once-front (k ∷ is) i o =
    let rest = once-front is i o.1 in
    (((λ l. o.0 (listed-front k is i l)), rest.0), λ l. elim l [ inl e ↦ o.0 (listed-last k is i (sym e)) | inr m ↦ rest.1 m ])

-- Marked objects.

same_object : (os : List Object) (at : ℕ) (o p : Object) → find_from 1 os at ≡ Some o → find_from 1 os at ≡ Some p → o ≡ p
same_object os at o p e f = let both : Some o ≡ Some p = sym e ∙ f in cc

found_at : (os : List Object) (i j : ℕ) (o : Object) → i ≡ j → find_from 1 os i ≡ Some o → find_from 1 os j ≡ Some o
found_at os i j o e is = ap (find_from 1 os) (sym e) ∙ is

marked-other : (has : Object → Bool) (os : List Object) (at j : ℕ) (o new : Object) → find_from 1 os at ≡ Some o → size_of new ≡ size_of o → j ≢ at → IsMarked has os j → IsMarked has (replace_from 1 os at new) j
marked-other has os at j o new e long ne m = record { object = m.object; is = find-replaced_other 1 os at j o new e long ne ∙ m.is; flag = m.flag }

other-marked : (has : Object → Bool) (os : List Object) (at j : ℕ) (o new : Object) → find_from 1 os at ≡ Some o → size_of new ≡ size_of o → j ≢ at → IsMarked has (replace_from 1 os at new) j → IsMarked has os j
other-marked has os at j o new e long ne m = record { object = m.object; is = sym (find-replaced_other 1 os at j o new e long ne) ∙ m.is; flag = m.flag }

marked-here : (has : Object → Bool) (os : List Object) (at j : ℕ) (o new : Object) → find_from 1 os at ≡ Some o → j ≡ at → has new ≡ true → IsMarked has (replace_from 1 os at new) j
marked-here has os at j o new e there flag = record { object = new; is = found_at (replace_from 1 os at new) at j new (sym there) (find-replaced 1 os at o new e); flag = flag }

here-marked : (has : Object → Bool) (os : List Object) (at j : ℕ) (o new : Object) → find_from 1 os at ≡ Some o → j ≡ at → IsMarked has (replace_from 1 os at new) j → has new ≡ true
here-marked has os at j o new e there m =
    ap has (same_object (replace_from 1 os at new) at new m.object (find-replaced 1 os at o new e) (found_at (replace_from 1 os at new) j at m.object there m.is)) ∙ m.flag

was-marked : (has : Object → Bool) (os : List Object) (at j : ℕ) (o : Object) → find_from 1 os at ≡ Some o → j ≡ at → IsMarked has os j → has o ≡ true
was-marked has os at j o e there m = ap has (same_object os at o m.object e (found_at os j at m.object there m.is)) ∙ m.flag

-- one object in the place of another with its flag
pub noted-replaced : (has : Object → Bool) (os : List Object) (notes : List ℕ) (at : ℕ) (o new : Object) → AreNoted has os notes → find_from 1 os at ≡ Some o → size_of new ≡ size_of o → has new ≡ has o → AreNoted has (replace_from 1 os at new) notes
noted-replaced has os notes at o new n e long same =
    let count = sum-replaced (marked_one has) 1 os at o new e in
    let ones : marked_one has new ≡ marked_one has o = ap one_if same in
    record {
      counted = omega (arith, n.counted, count, ones);
      once = n.once;
      marked = λ j l.
          let m = n.marked j l in
          elim (cases_eq j at) [
            | inl there ↦ marked-here has os at j o new e there (same ∙ was-marked has os at j o e there m)
            | inr ne ↦ marked-other has os at j o new e long ne m
          ];
      listed = λ j m.
          elim (cases_eq j at) [
            | inl there ↦ n.listed j (record { object = o; is = found_at os at j o (sym there) e; flag = sym same ∙ here-marked has os at j o new e there m })
            | inr ne ↦ n.listed j (other-marked has os at j o new e long ne m)
          ];
    }

-- an object gets the flag, and reaches the end of the list
pub noted-set : (has : Object → Bool) (os : List Object) (notes : List ℕ) (at : ℕ) (o new : Object) → AreNoted has os notes → find_from 1 os at ≡ Some o → size_of new ≡ size_of o
    → has o ≡ false → has new ≡ true → AreNoted has (replace_from 1 os at new) (notes ++ at ∷ [])
noted-set has os notes at o new n e long plain is =
    let count = sum-replaced (marked_one has) 1 os at o new e in
    let none = none_by (has o) plain in
    let one = one_by (has new) is in
    let apart : IsListed at notes → ⊥ = λ l. true-false (has o) (was-marked has os at at o e refl (n.marked at l)) plain in
    record {
      counted = omega (arith, n.counted, count, none, one, length-append notes (at ∷ []));
      once = once-more notes at n.once apart;
      marked = λ j l.
          elim (cases_eq j at) [
            | inl there ↦ marked-here has os at j o new e there is
            | inr ne ↦ elim (listed-cases j notes at l) [ inl m ↦ marked-other has os at j o new e long ne (n.marked j m) | inr there ↦ absurd (ne there) ]
          ];
      listed = λ j m.
          elim (cases_eq j at) [
            | inl there ↦ listed-last j notes at there
            | inr ne ↦ listed-front j notes at (n.listed j (other-marked has os at j o new e long ne m))
          ];
    }

-- the last object of the list loses it
pub noted-cleared : (has : Object → Bool) (os : List Object) (notes : List ℕ) (at : ℕ) (o new : Object) → AreNoted has os (notes ++ at ∷ []) → find_from 1 os at ≡ Some o → size_of new ≡ size_of o
    → has o ≡ true → has new ≡ false → AreNoted has (replace_from 1 os at new) notes
noted-cleared has os notes at o new n e long set_one is_not =
    let count = sum-replaced (marked_one has) 1 os at o new e in
    let one = one_by (has o) set_one in
    let none = none_by (has new) is_not in
    let once = once-front notes at n.once in
    record {
      counted = omega (arith, n.counted, count, none, one, length-append notes (at ∷ []));
      once = once.0;
      marked = λ j l.
          marked-other has os at j o new e long (λ there. once.1 (subst (λ (i : ℕ). IsListed i notes) there l)) (n.marked j (listed-front j notes at l));
      listed = λ j m.
          elim (cases_eq j at) [
            | inl there ↦ absurd (true-false (has new) (here-marked has os at j o new e there m) is_not)
            | inr ne ↦ elim (listed-cases j notes at (n.listed j (other-marked has os at j o new e long ne m))) [ inl l ↦ l | inr there ↦ absurd (ne there) ]
          ];
    }

-- an object comes that isn't marked
pub noted-new : (has : Object → Bool) (os : List Object) (notes : List ℕ) (new : Object) → AreNoted has os notes → has new ≡ false → AreNoted has (os ++ new ∷ []) notes
noted-new has os notes new n plain =
    let none = none_by (has new) plain in
    record {
      counted = omega (arith, n.counted, sum-append (marked_one has) os new, none);
      once = n.once;
      marked = λ j l. let m = n.marked j l in record { object = m.object; is = find-append 1 os new j m.object m.is; flag = m.flag };
      listed = λ j m.
          elim (find-append_cases 1 os new j m.object m.is) [
            | inl was ↦ n.listed j (record { object = m.object; is = was; flag = m.flag })
            | inr it ↦ absurd (true-false (has new) (ap has (sym it.1) ∙ m.flag) plain)
          ];
    }

pub noted-none : (has : Object → Bool) → AreNoted has [] []
noted-none has = record { counted = refl; once = tt; marked = λ j l. elim l [ ]; listed = λ j m. let bad = m.is in absurd (cc) }

-- the last of the list is marked
pub noted-last : (has : Object → Bool) (os : List Object) (notes : List ℕ) (at : ℕ) → AreNoted has os (notes ++ at ∷ []) → IsMarked has os at
noted-last has os notes at n = n.marked at (listed-last at notes at refl)

-- Objects without a flag that some have: `clear` takes it from one that has it.

module _ (has : Object → Bool) (clear : Object → Object) (gone : (o : Object) → has o ≡ true → has (clear o) ≡ false) where
  abbrev without : Object → Object
  without o = if has o then clear o else o

  plain-stays : (o : Object) → has o ≡ false → without o ≡ o
  plain-stays o e = ap (λ (b : Bool). if b then clear o else o) e

  cleared-stays : (o : Object) → has o ≡ true → without (clear o) ≡ without o
  cleared-stays o e = plain-stays (clear o) (gone o e) ∙ sym (ap (λ (b : Bool). if b then clear o else o) e)

  pub without-none : (os : List Object) → marked_in has os ≡ 0 → map without os ≡ os
  without-none [] e = refl
  without-none (o ∷ os) e =
      let one = plain-stays o (bit-none (has o) (omega (arith, bit-le (has o)))) in
      let more = without-none os (omega arith) in
      cc

  pub without-replaced : (at : ℕ) (os : List Object) (i : ℕ) (o : Object) → find_from at os i ≡ Some o → has o ≡ true → map without (replace_from at os i (clear o)) ≡ map without os
  without-replaced at [] i o e flag = refl
  without-replaced at (p ∷ os) i o e flag =
      elim (cases_eq i at) [
        | inl same ↦
            let is = first_is at p os i o e same in
            ap (map without) (here i at (clear o ∷ os) (p ∷ replace_from (at + size_of p) os i (clear o)) same)
            ∙ ap (λ (x : Object). x ∷ map without os) (cleared-stays o flag ∙ ap without (sym is))
        | inr apart ↦
            ap (map without) (elsewhere i at (clear o ∷ os) (p ∷ replace_from (at + size_of p) os i (clear o)) apart)
            ∙ ap (λ (r : List Object). without p ∷ r) (without-replaced (at + size_of p) os i o (behind_is at p os i o e apart) flag)
      ]

-- Both lists, where one object stands in the place of another with its flags.
pub both-replaced : (heap : Heap) (at : ℕ) (o new : Object) → AreNoted is_assigned heap.objects heap.assigned → AreNoted is_reached heap.objects heap.reached → find_from 1 heap.objects at ≡ Some o
    → size_of new ≡ size_of o → new.header.flags ≡ o.header.flags → AreNoted is_assigned (replace_from 1 heap.objects at new) heap.assigned × AreNoted is_reached (replace_from 1 heap.objects at new) heap.reached
both-replaced heap at o new n w e long same = (
  noted-replaced is_assigned heap.objects heap.assigned at o new n e long (odd_as new.header.flags o.header.flags (ap (λ (f : ℕ). f % 2) same)),
  noted-replaced is_reached heap.objects heap.reached at o new w e long (halved new.header.flags o.header.flags (ap (λ (f : ℕ). f / 2 % 2) same)),
)

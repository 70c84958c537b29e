-- Numbers that name pages, one after the other.
use Rattle.std.proofs.Common.{◌≡◌, ◌⊎◌, inl, inr, ℕ, zero, suc, ◌+◌, ◌<◌, ◌≤◌, Bool, true, false, not, ◌&&◌, ◌||◌, List, [], ◌∷◌, ◌++◌, length, get_or, set, map, refl, sym, ◌∙◌, ap, subst, arith, Option, Some, None, if◌then◌else◌}
use Rattle.std.specs.Prelude.{◌==◌}
use Rattle.std.specs.Option.{option_or}
use Rattle.std.proofs.lemmas.Bool.{cases_lt, lt-leb, both_ways}
use Rattle.std.proofs.lemmas.List.{append_assoc, append-nil, length-set}
use Rattle.std.proofs.lemmas.List.FromFn.{length-map-range_with_len, get_or-map-range_with_len, map-range_with_len_more, fill_by_all}
use Rattle.std.proofs.lemmas.List.Folds.{list_any-append}
use Rattle.page_map.specs.Pages.{is_free, free_where, may_be_free, names, without}
use Rattle.page_map.proofs.PageLaws.{is_free_where, length_where, is_free_taken, where_from, same_where, neither, and_true, within}
use Rattle.page_map.proofs.MapLaws.{where_where}
use Rattle.paged_volume.specs.Found.{numbers_of, unnamed, bound_of, wants_unnamed, first_damage, name_tests, damage}
use Rattle.paged_volume.specs.Standing.{AreUnnamed}
use Rattle.paged_volume.specs.declared.damage.Damage.{Damage}

pub numbers_none : (number : ℕ → ℕ) → numbers_of number 0 ≡ []
unfolding numbers_of
numbers_none number = refl

pub numbers_more : (number : ℕ → ℕ) (count : ℕ) → numbers_of number (count + 1) ≡ numbers_of number count ++ number count ∷ []
unfolding numbers_of
numbers_more number count = map-range_with_len_more number 0 count count (omega arith)

pub length_numbers : (number : ℕ → ℕ) (count : ℕ) → length (numbers_of number count) ≡ count
unfolding numbers_of
length_numbers number count = length-map-range_with_len number 0 count

pub number_at_index : (number : ℕ → ℕ) (count i : ℕ) → i < count → get_or (numbers_of number count) i 0 ≡ number i
unfolding numbers_of
number_at_index number count i lt = get_or-map-range_with_len number 0 count i i 0 lt (omega arith)

pub numbers_same : (one other : ℕ → ℕ) (count : ℕ) → ((i : ℕ) → i < count → one i ≡ other i) → numbers_of one count ≡ numbers_of other count
unfolding numbers_of
numbers_same one other count same =
    fill_by_all other (map one _) count 0 (length-map-range_with_len one 0 count) (λ k lt. get_or-map-range_with_len one 0 count k k 0 lt (omega arith) ∙ same k lt)

pub numbers_split : (number : ℕ → ℕ) (front count : ℕ) → numbers_of number (front + count) ≡ numbers_of number front ++ numbers_of (λ i. number (front + i)) count
numbers_split number front zero = ap (λ (n : ℕ). numbers_of number n) (omega arith) ∙ sym (append-nil (numbers_of number front)) ∙ ap (λ (xs : List ℕ). numbers_of number front ++ xs) (sym (numbers_none (λ i. number (front + i))))
numbers_split number front (suc count) =
    ap (λ (n : ℕ). numbers_of number n) (omega arith)
    ∙ numbers_more number (front + count)
    ∙ ap (λ (xs : List ℕ). xs ++ number (front + count) ∷ []) (numbers_split number front count)
    ∙ append_assoc (numbers_of number front) (numbers_of (λ i. number (front + i)) count) (number (front + count) ∷ [])
    ∙ ap (λ (xs : List ℕ). numbers_of number front ++ xs) (sym (numbers_more (λ i. number (front + i)) count) ∙ ap (λ (n : ℕ). numbers_of (λ i. number (front + i)) n) (omega arith))

or_none_right : (b : Bool) → (b || false) ≡ b
or_none_right true = refl
or_none_right false = refl

pub names_append : (xs ys : List ℕ) (page : ℕ) → names (xs ++ ys) page ≡ (names xs page || names ys page)
unfolding names
names_append xs ys page = list_any-append (λ number. number == page) xs ys

pub names_one : (number page : ℕ) → names (number ∷ []) page ≡ (number == page)
unfolding names
names_one number page = or_none_right (number == page)

pub is_unnamed : (pages : ℕ) (numbers : List ℕ) (page : ℕ) → page < pages → is_free (unnamed pages numbers) page ≡ (may_be_free page && not (names numbers page))
unfolding unnamed
is_unnamed pages numbers page below = is_free_where pages (λ page. may_be_free page && not (names numbers page)) page below

pub length_unnamed : (pages : ℕ) (numbers : List ℕ) → length (unnamed pages numbers) ≡ pages
unfolding unnamed
length_unnamed pages numbers = length_where pages (λ page. may_be_free page && not (names numbers page))

pub unnamed_none : (pages : ℕ) → free_where pages may_be_free ≡ unnamed pages []
unfolding unnamed names
unnamed_none pages = same_where pages may_be_free (λ page. may_be_free page && not (names [] page)) (λ page below. sym (and_true (may_be_free page)))

-- one more page is taken
pub unnamed_taken : (pages : ℕ) (numbers : List ℕ) (number : ℕ) → set (unnamed pages numbers) number false ≡ unnamed pages (numbers ++ number ∷ [])
unfolding unnamed
unnamed_taken pages numbers number =
    where_from (set (unnamed pages numbers) number false) pages (λ page. may_be_free page && not (names (numbers ++ number ∷ []) page))
    (length-set (unnamed pages numbers) number false ∙ length_unnamed pages numbers)
    (λ page below.
    is_free_taken (unnamed pages numbers) number page
    ∙ ap (λ (b : Bool). b && not (number == page)) (is_unnamed pages numbers page below)
    ∙ neither (may_be_free page) (names numbers page) (number == page)
    ∙ ap (λ (b : Bool). may_be_free page && not b) (ap (λ (b : Bool). names numbers page || b) (sym (names_one number page)) ∙ sym (names_append numbers (number ∷ []) page)))

-- and more of them
pub unnamed_without : (pages : ℕ) (numbers more : List ℕ) → without (unnamed pages numbers) more ≡ unnamed pages (numbers ++ more)
unfolding unnamed
unnamed_without pages numbers more =
    where_where pages (λ page. may_be_free page && not (names numbers page)) (λ page. not (names more page))
    ∙ same_where pages (λ page. (may_be_free page && not (names numbers page)) && not (names more page)) (λ page. may_be_free page && not (names (numbers ++ more) page))
    (λ page below. neither (may_be_free page) (names numbers page) (names more page) ∙ ap (λ (b : Bool). may_be_free page && not b) (sym (names_append numbers more page)))

pub some_or : {A : Type 0} (a b : Option A) (x : A) → a ≡ Some x → option_or a b ≡ Some x
some_or {A = A} a b x e = ap (λ (o : Option A). option_or o b) e

pub none_then : {A : Type 0} (a b c : Option A) → a ≡ None → b ≡ c → option_or a b ≡ c
none_then {A = A} a b c e f = ap (λ (o : Option A). option_or o b) e ∙ f

pub or_none : {A : Type 0} (a b : Option A) → a ≡ None → b ≡ None → option_or a b ≡ None
or_none {A = A} a b e f = ap (λ (o : Option A). option_or o b) e ∙ f

pub first_none : (test : ℕ → Option Damage) (count : ℕ) → ((i : ℕ) → i < count → test i ≡ None) → first_damage test count ≡ None
unfolding first_damage
first_none test zero all = refl
first_none test (suc count) all = or_none (first_damage test count) (test count) (first_none test count (λ i lt. all i (omega arith))) (all count (omega arith))

pub first_some : (test : ℕ → Option Damage) (place count : ℕ) (found : Damage) → place < count → ((i : ℕ) → i < place → test i ≡ None) → test place ≡ Some found → first_damage test count ≡ Some found
unfolding first_damage
first_some test place zero found lt before is = absurd (omega arith)
first_some test place (suc count) found lt before is = elim (cases_lt place count) [
  | inl earlier ↦ some_or (first_damage test count) (test count) found (first_some test place count found earlier before is)
  | inr late ↦
      let same : place ≡ count = omega arith in
      none_then (first_damage test count) (test count) (Some found) (first_none test count (λ i below. before i (omega arith))) (ap (λ (n : ℕ). test n) (sym same) ∙ is)
]

pub first_same : (one other : ℕ → Option Damage) (count : ℕ) → ((i : ℕ) → i < count → one i ≡ other i) → first_damage one count ≡ first_damage other count
unfolding first_damage
first_same one other zero same = refl
first_same one other (suc count) same =
    let before = first_same one other count (λ i lt. same i (omega arith)) in
    let here = same count (omega arith) in
    (λ i. option_or (before i) (here i))

wants_good : (pages : ℕ) (before : List ℕ) (at number : ℕ) → is_free (unnamed pages before) number ≡ true → wants_unnamed pages before at number ≡ None
unfolding wants_unnamed
wants_good pages before at number is = ap (λ (b : Bool). if b then None else Some (damage at number (bound_of pages number))) is

wants_bad : (pages : ℕ) (before : List ℕ) (at number : ℕ) → is_free (unnamed pages before) number ≡ false → wants_unnamed pages before at number ≡ Some (damage at number (bound_of pages number))
unfolding wants_unnamed
wants_bad pages before at number is = ap (λ (b : Bool). if b then None else Some (damage at number (bound_of pages number))) is

pub tests_none : (pages : ℕ) (before : List ℕ) (place number : ℕ → ℕ) (count : ℕ) → AreUnnamed pages before number count → name_tests pages before place number count ≡ None
unfolding name_tests
tests_none pages before place number count are = first_none _ count (λ i lt. wants_good pages (before ++ numbers_of number i) (place i) (number i) (are i lt))

pub tests_some : (pages : ℕ) (before : List ℕ) (place number : ℕ → ℕ) (index count : ℕ) → index < count → AreUnnamed pages before number index →
    is_free (unnamed pages (before ++ numbers_of number index)) (number index) ≡ false →
    name_tests pages before place number count ≡ Some (damage (place index) (number index) (bound_of pages (number index)))
unfolding name_tests
tests_some pages before place number index count lt are bad =
    first_some _ index count _ lt (λ i earlier. wants_good pages (before ++ numbers_of number i) (place i) (number i) (are i earlier))
    (wants_bad pages (before ++ numbers_of number index) (place index) (number index) bad)

pub tests_same : (pages : ℕ) (before : List ℕ) (place other_place number other : ℕ → ℕ) (count : ℕ) → ((i : ℕ) → i < count → place i ≡ other_place i) → ((i : ℕ) → i < count → number i ≡ other i) →
    name_tests pages before place number count ≡ name_tests pages before other_place other count
unfolding name_tests
tests_same pages before place other_place number other count places numbers =
    first_same _ _ count (λ i lt.
    let at = places i lt in
    let is = numbers i lt in
    let all = numbers_same number other i (λ k earlier. numbers k (omega arith)) in
    (λ j. wants_unnamed pages (before ++ all j) (at j) (is j)))

pub are_same : (pages : ℕ) (before : List ℕ) (number other : ℕ → ℕ) (count : ℕ) → ((i : ℕ) → i < count → number i ≡ other i) → AreUnnamed pages before number count → AreUnnamed pages before other count
are_same pages before number other count same are i lt =
    let all = numbers_same number other i (λ k earlier. same k (omega arith)) in
    let is = same i lt in
    sym (λ j. is_free (unnamed pages (before ++ all j)) (is j)) ∙ are i lt

pub are_none : (pages : ℕ) (before : List ℕ) (number : ℕ → ℕ) → AreUnnamed pages before number 0
are_none pages before number i lt = absurd (omega arith)

pub are_more : (pages : ℕ) (before : List ℕ) (number : ℕ → ℕ) (count : ℕ) → AreUnnamed pages before number count → is_free (unnamed pages (before ++ numbers_of number count)) (number count) ≡ true →
    AreUnnamed pages before number (count + 1)
are_more pages before number count are last i lt = by (cases_lt i count)
  where
    by : (i < count) ⊎ (count ≤ i) → is_free (unnamed pages (before ++ numbers_of number i)) (number i) ≡ true
    by (inl earlier) = are i earlier
    by (inr late) =
        let same : count ≡ i = omega arith in
        subst (λ (n : ℕ). is_free (unnamed pages (before ++ numbers_of number n)) (number n) ≡ true) same last

-- a number of a page that is free is one of those that there are, and not one of the first four
pub unnamed_low : (pages : ℕ) (before : List ℕ) (number : ℕ) → is_free (unnamed pages before) number ≡ true → (4 ≤ number) × (number < pages)
unnamed_low pages before number is =
    let below : number < pages = omega (arith, within (unnamed pages before) number is, length_unnamed pages before) in
    (above (cases_lt number 4) below, below)
  where
    above : (number < 4) ⊎ (4 ≤ number) → number < pages → 4 ≤ number
    above (inl first) below =
        let no = is_unnamed pages before number below ∙ ap (λ (b : Bool). b && not (names before number)) (lt-leb 4 number first) in
        absurd (both_ways (is_free (unnamed pages before) number) no is)
    above (inr high) below = high

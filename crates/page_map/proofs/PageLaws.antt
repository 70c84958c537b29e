-- What is so of pages, free or not, and of the lists that name them.
use Rattle.std.proofs.Common.{◌≡◌, ℕ, zero, suc, ◌+◌, ◌<◌, ◌≤◌, min, Bool, true, false, not, cond, ◌&&◌, ◌||◌, List, [], length, map, replicate, take, get_or, set, refl, sym, ap, subst, ◌∙◌, add-zero, arith, get_or-set_same, get_or-set_other, inl, inr}
use Rattle.std.specs.Prelude.{◌==◌}
use Rattle.std.specs.List.{fold, range_with_len}
use Rattle.std.proofs.lemmas.List.{get_or_past, set-get_or, set_past, length-set}
use Rattle.std.proofs.lemmas.List.FromFn.{length-map-range_with_len, get_or-map-range_with_len, fill_by_all}
use Rattle.std.proofs.lemmas.List.Folds.{list_any_more, sum_by-replicate}
use Rattle.std.proofs.lemmas.List.Sums.{sum_by-set, count_by-le-length}
use Rattle.std.proofs.lemmas.Bool.{cases_lt, cases_eq, le-leb, lt-leb, eq-eqb, ne_eqb, and_right}
use Rattle.page_map.specs.Pages.{is_free, held_of, free_where, may_be_free, names, one_names, without}

pub length_where : (count : ℕ) (test : ℕ → Bool) → length (free_where count test) ≡ count
unfolding free_where
length_where count test = length-map-range_with_len test 0 count

pub is_free_where : (count : ℕ) (test : ℕ → Bool) (page : ℕ) → page < count → is_free (free_where count test) page ≡ test page
unfolding free_where
is_free_where count test page below = get_or-map-range_with_len test 0 count page page false below (omega arith)

-- pages are those that pass a test, if each of them is
pub where_from : (free : List Bool) (count : ℕ) (test : ℕ → Bool) → length free ≡ count → ((page : ℕ) → page < count → is_free free page ≡ test page) → free ≡ free_where count test
unfolding free_where
where_from free count test long each = fill_by_all test free count false long each

pub same_where : (count : ℕ) (one other : ℕ → Bool) → ((page : ℕ) → page < count → one page ≡ other page) → free_where count one ≡ free_where count other
same_where count one other each =
    where_from (free_where count one) count other (length_where count one) (λ page below. is_free_where count one page below ∙ each page below)

-- a free page is one that there is
pub within : (free : List Bool) (page : ℕ) → is_free free page ≡ true → page < length free
within free page is =
    elim (cases_lt page (length free)) [ inl below ↦ below | inr past ↦ let not_there = get_or_past free page false past in cc ]

-- what isn't free stays when it is taken
pub set_taken : (free : List Bool) (page : ℕ) → is_free free page ≡ false → set free page false ≡ free
set_taken free page is = ap (λ (b : Bool). set free page b) (sym is) ∙ set-get_or free page false

pub held_taken : (free : List Bool) (page : ℕ) → is_free free page ≡ true → held_of (set free page false) ≡ held_of free + 1
held_taken free page is =
    let there = within free page is in
    let count = sum_by-set (λ (b : Bool). cond (not b) 1 0) free page false false there in
    let known = rw is at count in
    omega (arith, known)

pub held_released : (free : List Bool) (page : ℕ) → page < length free → is_free free page ≡ false → held_of (set free page true) + 1 ≡ held_of free
held_released free page there is =
    let count = sum_by-set (λ (b : Bool). cond (not b) 1 0) free page true false there in
    let known = rw is at count in
    omega (arith, known)

-- while a page is free, not all are held
pub held_below : (free : List Bool) (page : ℕ) → is_free free page ≡ true → held_of free < length free
held_below free page is =
    omega (arith, held_taken free page is, count_by-le-length not (set free page false), length-set free page false)

-- counted on from a number, none of the pages from 4 on are held
none_held : (count from so_far : ℕ) → 4 ≤ from → fold (λ (n : ℕ) (b : Bool). n + cond (not b) 1 0) so_far (map may_be_free (range_with_len from count)) ≡ so_far
none_held zero from so_far above = refl
none_held (suc count) from so_far above =
    let can = le-leb 4 from above in
    rw (can, add-zero) (none_held count (from + 1) so_far (omega arith))

-- where all are free that may be, the first four are held
pub held_all : (count : ℕ) → held_of (free_where count may_be_free) ≡ min 4 count
unfolding free_where
held_all zero = refl
held_all (suc zero) = refl
held_all (suc (suc zero)) = refl
held_all (suc (suc (suc zero))) = refl
held_all (suc (suc (suc (suc count)))) =
    let first_four : 4 ≡ min 4 (suc (suc (suc (suc count)))) = omega arith in
    none_held count 4 4 (omega arith) ∙ first_four

-- the first four are never free
pub all_fixed : (count page : ℕ) → page < 4 → is_free (free_where count may_be_free) page ≡ false
all_fixed count page first =
    elim (cases_lt page count) [
      | inl there ↦ is_free_where count may_be_free page there ∙ lt-leb 4 page first
      | inr past ↦ get_or_past (free_where count may_be_free) page false (omega (arith, length_where count may_be_free))
    ]

pub held_replicate : (count : ℕ) → held_of (replicate count false) ≡ count
held_replicate count = sum_by-replicate (λ (b : Bool). cond (not b) 1 0) count false ∙ omega arith

pub and_true : (b : Bool) → (b && true) ≡ b
and_true true = refl
and_true false = refl

pub none_of : (b may : Bool) → (b || (may && false)) ≡ b
none_of true may = refl
none_of false true = refl
none_of false false = refl

-- neither of two
pub neither : (b one other : Bool) → ((b && not one) && not other) ≡ (b && not (one || other))
neither true true other = refl
neither true false other = refl
neither false one other = refl

pub none_of_three : (b one two three : Bool) → (((b && not one) && not two) && not three) ≡ (b && not (one || (two || three)))
none_of_three true true two three = refl
none_of_three true false true three = refl
none_of_three true false false three = refl
none_of_three false one two three = refl

-- one of two, of what may be
pub either : (b may one other : Bool) → ((b || (may && one)) || (may && other)) ≡ (b || (may && (one || other)))
either true may one other = refl
either false true one other = refl
either false false one other = refl

-- what is so where a page is taken or made free
pub ruleset taking = (held_taken, held_released, held_below, set_taken, set_past)

-- a page isn't free after it was taken, and the others are as before
pub is_free_taken : (free : List Bool) (page p : ℕ) → is_free (set free page false) p ≡ (is_free free p && not (page == p))
is_free_taken free page p =
    elim (cases_eq page p) [
      | inl same ↦
          rw (eq-eqb page p same)
          (elim (cases_lt page (length free)) [
            | inl there ↦ subst (λ (q : ℕ). is_free (set free page false) q ≡ (is_free free q && false)) same (get_or-set_same free page false false there ∙ sym (and_right (is_free free page) false refl))
            | inr past ↦ rw (set_past free page false past) (let no = get_or_past free p false (omega arith) in rw no refl)
          ])
      | inr other ↦
          rw (ne_eqb page p other)
          (get_or-set_other free page p false false (λ e. other (sym e)) ∙ sym (and_true (is_free free p)))
    ]

pub names_none : (page : ℕ) → names [] page ≡ false
unfolding names
names_none page = refl

pub names_more : (list : List ℕ) (index page : ℕ) → index < length list → names (take (index + 1) list) page ≡ (names (take index list) page || (get_or list index 0 == page))
unfolding names
names_more list index page below = list_any_more (λ number. number == page) list index 0 below

pub one_names_none : (page : ℕ) → one_names [] page ≡ false
unfolding one_names
one_names_none page = refl

pub one_names_more : (lists : List (List ℕ)) (index page : ℕ) → index < length lists → one_names (take (index + 1) lists) page ≡ (one_names (take index lists) page || names (get_or lists index []) page)
unfolding one_names
one_names_more lists index page below = list_any_more (λ list. names list page) lists index [] below

-- one more page that a list names is taken
pub hold_more : (before now : List Bool) (list : List ℕ) (index page p : ℕ) → index < length list → page ≡ get_or list index 0
    → is_free now p ≡ (is_free before p && not (names (take index list) p))
    → is_free (set now page false) p ≡ (is_free before p && not (names (take (index + 1) list) p))
hold_more before now list index page p below is so_far =
    is_free_taken now page p
    ∙ ap (λ (b : Bool). b && not (page == p)) so_far
    ∙ neither (is_free before p) (names (take index list) p) (page == p)
    ∙ ap (λ (b : Bool). is_free before p && not b) (ap (λ (n : ℕ). names (take index list) p || (n == p)) is ∙ sym (names_more list index p below))

-- one more page that a list names is made free
pub release_more : (before now next : List Bool) (list : List ℕ) (index p : ℕ) → index < length list
    → is_free now p ≡ (is_free before p || (may_be_free p && names (take index list) p))
    → is_free next p ≡ (is_free now p || (may_be_free p && (get_or list index 0 == p)))
    → is_free next p ≡ (is_free before p || (may_be_free p && names (take (index + 1) list) p))
release_more before now next list index p below so_far step =
    step
    ∙ ap (λ (b : Bool). b || (may_be_free p && (get_or list index 0 == p))) so_far
    ∙ either (is_free before p) (may_be_free p) (names (take index list) p) (get_or list index 0 == p)
    ∙ ap (λ (b : Bool). is_free before p || (may_be_free p && b)) (sym (names_more list index p below))

-- the same of one that has no mark
pub release_unmarked_more : (before now next marks : List Bool) (list : List ℕ) (index p : ℕ) → index < length list
    → is_free now p ≡ (is_free before p || (may_be_free p && (names (take index list) p && not (is_free marks p))))
    → is_free marks (get_or list index 0) ≡ false
    → is_free next p ≡ (is_free now p || (may_be_free p && (get_or list index 0 == p)))
    → is_free next p ≡ (is_free before p || (may_be_free p && (names (take (index + 1) list) p && not (is_free marks p))))
release_unmarked_more before now next marks list index p below so_far unmarked step =
    step
    ∙ ap (λ (b : Bool). b || (may_be_free p && (get_or list index 0 == p))) so_far
    ∙ elim (cases_eq (get_or list index 0) p) [
      | inl this ↦
          let free : is_free marks p ≡ false = subst (λ (q : ℕ). is_free marks q ≡ false) this unmarked in
          rw (free, eq-eqb (get_or list index 0) p this) (one_released (is_free before p) (may_be_free p) (names (take index list) p)
          ∙ ap (λ (b : Bool). is_free before p || (may_be_free p && (b && true))) (sym (names_more list index p below ∙ ap (λ (b : Bool). names (take index list) p || b) (eq-eqb (get_or list index 0) p this))))
      | inr other ↦
          let no = ne_eqb (get_or list index 0) p other in
          rw no (one_left (is_free before p) (may_be_free p) (names (take index list) p && not (is_free marks p))
          ∙ ap (λ (b : Bool). is_free before p || (may_be_free p && (b && not (is_free marks p)))) (sym (names_more list index p below ∙ ap (λ (b : Bool). names (take index list) p || b) no ∙ or_false (names (take index list) p))))
    ]
  where
    one_released : (free may named : Bool) → ((free || (may && (named && true))) || (may && true)) ≡ (free || (may && ((named || true) && true)))
    one_released true may named = refl
    one_released false true true = refl
    one_released false true false = refl
    one_released false false named = refl

    one_left : (free may named : Bool) → ((free || (may && named)) || (may && false)) ≡ (free || (may && named))
    one_left true may named = refl
    one_left false true true = refl
    one_left false true false = refl
    one_left false false named = refl

    or_false : (b : Bool) → (b || false) ≡ b
    or_false true = refl
    or_false false = refl

-- a page that has a mark stays
pub mark_more : (before now marks : List Bool) (list : List ℕ) (index p : ℕ) → index < length list
    → is_free now p ≡ (is_free before p || (may_be_free p && (names (take index list) p && not (is_free marks p))))
    → is_free marks (get_or list index 0) ≡ true
    → is_free now p ≡ (is_free before p || (may_be_free p && (names (take (index + 1) list) p && not (is_free marks p))))
mark_more before now marks list index p below so_far marked =
    so_far
    ∙ elim (cases_eq (get_or list index 0) p) [
      | inl this ↦
          let has : is_free marks p ≡ true = subst (λ (q : ℕ). is_free marks q ≡ true) this marked in
          rw has (ap (λ (b : Bool). is_free before p || (may_be_free p && b)) (and_right (names (take index list) p) false refl ∙ sym (and_right (names (take (index + 1) list) p) false refl)))
      | inr other ↦
          ap (λ (b : Bool). is_free before p || (may_be_free p && (b && not (is_free marks p))))
          (sym (names_more list index p below ∙ ap (λ (b : Bool). names (take index list) p || b) (ne_eqb (get_or list index 0) p other) ∙ or_none (names (take index list) p)))
    ]
  where
    or_none : (b : Bool) → (b || false) ≡ b
    or_none true = refl
    or_none false = refl

-- the pages that one more list names are taken
pub hold_one_more : (before now next : List Bool) (lists : List (List ℕ)) (index p : ℕ) → index < length lists → p < length now
    → is_free now p ≡ (is_free before p && not (one_names (take index lists) p))
    → next ≡ without now (get_or lists index [])
    → is_free next p ≡ (is_free before p && not (one_names (take (index + 1) lists) p))
hold_one_more before now next lists index p below there so_far is =
    let list = get_or lists index [] in
    ap (λ (free : List Bool). is_free free p) is
    ∙ is_free_where (length now) (λ (page : ℕ). is_free now page && not (names list page)) p there
    ∙ ap (λ (b : Bool). b && not (names list p)) so_far
    ∙ neither (is_free before p) (one_names (take index lists) p) (names list p)
    ∙ ap (λ (b : Bool). is_free before p && not b) (sym (one_names_more lists index p below))

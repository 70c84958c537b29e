-- What is so of page maps, and stays so.
use Rattle.std.proofs.Common.{◌≡◌, ℕ, zero, suc, ◌<◌, ◌≤◌, ◌^◌, Bool, true, false, not, ◌&&◌, ◌||◌, List, [], ◌∷◌, length, replicate, get_or, set, refl, sym, ap, subst, ◌∙◌, arith, get_or-set_same, get_or-set_other, length-set, ◌⊎◌, inl, inr}
use Rattle.std.specs.Prelude.{◌==◌}
use Rattle.std.specs.List.{list_any}
use Rattle.std.proofs.lemmas.List.{get_or_past, get_or-replicate, length-replicate}
use Rattle.std.proofs.lemmas.Bool.{cases_eq, cases_lt, or_cases, or_left, or_right, eqb-true, ne_eqb, lt-leb, both_ways, false_from_ne_true, not_from_true, or_from, and_left, and_right}
use Rattle.page_map.specs.Pages.{is_free, free_where, may_be_free, IsTaken, names, one_names, no_pages, without}
use Rattle.page_map.specs.Map.{MapView, IsMap, list_names, fresh_map, with_taken, with_staged, settled, with_pin, with_pins}
use Rattle.page_map.proofs.PageLaws.{all_fixed, is_free_taken, is_free_where, length_where, none_of_three, same_where, where_from, within}

-- a test that one of a list passes, one of which was changed
any_set : {X : Type 0} (test : X → Bool) (items : List X) (place : ℕ) (item : X) → list_any test (set items place item) ≡ true
    → (test item ≡ true) ⊎ (list_any test items ≡ true)
any_set test [] place item is = inr is
any_set test (x ∷ xs) zero item is =
    elim (or_cases (test item) (list_any test xs) is) [ inl this ↦ inl this | inr other ↦ inr (or_right (test x) (list_any test xs) other) ]
any_set test (x ∷ xs) (suc place) item is =
    elim (or_cases (test x) (list_any test (set xs place item)) is) [
      | inl first ↦ inr (or_left (test x) (list_any test xs) first)
      | inr rest ↦ elim (any_set test xs place item rest) [ inl this ↦ inl this | inr other ↦ inr (or_right (test x) (list_any test xs) other) ]
    ]

pub names_set : (list : List ℕ) (place number page : ℕ) → names (set list place number) page ≡ true → (number ≡ page) ⊎ (names list page ≡ true)
unfolding names
names_set list place number page is =
    elim (any_set (λ (n : ℕ). n == page) list place number is) [ inl this ↦ inl (eqb-true number page this) | inr other ↦ inr other ]

pub one_names_set : (lists : List (List ℕ)) (place : ℕ) (list : List ℕ) (page : ℕ) → one_names (set lists place list) page ≡ true
    → (names list page ≡ true) ⊎ (one_names lists page ≡ true)
unfolding one_names
one_names_set lists place list page is = any_set (λ (l : List ℕ). names l page) lists place list is

-- a list that names no page names none
pub names_no_pages : (count page : ℕ) → 1 ≤ page → names (no_pages count) page ≡ false
unfolding names
names_no_pages zero page above = refl
names_no_pages (suc count) page above =
    let first = ne_eqb 0 page (λ e. absurd (omega arith)) in
    rw first (names_no_pages count page above)

pub one_names_no_pages : (pins count page : ℕ) → 1 ≤ page → one_names (replicate pins (no_pages count)) page ≡ false
unfolding one_names
one_names_no_pages zero count page above = refl
one_names_no_pages (suc pins) count page above =
    let first = names_no_pages count page above in
    rw first (one_names_no_pages pins count page above)

-- pages that pass two tests in turn
pub where_where : (count : ℕ) (one other : ℕ → Bool)
    → free_where (length (free_where count one)) (λ page. is_free (free_where count one) page && other page) ≡ free_where count (λ page. one page && other page)
where_where count one other =
    let free = free_where count one in
    ap (λ (n : ℕ). free_where n (λ page. is_free free page && other page)) (length_where count one)
    ∙ same_where count (λ page. is_free free page && other page) (λ page. one page && other page)
    (λ page below. ap (λ (b : Bool). b && other page) (is_free_where count one page below))

-- a free page isn't one of the first four
above_four : (map : MapView) (page : ℕ) → IsMap map → is_free map.free page ≡ true → 4 ≤ page
above_four map page sound is =
    elim (cases_lt page 4) [ inl first ↦ let fixed = sound.fixed page first in cc | inr above ↦ above ]

-- a page that was free is taken once it isn't
pub taken_is : (map : MapView) (page : ℕ) → IsMap map → is_free map.free page ≡ true → IsTaken (with_taken map page).free page
taken_is map page sound is =
    let there = within map.free page is in
    record {
      above = above_four map page sound is;
      below = omega (arith, length-set map.free page false);
      in_use = get_or-set_same map.free page false false there;
    }

-- which of the lists it is
which_names : (map : MapView) (page : ℕ) → list_names map page ≡ true
    → (names map.committed page ≡ true) ⊎ ((names map.staged page ≡ true) ⊎ (one_names map.pins page ≡ true))
which_names map page is =
    elim (or_cases (names map.committed page) (names map.staged page || one_names map.pins page) is) [
      | inl one ↦ inl one
      | inr more ↦ inr (or_cases (names map.staged page) (one_names map.pins page) more)
    ]

by_committed : (map : MapView) (page : ℕ) → names map.committed page ≡ true → list_names map page ≡ true
by_committed map page is = or_left (names map.committed page) (names map.staged page || one_names map.pins page) is

by_staged : (map : MapView) (page : ℕ) → names map.staged page ≡ true → list_names map page ≡ true
by_staged map page is =
    or_right (names map.committed page) (names map.staged page || one_names map.pins page) (or_left (names map.staged page) (one_names map.pins page) is)

by_pin : (map : MapView) (page : ℕ) → one_names map.pins page ≡ true → list_names map page ≡ true
by_pin map page is =
    or_right (names map.committed page) (names map.staged page || one_names map.pins page) (or_right (names map.staged page) (one_names map.pins page) is)

pub fresh_is_map : (logical pages : ℕ) → logical < 2 ^ 32 → pages < 2 ^ 32 → IsMap (fresh_map logical pages)
fresh_is_map logical pages few_logical few = record {
  staged = refl;
  pinned = λ pin below. absurd (omega arith);
  logical = omega (arith, length-replicate {A = ℕ} logical 0);
  pages = omega (arith, length_where pages may_be_free);
  fixed = all_fixed pages;
  named = λ page above is.
      let none = names_no_pages logical page above in
      absurd (both_ways _ (or_from _ _ none (or_from _ _ none (one_names_no_pages 0 logical page above))) is);
}

-- a page may be staged that was taken
pub staged_is_map : (map : MapView) (page number : ℕ) → IsMap map → (number ≡ 0) ⊎ IsTaken map.free number → IsMap (with_staged map page number)
staged_is_map map page number sound may = record {
  staged = length-set map.staged page number ∙ sound.staged;
  pinned = sound.pinned;
  logical = sound.logical;
  pages = sound.pages;
  fixed = sound.fixed;
  named = λ p above is. elim (which_names (with_staged map page number) p is) [
    | inl one ↦ sound.named p above (by_committed map p one)
    | inr more ↦ elim more [
      | inl two ↦ elim (names_set map.staged page number p two) [
        | inl this ↦ elim may [ inl none ↦ absurd (omega (arith, this, none)) | inr taken ↦ subst (λ (q : ℕ). IsTaken map.free q) this taken ]
        | inr other ↦ sound.named p above (by_staged map p other)
      ]
      | inr three ↦ sound.named p above (by_pin map p three)
    ]
  ];
}

-- a page may be taken that was free
pub taken_is_map : (map : MapView) (page : ℕ) → IsMap map → IsMap (with_taken map page)
taken_is_map map page sound = record {
  staged = sound.staged;
  pinned = sound.pinned;
  logical = sound.logical;
  pages = omega (arith, length-set map.free page false, sound.pages);
  fixed = λ p first. taken_stays p (sound.fixed p first);
  named = λ p above is. let was = sound.named p above is in record {
    above = was.above;
    below = omega (arith, length-set map.free page false, was.below);
    in_use = taken_stays p was.in_use;
  };
}
  where
    taken_stays : (p : ℕ) → is_free map.free p ≡ false → is_free (set map.free page false) p ≡ false
    taken_stays p is = is_free_taken map.free page p ∙ and_left (is_free map.free p) (not (page == p)) is

-- A page that was free may be taken and staged.
pub read_is_map : (map : MapView) (page number : ℕ) → IsMap map → is_free map.free number ≡ true → IsMap (with_staged (with_taken map number) page number)
read_is_map map page number sound is =
    staged_is_map (with_taken map number) page number (taken_is_map map number sound) (inr (taken_is map number sound is))

-- what is free once the pages that three name were taken, one after the other
three_held : (count : ℕ) (may : ℕ → Bool) (first second : List ℕ) (pins : List (List ℕ)) →
    let without_both = without (without (free_where count may) first) second in
    free_where (length without_both) (λ page. is_free without_both page && not (one_names pins page))
    ≡ free_where count (λ page. may page && not (names first page || (names second page || one_names pins page)))
three_held count may first second pins =
    let one : without (free_where count may) first ≡ free_where count (λ page. may page && not (names first page)) =
    where_where count may (λ page. not (names first page)) in
    let two = ap (λ (xs : List Bool). without xs second) one ∙ where_where count (λ page. may page && not (names first page)) (λ page. not (names second page)) in
    ap (λ (xs : List Bool). free_where (length xs) (λ page. is_free xs page && not (one_names pins page))) two
    ∙ where_where count (λ page. (may page && not (names first page)) && not (names second page)) (λ page. not (one_names pins page))
    ∙ same_where count (λ page. ((may page && not (names first page)) && not (names second page)) && not (one_names pins page))
    (λ page. may page && not (names first page || (names second page || one_names pins page)))
    (λ page below. none_of_three (may page) (names first page) (names second page) (one_names pins page))

-- a map may have pins that hold nothing, in place of those that it had
pub reserved_is_map : (map : MapView) (pins : ℕ) → IsMap map → IsMap (with_pins map (replicate pins (no_pages (length map.committed))))
reserved_is_map map pins sound =
    let count = length map.committed in
    let none = no_pages count in
    record {
      staged = sound.staged;
      pinned = λ pin below. ap length (get_or-replicate pins pin none [] (omega (arith, below, length-replicate pins none))) ∙ length-replicate count 0;
      logical = sound.logical;
      pages = sound.pages;
      fixed = sound.fixed;
      named = λ page above is. elim (which_names (with_pins map (replicate pins none)) page is) [
        | inl one ↦ sound.named page above (by_committed map page one)
        | inr more ↦ elim more [
          | inl two ↦ sound.named page above (by_staged map page two)
          | inr three ↦ absurd (both_ways (one_names (replicate pins none) page) (one_names_no_pages pins count page above) three)
        ]
      ];
    }

-- what is free after settling
pub settling : (free all less least now : List Bool) (staged map_pages : List ℕ) (pins : List (List ℕ)) → all ≡ free_where (length free) may_be_free
    → less ≡ without all staged → least ≡ without less map_pages
    → now ≡ free_where (length least) (λ page. is_free least page && not (one_names pins page))
    → now ≡ free_where (length free) (λ page. may_be_free page && not (names staged page || (names map_pages page || one_names pins page)))
settling free all less least now staged map_pages pins e1 e2 e3 e4 =
    let both = e3 ∙ ap (λ (xs : List Bool). without xs map_pages) (e2 ∙ ap (λ (xs : List Bool). without xs staged) e1) in
    e4
    ∙ ap (λ (xs : List Bool). free_where (length xs) (λ page. is_free xs page && not (one_names pins page))) both
    ∙ three_held (length free) may_be_free staged map_pages pins

-- what is free once the pages of all lists were taken
pub holding : (free less least now : List Bool) (committed staged : List ℕ) (pins : List (List ℕ))
    → less ≡ without free committed → least ≡ without less staged
    → now ≡ free_where (length least) (λ page. is_free least page && not (one_names pins page))
    → now ≡ free_where (length free) (λ page. is_free free page && not (names committed page || (names staged page || one_names pins page)))
holding free less least now committed staged pins e1 e2 e3 =
    let itself = where_from free (length free) (is_free free) refl (λ page below. refl) in
    let both = e2 ∙ ap (λ (xs : List Bool). without xs staged) (e1 ∙ ap (λ (xs : List Bool). without xs committed) itself) in
    e3
    ∙ ap (λ (xs : List Bool). free_where (length xs) (λ page. is_free xs page && not (one_names pins page))) both
    ∙ three_held (length free) (is_free free) committed staged pins

-- A page that passes both of two tests isn't free where the second is that nothing names it.
named_not_free : (may named : Bool) → named ≡ true → (may && not named) ≡ false
named_not_free may named is = rw is (and_right may false refl)

pub settled_is_map : (map : MapView) (map_pages : List ℕ) → IsMap map → IsMap (settled map map_pages)
settled_is_map map map_pages sound = record {
  staged = refl;
  pinned = λ pin below. sound.pinned pin below ∙ sym sound.staged;
  logical = omega (arith, sound.staged, sound.logical);
  pages = omega (arith, length_where count test, sound.pages);
  fixed = λ page first. elim (cases_lt page count) [
    | inl there ↦ is_free_where count test page there ∙ and_left (may_be_free page) _ (lt-leb 4 page first)
    | inr past ↦ get_or_past (free_where count test) page false (omega (arith, length_where count test))
  ];
  named = λ page above is. elim (which_names (settled map map_pages) page is) [
    | inl one ↦ named page (sound.named page above (by_staged map page one)) (or_left (names map.staged page) _ one)
    | inr more ↦ elim more [
      | inl two ↦ named page (sound.named page above (by_staged map page two)) (or_left (names map.staged page) _ two)
      | inr three ↦ named page (sound.named page above (by_pin map page three)) (or_right (names map.staged page) _ (or_right (names map_pages page) _ three))
    ]
  ];
}
  where
    count : ℕ
    count = length map.free

    test : ℕ → Bool
    test page = may_be_free page && not (names map.staged page || (names map_pages page || one_names map.pins page))

    named : (page : ℕ) → IsTaken map.free page → (names map.staged page || (names map_pages page || one_names map.pins page)) ≡ true
        → IsTaken (free_where (length map.free) (λ page. may_be_free page && not (names map.staged page || (names map_pages page || one_names map.pins page)))) page
    named page was is = record {
      above = was.above;
      below = omega (arith, length_where (length map.free) (λ page. may_be_free page && not (names map.staged page || (names map_pages page || one_names map.pins page))), was.below);
      in_use = is_free_where (length map.free) (λ page. may_be_free page && not (names map.staged page || (names map_pages page || one_names map.pins page))) page was.below
          ∙ named_not_free (may_be_free page) _ is;
    }

-- a page that was given up, or not, where none that is free is named
given_up_is : (free may given_up named : Bool) → (free ≡ true → named ≡ false)
    → ((free || (may && given_up)) && not named) ≡ (free || (may && (given_up && not named)))
given_up_is true may given_up named none = let no = none refl in rw no refl
given_up_is false true true named none = refl
given_up_is false true false named none = refl
given_up_is false false given_up named none = refl

module _ (map : MapView) (pin : ℕ) (list : List ℕ) (sound : IsMap map) (known : (page : ℕ) → 1 ≤ page → names list page ≡ true → names map.committed page ≡ true) where
  -- what the lists name with another list in a pin, they named before
  was_named : (page : ℕ) → 1 ≤ page → list_names (with_pins map (set map.pins pin list)) page ≡ true → list_names map page ≡ true
  was_named page above is =
      elim (which_names (with_pins map (set map.pins pin list)) page is) [
        | inl one ↦ by_committed map page one
        | inr more ↦ elim more [
          | inl two ↦ by_staged map page two
          | inr three ↦ elim (one_names_set map.pins pin list page three) [
            | inl this ↦ by_committed map page (known page above this)
            | inr other ↦ by_pin map page other
          ]
        ]
      ]

  -- what is free is named by none
  free_unnamed : (page : ℕ) → is_free map.free page ≡ true → list_names (with_pins map (set map.pins pin list)) page ≡ false
  free_unnamed page free =
      let four = above_four map page sound free in
      let above : 1 ≤ page = omega (arith, four) in
      false_from_ne_true _ (λ is. both_ways (is_free map.free page) (sound.named page above (was_named page above is)).in_use free)

  -- what is free once a pin has another list
  pub giving_up : (released now : List Bool)
      → released ≡ free_where (length map.free) (λ page. is_free map.free page || (may_be_free page && names (get_or map.pins pin []) page))
      → now ≡ free_where (length released) (λ page. is_free released page && not (list_names (with_pins map (set map.pins pin list)) page))
      → now ≡ (with_pin map pin list).free
  giving_up released now e1 e2 =
      let count = length map.free in
      let named : ℕ → Bool = λ page. list_names (with_pins map (set map.pins pin list)) page in
      let given_up : ℕ → Bool = λ page. names (get_or map.pins pin []) page in
      e2
      ∙ ap (λ (xs : List Bool). free_where (length xs) (λ page. is_free xs page && not (named page))) e1
      ∙ where_where count (λ page. is_free map.free page || (may_be_free page && given_up page)) (λ page. not (named page))
      ∙ same_where count (λ page. (is_free map.free page || (may_be_free page && given_up page)) && not (named page))
      (λ page. is_free map.free page || (may_be_free page && (given_up page && not (named page))))
      (λ page below. given_up_is (is_free map.free page) (may_be_free page) (given_up page) (named page) (free_unnamed page))

  pub pinned_is_map : pin < length map.pins → length list ≡ length map.committed → IsMap (with_pin map pin list)
  pinned_is_map there long = record {
    staged = sound.staged;
    pinned = λ other below. elim (cases_eq other pin) [
      | inl same ↦ ap length (subst (λ (k : ℕ). get_or (set map.pins pin list) k [] ≡ list) (sym same) (get_or-set_same map.pins pin list [] there)) ∙ long
      | inr apart ↦ ap length (get_or-set_other map.pins pin other list [] apart) ∙ sound.pinned other (omega (arith, length-set map.pins pin list, below))
    ];
    logical = sound.logical;
    pages = omega (arith, length_where (length map.free) free_now, sound.pages);
    fixed = λ page first. elim (cases_lt page (length map.free)) [
      | inl there ↦ is_free_where (length map.free) free_now page there ∙ or_from (is_free map.free page) _ (sound.fixed page first) (and_left (may_be_free page) _ (lt-leb 4 page first))
      | inr past ↦ get_or_past (free_where (length map.free) free_now) page false (omega (arith, length_where (length map.free) free_now))
    ];
    named = λ page above is.
        let was = sound.named page above (was_named page above is) in record {
          above = was.above;
          below = omega (arith, length_where (length map.free) free_now, was.below);
          in_use = is_free_where (length map.free) free_now page was.below
              ∙ or_from (is_free map.free page) _ was.in_use (and_right (may_be_free page) _ (and_right (names (get_or map.pins pin []) page) _ (not_from_true _ is)));
        };
  }
    where
      free_now : ℕ → Bool
      free_now page = is_free map.free page || (may_be_free page && (names (get_or map.pins pin []) page && not (list_names (with_pins map (set map.pins pin list)) page)))

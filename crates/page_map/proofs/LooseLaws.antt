-- Loose pages: those in use that are neither staged nor pinned.
use Rattle.std.proofs.Common.{◌≡◌, ℕ, zero, suc, ◌<◌, ◌≤◌, Bool, true, false, not, ◌&&◌, ◌||◌, List, [], ◌∷◌, ◌++◌, length, get_or, set, Option, Some, None, refl, sym, ap, subst, ◌∙◌, arith, get_or-set_other, length-set, ◌⊎◌, inl, inr}
use Rattle.std.specs.Prelude.{◌==◌}
use Rattle.std.proofs.lemmas.Bool.{cases_eq, cases_lt, cases_Bool, or_cases, or_left, or_right, eqb-true, eq-eqb, le-leb, lt-leb, both_ways, false_from_ne_true, and_right}
use Rattle.page_map.specs.Pages.{is_free, free_where, may_be_free, names, one_names, without}
use Rattle.page_map.specs.Map.{MapView, IsMap, list_names, fresh_map, with_taken, with_staged, settled, with_pin, with_pins}
use Rattle.page_map.specs.inside.Noted.{IsNoted}
use Rattle.page_map.specs.inside.Releasing.{ReleasesUnstaged}
use Rattle.page_map.specs.inside.Kept.{AreLoose}
use Rattle.page_map.proofs.PageLaws.{is_free_where, length_where, same_where}

-- what a list names it names with more behind it, and it names what comes last
names_before : (list more : List ℕ) (page : ℕ) → names list page ≡ true → names (list ++ more) page ≡ true
unfolding names
names_before [] more page is = absurd (cc)
names_before (x ∷ xs) more page is =
    elim (or_cases (x == page) (names xs page) is) [ inl this ↦ or_left (x == page) _ this | inr rest ↦ or_right (x == page) _ (names_before xs more page rest) ]

names_last : (list : List ℕ) (page : ℕ) → names (list ++ page ∷ []) page ≡ true
unfolding names
names_last [] page = or_left (page == page) false (eq-eqb page page refl)
names_last (x ∷ xs) page = or_right (x == page) _ (names_last xs page)

-- what a list named it still names with another number in it, but for the one that stood there
pub names_kept : (list : List ℕ) (place number page : ℕ) → names list page ≡ true → (get_or list place 0 ≡ page) ⊎ (names (set list place number) page ≡ true)
unfolding names
names_kept [] place number page is = absurd (cc)
names_kept (x ∷ xs) zero number page is =
    elim (or_cases (x == page) (names xs page) is) [ inl this ↦ inl (eqb-true x page this) | inr rest ↦ inr (or_right (number == page) _ rest) ]
names_kept (x ∷ xs) (suc place) number page is =
    elim (or_cases (x == page) (names xs page) is) [
      | inl this ↦ inr (or_left (x == page) _ this)
      | inr rest ↦ elim (names_kept xs place number page rest) [ inl old ↦ inl old | inr new ↦ inr (or_right (x == page) _ new) ]
    ]

-- the number that is put is named
pub names_put : (list : List ℕ) (place number : ℕ) → place < length list → names (set list place number) number ≡ true
unfolding names
names_put [] place number below = absurd (omega (arith, below))
names_put (x ∷ xs) zero number below = or_left (number == number) _ (eq-eqb number number refl)
names_put (x ∷ xs) (suc place) number below = or_right (x == number) _ (names_put xs place number (omega arith))

-- what stands in a list it names
pub named_at : (list : List ℕ) (place page : ℕ) → place < length list → get_or list place 0 ≡ page → names list page ≡ true
unfolding names
named_at [] place page below is = absurd (omega (arith, below))
named_at (x ∷ xs) zero page below is = or_left (x == page) _ (eq-eqb x page is)
named_at (x ∷ xs) (suc place) page below is = or_right (x == page) _ (named_at xs place page (omega (arith, below)) is)

-- what one of the lists named one of them still names with another list among them, but for what the list named that stood there
pub one_names_kept : (lists : List (List ℕ)) (place : ℕ) (list : List ℕ) (page : ℕ) → one_names lists page ≡ true
    → (names (get_or lists place []) page ≡ true) ⊎ (one_names (set lists place list) page ≡ true)
unfolding one_names
one_names_kept [] place list page is = absurd (cc)
one_names_kept (x ∷ xs) zero list page is =
    elim (or_cases (names x page) (one_names xs page) is) [ inl this ↦ inl this | inr rest ↦ inr (or_right (names list page) _ rest) ]
one_names_kept (x ∷ xs) (suc place) list page is =
    elim (or_cases (names x page) (one_names xs page) is) [
      | inl this ↦ inr (or_left (names x page) _ this)
      | inr rest ↦ elim (one_names_kept xs place list page rest) [ inl old ↦ inl old | inr new ↦ inr (or_right (names x page) _ new) ]
    ]

-- a page in use is staged, or loose, or pinned and not committed
abbrev Used : MapView → List ℕ → ℕ → Type 0
Used map loose page = (names map.staged page ≡ true) ⊎ ((names loose page ≡ true) ⊎ ((one_names map.pins page ≡ true) × (names map.committed page ≡ false)))

-- each is, but for this one
abbrev pub LooseBut : MapView → ℕ → Option (List ℕ) → Type 0
LooseBut map number None = Unit {0}
LooseBut map number (Some loose) =
    (page : ℕ) → 4 ≤ page → page < length map.free → is_free map.free page ≡ false → (number ≡ page) ⊎ Used map loose page

-- one more number is noted: what was loose still is, and so is that page
pub noted_loose : (map : MapView) (number : ℕ) (old new : Option (List ℕ)) → LooseBut map number old → IsNoted number old new → AreLoose map new
noted_loose map number old None but noted = tt
noted_loose map number old (Some now) but noted = λ page low high used.
    let was = subst (LooseBut map number) noted.1 but in
    let named : (list : List ℕ) → names list page ≡ true → now ≡ list → names now page ≡ true = λ list is e. subst (λ (xs : List ℕ). names xs page ≡ true) (sym e) is in
    elim (was page low high used) [
      | inl this ↦ inr (inl (named (noted.0 ++ number ∷ []) (subst (λ (p : ℕ). names (noted.0 ++ number ∷ []) p ≡ true) this (names_last noted.0 number)) noted.2))
      | inr others ↦ elim others [
        | inl staged ↦ inl staged
        | inr more ↦ elim more [
          | inl loose ↦ inr (inl (named (noted.0 ++ number ∷ []) (names_before noted.0 (number ∷ []) page loose) noted.2))
          | inr pinned ↦ inr (inr pinned)
        ]
      ]
    ]

-- a page was taken
pub taken_but : (map : MapView) (number : ℕ) (loose : Option (List ℕ)) → AreLoose map loose → LooseBut (with_taken map number) number loose
taken_but map number None are = tt
taken_but map number (Some loose) are = λ page low high used.
    elim (cases_eq number page) [
      | inl this ↦ inl this
      | inr other ↦
          let stays : is_free (set map.free number false) page ≡ is_free map.free page = get_or-set_other map.free number page false false (λ e. other (sym e)) in
          inr (are page low (omega (arith, length-set map.free number false, high)) (sym stays ∙ used))
    ]

-- another page is staged
pub staged_but : (map : MapView) (page number : ℕ) (loose : Option (List ℕ)) → AreLoose map loose → LooseBut (with_staged map page number) (get_or map.staged page 0) loose
staged_but map page number None are = tt
staged_but map page number (Some loose) are = λ p low high used.
    elim (are p low high used) [
      | inl staged ↦ elim (names_kept map.staged page number p staged) [ inl old ↦ inl old | inr new ↦ inr (inl new) ]
      | inr more ↦ inr (inr more)
    ]

-- while all are free that may be, none is loose
pub fresh_loose : (logical pages : ℕ) → AreLoose (fresh_map logical pages) (Some [])
fresh_loose logical pages page low high used =
    let there : page < pages = omega (arith, length_where pages may_be_free, high) in
    let free : is_free (free_where pages may_be_free) page ≡ true = is_free_where pages may_be_free page there ∙ le-leb 4 page low in
    absurd (both_ways _ used free)

-- other pins, in place of pins that held nothing
pub reserved_loose : (map : MapView) (pins : List (List ℕ)) (loose : Option (List ℕ)) → AreLoose map loose → ((page : ℕ) → 1 ≤ page → one_names map.pins page ≡ false) → AreLoose (with_pins map pins) loose
reserved_loose map pins None are none = tt
reserved_loose map pins (Some loose) are none = λ page low high used.
    elim (are page low high used) [
      | inl staged ↦ inl staged
      | inr more ↦ elim more [
        | inl other ↦ inr (inl other)
        | inr pinned ↦ absurd (both_ways (one_names map.pins page) (none page (omega (arith, low))) pinned.0)
      ]
    ]

-- another list in a pin
pub pinned_loose : (map : MapView) (pin : ℕ) (list : List ℕ) (loose : Option (List ℕ)) → AreLoose map loose → AreLoose (with_pin map pin list) loose
pinned_loose map pin list None are = tt
pinned_loose map pin list (Some loose) are = λ page low high used.
    let given_up = get_or map.pins pin [] in
    let now = with_pins map (set map.pins pin list) in
    let free_now : ℕ → Bool = λ page. is_free map.free page || (may_be_free page && (names given_up page && not (list_names now page))) in
    let there : page < length map.free = omega (arith, length_where (length map.free) free_now, high) in
    let none = sym (is_free_where (length map.free) free_now page there) ∙ used in
    let was = or_both_left (is_free map.free page) _ none in
    elim (are page low there was) [
      | inl staged ↦ inl staged
      | inr more ↦ elim more [
        | inl other ↦ inr (inl other)
        | inr pinned ↦ elim (one_names_kept map.pins pin list page pinned.0) [
          | inl gone ↦
              let named : list_names now page ≡ true = still_named (may_be_free page) (names given_up page) (list_names now page) (le-leb 4 page low) gone (or_both_right (is_free map.free page) _ none) in
              elim (or_cases (names map.committed page) (names map.staged page || one_names (set map.pins pin list) page) named) [
                | inl committed ↦ absurd (both_ways (names map.committed page) pinned.1 committed)
                | inr rest ↦ elim (or_cases (names map.staged page) (one_names (set map.pins pin list) page) rest) [
                  | inl staged ↦ inl staged
                  | inr three ↦ inr (inr (three, pinned.1))
                ]
              ]
          | inr still ↦ inr (inr (still, pinned.1))
        ]
      ]
    ]
  where
    or_both_left : (a b : Bool) → (a || b) ≡ false → a ≡ false
    or_both_left true b is = is
    or_both_left false b is = refl

    or_both_right : (a b : Bool) → (a || b) ≡ false → b ≡ false
    or_both_right true b is = absurd (both_ways true is refl)
    or_both_right false b is = is

    still_named : (may given named : Bool) → may ≡ true → given ≡ true → (may && (given && not named)) ≡ false → named ≡ true
    still_named may given true m g is = refl
    still_named may given false m g is = absurd (both_ways true (sym (λ i. m i && (g i && true)) ∙ is) refl)

-- What is free after settling, where all that isn't staged was made free, or the loose pages that aren't.
module _ (map : MapView) (loose : Option (List ℕ)) (map_pages : List ℕ) (sound : IsMap map) (are : AreLoose map loose) where
  -- a page that may be free and that no pin names
  unstaged : (released : List Bool) → ReleasesUnstaged map.free released loose map.staged → (page : ℕ) → page < length map.free → one_names map.pins page ≡ false
      → is_free released page ≡ (may_be_free page && not (names map.staged page))
  unstaged released (inl all) page there none =
      ap (λ (xs : List Bool). is_free xs page) all
      ∙ is_free_where (length (free_where (length map.free) may_be_free)) (λ p. is_free (free_where (length map.free) may_be_free) p && not (names map.staged p)) page (omega (arith, length_where (length map.free) may_be_free, there))
      ∙ ap (λ (b : Bool). b && not (names map.staged page)) (is_free_where (length map.free) may_be_free page there)
  unstaged released (inr some) page there none =
      ap (λ (xs : List Bool). is_free xs page) some.2
      ∙ is_free_where (length map.free) (λ p. is_free map.free p || (may_be_free p && (names some.0 p && not (names map.staged p)))) page there
      ∙ by_loose page there none some.0 (subst (AreLoose map) some.1 are)
    where
      by_loose : (page : ℕ) → page < length map.free → one_names map.pins page ≡ false → (list : List ℕ) → AreLoose map (Some list)
          → (is_free map.free page || (may_be_free page && (names list page && not (names map.staged page)))) ≡ (may_be_free page && not (names map.staged page))
      by_loose page there none list told = elim (cases_lt page 4) [
        | inl first ↦
            let fixed = sound.fixed page first in
            let may : may_be_free page ≡ false = lt-leb 4 page first in
            rw (fixed, may) refl
        | inr low ↦
            let may : may_be_free page ≡ true = le-leb 4 page low in
            rw may (elim (cases_Bool (is_free map.free page)) [
              | inl free ↦
                  let unnamed : names map.staged page ≡ false = false_from_ne_true _ (λ is. both_ways (is_free map.free page) (sound.named page (omega (arith, low)) (by_staged page is)).in_use free) in
                  rw (free, unnamed) refl
              | inr used ↦ rw used (elim (told page low there used) [
                | inl staged ↦ rw staged (and_right (names list page) false refl)
                | inr more ↦ elim more [
                  | inl loose ↦ rw loose refl
                  | inr pinned ↦ absurd (both_ways (one_names map.pins page) none pinned.0)
                ]
              ])
            ])
      ]
        where
          by_staged : (page : ℕ) → names map.staged page ≡ true → list_names map page ≡ true
          by_staged page is = or_right (names map.committed page) _ (or_left (names map.staged page) _ is)

  pub settled_free : (released least now : List Bool) → length released ≡ length map.free → ReleasesUnstaged map.free released loose map.staged → least ≡ without released map_pages
      → now ≡ free_where (length least) (λ page. is_free least page && not (one_names map.pins page)) → now ≡ (settled map map_pages).free
  settled_free released least now long releases is_least is_now =
      let count = length map.free in
      let long_least : length least ≡ count = ap length is_least ∙ length_where (length released) (λ page. is_free released page && not (names map_pages page)) ∙ long in
      is_now
      ∙ ap (λ (n : ℕ). free_where n (λ page. is_free least page && not (one_names map.pins page))) long_least
      ∙ same_where count (λ page. is_free least page && not (one_names map.pins page)) (λ page. may_be_free page && not (names map.staged page || (names map_pages page || one_names map.pins page)))
      (λ page there. elim (cases_Bool (one_names map.pins page)) [
        | inl pinned ↦ rw pinned (and_right (is_free least page) false refl ∙ sym (pinned_not (may_be_free page) (names map.staged page) (names map_pages page)))
        | inr none ↦
            let kept = ap (λ (xs : List Bool). is_free xs page) is_least
            ∙ is_free_where (length released) (λ p. is_free released p && not (names map_pages p)) page (omega (arith, long, there))
            ∙ ap (λ (b : Bool). b && not (names map_pages page)) (unstaged released releases page there none) in
            rw none (ap (λ (b : Bool). b && true) kept ∙ three_none (may_be_free page) (names map.staged page) (names map_pages page))
      ])
    where
      pinned_not : (may one two : Bool) → (may && not (one || (two || true))) ≡ false
      pinned_not true true two = refl
      pinned_not true false true = refl
      pinned_not true false false = refl
      pinned_not false one two = refl

      three_none : (may one two : Bool) → (((may && not one) && not two) && true) ≡ (may && not (one || (two || false)))
      three_none true true two = refl
      three_none true false true = refl
      three_none true false false = refl
      three_none false one two = refl

-- after settling the map pages alone are loose
pub settled_loose : (map : MapView) (map_pages : List ℕ) (noted : Option (List ℕ)) → (noted ≡ None) ⊎ (noted ≡ Some map_pages) → AreLoose (settled map map_pages) noted
settled_loose map map_pages noted (inl none) = subst (AreLoose (settled map map_pages)) (sym none) tt
settled_loose map map_pages noted (inr all) = subst (AreLoose (settled map map_pages)) (sym all) (λ page low high used.
    let test : ℕ → Bool = λ page. may_be_free page && not (names map.staged page || (names map_pages page || one_names map.pins page)) in
    let there : page < length map.free = omega (arith, length_where (length map.free) test, high) in
    let none = sym (is_free_where (length map.free) test page there) ∙ used in
    elim (cases_Bool (names map.staged page)) [
      | inl staged ↦ inl staged
      | inr unstaged ↦
          elim (or_cases (names map.staged page) _ (named_by (may_be_free page) _ (le-leb 4 page low) none)) [
            | inl staged ↦ inl staged
            | inr rest ↦ elim (or_cases (names map_pages page) _ rest) [ inl of_map ↦ inr (inl of_map) | inr pinned ↦ inr (inr (pinned, unstaged)) ]
          ]
    ])
  where
    named_by : (may named : Bool) → may ≡ true → (may && not named) ≡ false → named ≡ true
    named_by may true m is = refl
    named_by may false m is = absurd (both_ways true (sym (λ i. m i && true) ∙ is) refl)

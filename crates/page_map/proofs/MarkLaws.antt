-- Marks at the pages that a list names, as a page is staged in place of another.
use Rattle.std.proofs.Common.{◌≡◌, ◌≢◌, ℕ, zero, suc, ◌<◌, ◌≤◌, Bool, true, false, not, ◌&&◌, ◌||◌, List, [], ◌∷◌, length, replicate, get_or, set, refl, sym, ap, subst, ◌∙◌, arith, get_or-set_same, get_or-set_other, length-set, inl, inr}
use Rattle.std.specs.Prelude.{◌==◌}
use Rattle.std.proofs.lemmas.List.{get_or-replicate, get_or_past, length-replicate}
use Rattle.std.proofs.lemmas.Bool.{cases_eq, cases_lt, cases_Bool, or_cases, eqb-true, eq-eqb, ne_eqb, both_ways}
use Rattle.page_map.specs.Pages.{is_free, names, no_pages}
use Rattle.page_map.specs.inside.Marked.{AreRight, MovesMark}
use Rattle.page_map.proofs.MapLaws.{names_no_pages, names_set}
use Rattle.page_map.proofs.LooseLaws.{names_kept, names_put, named_at}

-- the place of a page that a list names
place_of : (list : List ℕ) (page : ℕ) → names list page ≡ true → (place : ℕ) × (place < length list) × (get_or list place 0 ≡ page)
unfolding names
place_of [] page is = absurd (cc)
place_of (x ∷ xs) page is =
    elim (or_cases (x == page) (names xs page) is) [
      | inl this ↦ (zero, omega arith, eqb-true x page this)
      | inr rest ↦ let at = place_of xs page rest in (suc at.0, omega (arith, at.1), at.2)
    ]

pub fresh_right : (logical pages : ℕ) → AreRight (replicate pages false) (no_pages logical)
fresh_right logical pages = record {
  marked = λ page low. unmarked page (replicate pages false) (λ below. get_or-replicate pages page false false (omega (arith, length-replicate {A = Bool} pages false, below))) ∙ sym (names_no_pages logical page low);
  apart = λ one other below below_other some same.
      let none : get_or (no_pages logical) one 0 ≡ 0 = get_or-replicate logical one 0 0 (omega (arith, length-replicate {A = ℕ} logical 0, below)) in
      absurd (omega (arith, none, some));
}
  where
    unmarked : (page : ℕ) (marks : List Bool) → (page < length marks → is_free marks page ≡ false) → is_free marks page ≡ false
    unmarked page marks each = elim (cases_lt page (length marks)) [ inl below ↦ each below | inr past ↦ get_or_past marks page false past ]

-- the marks are right still where one was moved to a page that had none
module _ (marks now : List Bool) (list : List ℕ) (place number : ℕ) (right : AreRight marks list) (there : place < length list)
    (moves : MovesMark marks now (get_or list place 0) number true) where
  abbrev old : ℕ
  old = get_or list place 0

  -- a page that is named elsewhere isn't the one that was staged here
  not_old : (page other : ℕ) → 1 ≤ page → other < length list → other ≢ place → get_or list other 0 ≡ page → page ≢ old
  not_old page other low below apart is same = apart (right.apart other place below there (omega (arith, is, low)) (is ∙ same))

  names_now : (page : ℕ) → 1 ≤ page → names (set list place number) page ≡ ((names list page && not (old == page)) || (number == page))
  names_now page low = elim (cases_eq number page) [
    | inl this ↦ rw (eq-eqb number page this) (subst (λ (p : ℕ). names (set list place number) p ≡ true) this (names_put list place number there) ∙ sym (or_true (names list page && not (old == page))))
    | inr other ↦ rw (ne_eqb number page other) (elim (cases_Bool (names (set list place number) page)) [
      | inl is ↦
          let at = place_of (set list place number) page is in
          let elsewhere : at.0 ≢ place = λ e. other (sym (get_or-set_same list place number 0 there) ∙ (ap (λ (k : ℕ). get_or (set list place number) k 0) (sym e) ∙ at.2)) in
          let stands : get_or list at.0 0 ≡ page = sym (get_or-set_other list place at.0 number 0 elsewhere) ∙ at.2 in
          let below : at.0 < length list = omega (arith, length-set list place number, at.1) in
          let was : names list page ≡ true = elim (names_set list place number page is) [ inl this ↦ absurd (other this) | inr was ↦ was ] in
          is ∙ sym (rw (was, ne_eqb old page (λ e. not_old page at.0 low below elsewhere stands (sym e))) refl)
      | inr isnt ↦ elim (cases_Bool (names list page)) [
        | inl was ↦ elim (names_kept list place number page was) [
          | inl gone ↦ isnt ∙ sym (rw (was, eq-eqb old page gone) refl)
          | inr still ↦ absurd (both_ways _ isnt still)
        ]
        | inr never ↦ isnt ∙ sym (rw never refl)
      ]
    ])
  ]
    where
      or_true : (b : Bool) → (b || true) ≡ true
      or_true true = refl
      or_true false = refl

  pub moved_right : AreRight now (set list place number)
  moved_right = record {
    marked = λ page low. moves.moved refl page low ∙ ap (λ (b : Bool). (b && not (old == page)) || (number == page)) (right.marked page low) ∙ sym (names_now page low);
    apart = λ one other below below_other some same.
        let count = length-set list place number in
        elim (cases_eq one place) [
          | inl here ↦ elim (cases_eq other place) [
            | inl too ↦ here ∙ sym too
            | inr elsewhere ↦ absurd (twice other (omega (arith, count, below_other)) elsewhere (number_is one here) (sym (number_is one here) ∙ same) some)
          ]
          | inr elsewhere ↦ elim (cases_eq other place) [
            | inl too ↦ absurd (twice one (omega (arith, count, below)) elsewhere (number_is other too) (sym (number_is other too) ∙ sym same) (omega (arith, same, some)))
            | inr apart_too ↦
                let a = get_or-set_other list place one number 0 elsewhere in
                let b = get_or-set_other list place other number 0 apart_too in
                right.apart one other (omega (arith, count, below)) (omega (arith, count, below_other)) (omega (arith, a, some)) (sym a ∙ same ∙ b)
          ]
        ];
  }
    where
      number_is : (at : ℕ) → at ≡ place → get_or (set list place number) at 0 ≡ number
      number_is at here = ap (λ (k : ℕ). get_or (set list place number) k 0) here ∙ get_or-set_same list place number 0 there

      -- a page that had no mark isn't staged elsewhere
      twice : {value : ℕ} (other : ℕ) → other < length list → other ≢ place → value ≡ number → number ≡ get_or (set list place number) other 0 → 1 ≤ value → ⊥
      twice other below elsewhere is same some =
          let stands : get_or list other 0 ≡ number = sym (get_or-set_other list place other number 0 elsewhere) ∙ sym same in
          let low : 1 ≤ number = omega (arith, is, some) in
          let named : names list number ≡ true = named_at list other number below stands in
          let marked : is_free marks number ≡ true = right.marked number low ∙ named in
          not_old number other low below elsewhere stands (sym (moves.free refl low marked))

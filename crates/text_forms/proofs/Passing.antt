-- The fields that a loop passed, and those that are left.
use Rattle.std.proofs.Common.{◌≡◌, ℕ, suc, ◌+◌, ◌-◌, ◌≤◌, ◌<◌, ◌==◌, Bool, true, false, not, if◌then◌else◌, List, [], ◌∷◌, ◌++◌, length, drop, get_or, refl}
use Rattle.std.proofs.Common.{sym, ap, ◌∙◌, append_assoc, append-nil, arith, length-append, add-one, drop-cons, Option, Some, None}
use Rattle.std.proofs.lemmas.Bool.Decides.{nat_tests}
use Rattle.std.proofs.lemmas.List.{drop_all}
use Rattle.text_forms.specs.declared.forms.Form.{Form}
use Rattle.text_forms.specs.declared.forms.Place.{Place}
use Rattle.text_forms.specs.declared.forms.Rows.{Rows}
use Rattle.text_forms.specs.Forms.{forms_of, forms_from, form_here, form_in, rows_of, one_more, located_in}
use Rattle.text_forms.specs.Steps.{behind_first, is_field}
use Rattle.text_forms.specs.inside.Steps.{next_place}
use Rattle.text_forms.proofs.Places.{rows_of-last, counted, place_in, place-last, with_rows, located_by}

-- the first field begins after the bracket, each further one after a semicolon
pub forms-first : (text : List ℕ) → forms_of text ≡ forms_from true (behind_first 40 text)
unfolding forms_of forms_from behind_first
forms-first [] = refl
forms-first (b ∷ bs) = elim (b == 40) as (λ x. (if x then forms_from true bs else forms_of bs) ≡ forms_from true (if x then bs else behind_first 40 bs))
    [ true ↦ refl | false ↦ forms-first bs ]

pub forms-further : (bytes : List ℕ) → forms_from false bytes ≡ forms_from true (behind_first 59 bytes)
unfolding forms_from behind_first
forms-further [] = refl
forms-further (b ∷ bs) = elim (b == 59) as (λ x. forms_from x bs ≡ forms_from true (if x then bs else behind_first 59 bs))
    [ true ↦ refl | false ↦ forms-further bs ]

pub no_field : (bytes : List ℕ) → is_field bytes ≡ false → forms_from true bytes ≡ []
unfolding forms_from
no_field [] h = refl
no_field (b ∷ bs) h = elim (b == 41) as (λ x. not x ≡ false → (if x then [] else form_here (b ∷ bs) ∷ forms_from (b == 59) bs) ≡ [])
    [ true ↦ λ _. refl | false ↦ λ no. absurd (cc) ] h

pub a_field : (bytes : List ℕ) → is_field bytes ≡ true → forms_from true bytes ≡ form_here bytes ∷ forms_from true (behind_first 59 bytes)
unfolding forms_from
a_field [] h = absurd (cc)
a_field (b ∷ bs) h =
    (elim (b == 41) as (λ x. not x ≡ true → (if x then [] else form_here (b ∷ bs) ∷ forms_from (b == 59) bs) ≡ form_here (b ∷ bs) ∷ forms_from (b == 59) bs)
    [ true ↦ λ no. absurd (cc) | false ↦ λ _. refl ] h)
    ∙ ap (λ l. form_here (b ∷ bs) ∷ l) (forms-further (b ∷ bs))

behind-this : (mark b : ℕ) (bs : List ℕ) → b ≡ mark → behind_first mark (b ∷ bs) ≡ bs
unfolding behind_first
behind-this mark b bs same = grind (arith, nat_tests)

behind-other : (mark b : ℕ) (bs : List ℕ) → (b ≡ mark → ⊥) → behind_first mark (b ∷ bs) ≡ behind_first mark bs
unfolding behind_first
behind-other mark b bs other = grind (arith, nat_tests)

pub from_place : (place : ℕ) (bytes : List ℕ) → place < length bytes → drop place bytes ≡ get_or bytes place 0 ∷ drop (place + 1) bytes
from_place place bytes inside = rw (add-one, drop-cons bytes place 0) refl

-- the byte at a place isn't the mark
pub passed_byte : (mark place byte : ℕ) (bytes : List ℕ) → place < length bytes → byte ≡ get_or bytes place 0 → (byte ≡ mark → ⊥)
    → behind_first mark (drop (place + 1) bytes) ≡ behind_first mark (drop place bytes)
passed_byte mark place byte bytes inside is other =
    sym (ap (behind_first mark) (from_place place bytes inside) ∙ behind-other mark (get_or bytes place 0) (drop (place + 1) bytes) (λ e. other (is ∙ e)))

-- it is the mark
pub at_byte : (mark place byte : ℕ) (bytes : List ℕ) → place < length bytes → byte ≡ get_or bytes place 0 → byte ≡ mark
    → drop (place + 1) bytes ≡ behind_first mark (drop place bytes)
at_byte mark place byte bytes inside is same =
    sym (ap (behind_first mark) (from_place place bytes inside) ∙ behind-this mark (get_or bytes place 0) (drop (place + 1) bytes) (sym is ∙ same))

pub none_behind : (mark place : ℕ) (bytes : List ℕ) → length bytes ≤ place → behind_first mark (drop place bytes) ≡ []
unfolding behind_first
none_behind mark place bytes all = ap (behind_first mark) (drop_all place bytes all)

few-from : (begun : Bool) (bytes : List ℕ) → length (forms_from begun bytes) ≤ length bytes
unfolding forms_from
few-from begun [] = omega arith
few-from false (b ∷ bs) = let more = few-from (b == 59) bs in omega arith
few-from true (b ∷ bs) =
    let more = few-from (b == 59) bs in
    elim (b == 41) as (λ x. length (if x then [] else form_here (b ∷ bs) ∷ forms_from (b == 59) bs) ≤ suc (length bs))
    [ true ↦ omega arith | false ↦ omega arith ]

-- a text tells of no more places than it has bytes
pub few : (text : List ℕ) → length (forms_of text) ≤ length text
unfolding forms_of
few [] = omega arith
few (b ∷ bs) =
    let begun = few-from true bs in
    let more = few bs in
    elim (b == 40) as (λ x. length (if x then forms_from true bs else forms_of bs) ≤ suc (length bs)) [ true ↦ omega arith | false ↦ omega arith ]

-- What is known before each field: the forms of those that were passed, and how many lie in each row.
pub record Passed (text : List ℕ) (rows : Rows) (rest : List ℕ) : Type 0 where
  pub forms : List Form
  pub whole : forms_of text ≡ forms ++ forms_from true rest
  pub counts : rows ≡ rows_of forms
  pub within : length forms + length rest ≤ length text

pub none_passed : (text rest : List ℕ) → rest ≡ behind_first 40 text → length rest ≤ length text - 1 → Passed text (record { refs = 0; nums = 0 }) rest
unfolding rows_of
none_passed text rest is shorter = record {
  forms = [];
  whole = forms-first text ∙ ap (forms_from true) (sym is);
  counts = refl;
  within = omega arith;
}

some_byte : (rest : List ℕ) → is_field rest ≡ true → 1 ≤ length rest
some_byte [] h = absurd (cc)
some_byte (b ∷ bs) h = omega arith

pub one_passed : (text : List ℕ) (form : Form) (rows new : Rows) (rest further : List ℕ) → (p : Passed text rows rest) → is_field rest ≡ true
    → form ≡ form_here rest → new ≡ one_more form rows
    → further ≡ behind_first 59 rest → length further ≤ length rest - 1 → Passed text new further
one_passed text form rows new rest further p field here more is shorter =
    let some = some_byte rest field in
    let left : forms_from true rest ≡ form ∷ forms_from true further = a_field rest field ∙ ap (λ f. f ∷ forms_from true (behind_first 59 rest)) (sym here)
    ∙ ap (λ l. form ∷ forms_from true l) (sym is) in
    record {
      forms = p.forms ++ form ∷ [];
      whole = p.whole ∙ ap (λ l. p.forms ++ l) left ∙ sym (append_assoc p.forms (form ∷ []) (forms_from true further));
      counts = more ∙ ap (one_more form) p.counts ∙ sym (rows_of-last p.forms form);
      within = omega (arith, length-append p.forms (form ∷ []));
    }

pub room_left : (text : List ℕ) (rows : Rows) (rest : List ℕ) → Passed text rows rest → is_field rest ≡ true → rows.refs + rows.nums + 1 ≤ length text
room_left text rows rest p field =
    let some = some_byte rest field in
    omega (arith, counted p.forms, ap (λ (r : Rows). r.refs + r.nums) p.counts)

pub all_passed : (text : List ℕ) (rows : Rows) (rest : List ℕ) → (p : Passed text rows rest) → is_field rest ≡ false → forms_of text ≡ p.forms
all_passed text rows rest p none = p.whole ∙ ap (λ l. p.forms ++ l) (no_field rest none) ∙ append-nil p.forms

pub all_counted : (text : List ℕ) (rows : Rows) (rest : List ℕ) → Passed text rows rest → is_field rest ≡ false → rows ≡ rows_of (forms_of text)
all_counted text rows rest p none = p.counts ∙ sym (ap rows_of (all_passed text rows rest p none))

-- Before each field: the place that is looked for, if it is among those that were passed.
pub record Sought (text : List ℕ) (rows : Rows) (found : Option Place) (number : ℕ) (rest : List ℕ) : Type 0 where
  pub passed : Passed text rows rest
  pub place : found ≡ place_in passed.forms number

pub none_sought : (text rest : List ℕ) (number : ℕ) → rest ≡ behind_first 40 text → length rest ≤ length text - 1
    → Sought text (record { refs = 0; nums = 0 }) None number rest
unfolding none_passed place_in form_in
none_sought text rest number is shorter = record { passed = none_passed text rest is shorter; place = refl }

pub one_sought : (text : List ℕ) (form : Form) (rows new : Rows) (rest further : List ℕ) (found after : Option Place) (number : ℕ)
    → (s : Sought text rows found number rest) → is_field rest ≡ true → form ≡ form_here rest
    → new ≡ one_more form rows → further ≡ behind_first 59 rest → length further ≤ length rest - 1
    → after ≡ (if rows.refs + rows.nums == number then Some (next_place form rows) else found) → Sought text new after number further
unfolding one_passed
one_sought text form rows new rest further found after number s field here more is shorter tested =
    let p = s.passed in
    let many : rows.refs + rows.nums ≡ length p.forms = ap (λ (r : Rows). r.refs + r.nums) p.counts ∙ sym (counted p.forms) in
    record {
      passed = one_passed text form rows new rest further p field here more is shorter;
      place =
          tested
          ∙ ap (λ k. if k == number then Some (next_place form rows) else found) many
          ∙ ap (λ r. if length p.forms == number then Some (next_place form r) else found) p.counts
          ∙ ap (λ o. if length p.forms == number then Some (next_place form (rows_of p.forms)) else o) s.place
          ∙ sym (place-last p.forms form number);
    }

pub all_sought : (text : List ℕ) (rows : Rows) (rest : List ℕ) (found : Option Place) (number : ℕ) → Sought text rows found number rest
    → is_field rest ≡ false → with_rows rows found ≡ located_in (forms_of text) number
all_sought text rows rest found number s none =
    let p = s.passed in
    ap (λ r. with_rows r found) p.counts ∙ ap (with_rows (rows_of p.forms)) s.place
    ∙ sym (located_by p.forms number) ∙ ap (λ l. located_in l number) (sym (all_passed text rows rest p none))

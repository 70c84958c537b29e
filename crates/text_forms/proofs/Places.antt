-- The places of a list of forms, and of one with one form more.
use Rattle.std.proofs.Common.{◌≡◌, inl, inr, ℕ, zero, suc, ◌+◌, ◌≤◌, ◌<◌, ◌==◌, Bool, true, false, not, if◌then◌else◌, List, [], ◌∷◌, ◌++◌, length, refl, sym}
use Rattle.std.proofs.Common.{ap, ◌∙◌, subst, arith, length-append, Option, Some, None}
use Rattle.std.proofs.lemmas.Bool.{cases_order, eq-eqb}
use Rattle.std.proofs.lemmas.Bool.Decides.{nat_tests}
use Rattle.text_forms.specs.declared.forms.Form.{Form}
use Rattle.text_forms.specs.declared.forms.Form.TheVariants.{Number, Flag, Reference}
use Rattle.text_forms.specs.declared.forms.Place.{Place}
use Rattle.text_forms.specs.declared.forms.Rows.{Rows}
use Rattle.text_forms.specs.declared.forms.Located.{Located}
use Rattle.text_forms.specs.Forms.{form_in, before_in, rows_of, one_more, count_in, is_number_form, is_same_row, located_in, located_as}
use Rattle.text_forms.specs.Places.{IsPlaceIn, AreOnePlace}
use Rattle.text_forms.specs.inside.Steps.{next_place}

one_more-twice : (f g : Form) (rows : Rows) → one_more f (one_more g rows) ≡ one_more g (one_more f rows)
one_more-twice Number Number rows = refl
one_more-twice Number Flag rows = refl
one_more-twice Number Reference rows = refl
one_more-twice Flag Number rows = refl
one_more-twice Flag Flag rows = refl
one_more-twice Flag Reference rows = refl
one_more-twice Reference Number rows = refl
one_more-twice Reference Flag rows = refl
one_more-twice Reference Reference rows = refl

pub rows_of-last : (forms : List Form) (f : Form) → rows_of (forms ++ f ∷ []) ≡ one_more f (rows_of forms)
unfolding rows_of
rows_of-last [] f = refl
rows_of-last (g ∷ forms) f = ap (one_more g) (rows_of-last forms f) ∙ one_more-twice g f (rows_of forms)

-- each place lies in one of the two rows
one_more-counted : (f : Form) (rows : Rows) → (one_more f rows).refs + (one_more f rows).nums ≡ suc (rows.refs + rows.nums)
one_more-counted Number rows = omega arith
one_more-counted Flag rows = omega arith
one_more-counted Reference rows = omega arith

pub counted : (forms : List Form) → length forms ≡ (rows_of forms).refs + (rows_of forms).nums
unfolding rows_of
counted [] = refl
counted (f ∷ forms) = ap suc (counted forms) ∙ sym (one_more-counted f (rows_of forms))

pub count-within : (f : Form) (rows : Rows) → count_in f rows ≤ rows.refs + rows.nums
count-within Number rows = omega arith
count-within Flag rows = omega arith
count-within Reference rows = omega arith

count-more : (f g : Form) (rows : Rows) → (if is_same_row f g then 1 else 0) + count_in f rows ≡ count_in f (one_more g rows)
count-more Number Number rows = omega arith
count-more Number Flag rows = omega arith
count-more Number Reference rows = omega arith
count-more Flag Number rows = omega arith
count-more Flag Flag rows = omega arith
count-more Flag Reference rows = omega arith
count-more Reference Number rows = omega arith
count-more Reference Flag rows = omega arith
count-more Reference Reference rows = omega arith

pub before-all : (f : Form) (forms : List Form) (n : ℕ) → length forms ≤ n → before_in f forms n ≡ count_in f (rows_of forms)
unfolding rows_of before_in
before-all Number [] zero all = refl
before-all Flag [] zero all = refl
before-all Reference [] zero all = refl
before-all Number [] (suc n) all = refl
before-all Flag [] (suc n) all = refl
before-all Reference [] (suc n) all = refl
before-all f (g ∷ forms) zero all = absurd (omega arith)
before-all f (g ∷ forms) (suc n) all = ap (λ k. (if is_same_row f g then 1 else 0) + k) (before-all f forms n (omega arith)) ∙ count-more f g (rows_of forms)

before-there : (f g : Form) (forms : List Form) (n : ℕ) → n ≤ length forms → before_in f (forms ++ g ∷ []) n ≡ before_in f forms n
unfolding before_in
before-there f g [] zero there = refl
before-there f g [] (suc n) there = absurd (omega arith)
before-there f g (h ∷ forms) zero there = refl
before-there f g (h ∷ forms) (suc n) there = ap (λ k. (if is_same_row f h then 1 else 0) + k) (before-there f g forms n (omega arith))

form-there : (g : Form) (forms : List Form) (n : ℕ) → n < length forms → form_in (forms ++ g ∷ []) n ≡ form_in forms n
unfolding form_in
form-there g [] n there = absurd (omega arith)
form-there g (h ∷ forms) zero there = refl
form-there g (h ∷ forms) (suc n) there = form-there g forms n (omega arith)

form-last : (g : Form) (forms : List Form) → form_in (forms ++ g ∷ []) (length forms) ≡ Some g
unfolding form_in
form-last g [] = refl
form-last g (h ∷ forms) = form-last g forms

pub form-beyond : (forms : List Form) (n : ℕ) → length forms ≤ n → form_in forms n ≡ None
unfolding form_in
form-beyond [] n beyond = refl
form-beyond (h ∷ forms) zero beyond = absurd (omega arith)
form-beyond (h ∷ forms) (suc n) beyond = form-beyond forms n (omega arith)

-- the place of this number, without the rows
abbrev pub place_as : List Form → ℕ → Option Form → Option Place
place_as forms n None = None
place_as forms n (Some form) = Some (record { form = form; index = before_in form forms n })

unfoldable pub place_in : List Form → ℕ → Option Place
place_in forms n = place_as forms n (form_in forms n)

abbrev pub with_rows : Rows → Option Place → Option Located
with_rows rows None = None
with_rows rows (Some place) = Some (record { place = place; rows = rows })

pub located_by : (forms : List Form) (n : ℕ) → located_in forms n ≡ with_rows (rows_of forms) (place_in forms n)
unfolding located_in place_in
located_by forms n = elim (form_in forms n) as (λ o. located_as forms n o ≡ with_rows (rows_of forms) (place_as forms n o)) [ None ↦ refl | Some f ↦ refl ]

abbrev then_last : ℕ → Form → List Form → Bool → Option Place
then_last n g forms here = if here then Some (next_place g (rows_of forms)) else place_in forms n

pub other_number : (a b : ℕ) → (a ≡ b → ⊥) → (a == b) ≡ false
other_number a b other = grind (arith, nat_tests)

as-there : (forms : List Form) (g : Form) (n : ℕ) (o : Option Form) → n ≤ length forms → place_as (forms ++ g ∷ []) n o ≡ place_as forms n o
as-there forms g n None there = refl
as-there forms g n (Some f) there = ap (λ k. Some (record { form = f; index = k })) (before-there f g forms n there)

place-here : (forms : List Form) (g : Form) (n : ℕ) → length forms ≡ n → place_in (forms ++ g ∷ []) n ≡ Some (next_place g (rows_of forms))
unfolding place_in
place-here forms g n e =
    let found : form_in (forms ++ g ∷ []) n ≡ Some g = subst (λ k. form_in (forms ++ g ∷ []) k ≡ Some g) e (form-last g forms) in
    let before : before_in g (forms ++ g ∷ []) n ≡ count_in g (rows_of forms) = before-there g g forms n (omega arith) ∙ before-all g forms n (omega arith) in
    ap (place_as (forms ++ g ∷ []) n) found ∙ ap (λ k. Some (record { form = g; index = k })) before

place-earlier : (forms : List Form) (g : Form) (n : ℕ) → n < length forms → place_in (forms ++ g ∷ []) n ≡ place_in forms n
unfolding place_in
place-earlier forms g n h = ap (place_as (forms ++ g ∷ []) n) (form-there g forms n h) ∙ as-there forms g n (form_in forms n) (omega arith)

place-beyond : (forms : List Form) (n : ℕ) → length forms ≤ n → place_in forms n ≡ None
unfolding place_in
place-beyond forms n h = ap (place_as forms n) (form-beyond forms n h)

pub place-last : (forms : List Form) (g : Form) (n : ℕ) → place_in (forms ++ g ∷ []) n ≡ then_last n g forms (length forms == n)
place-last forms g n = elim (cases_order (length forms) n) [
  | inl e ↦ place-here forms g n e ∙ sym (ap (then_last n g forms) (eq-eqb (length forms) n e))
  | inr (inl h) ↦
      place-beyond (forms ++ g ∷ []) n (omega (arith, length-append forms (g ∷ [])))
      ∙ sym (ap (then_last n g forms) (other_number (length forms) n (λ e. absurd (omega arith))) ∙ place-beyond forms n (omega arith))
  | inr (inr h) ↦ place-earlier forms g n h ∙ sym (ap (then_last n g forms) (other_number (length forms) n (λ e. absurd (omega arith))))
]

-- whether two places lie in one row
same-row : (f g : Form) → is_number_form f ≡ is_number_form g → is_same_row g f ≡ true
same-row Number Number e = refl
same-row Number Flag e = refl
same-row Number Reference e = absurd (cc)
same-row Flag Number e = refl
same-row Flag Flag e = refl
same-row Flag Reference e = absurd (cc)
same-row Reference Number e = absurd (cc)
same-row Reference Flag e = absurd (cc)
same-row Reference Reference e = refl

before-row : (f g : Form) (forms : List Form) (n : ℕ) → is_number_form f ≡ is_number_form g → before_in f forms n ≡ before_in g forms n
unfolding before_in
before-row f g [] zero e = refl
before-row f g [] (suc n) e = refl
before-row f g (h ∷ forms) zero e = refl
before-row f g (h ∷ forms) (suc n) e =
    ap (λ x. (if (if x then is_number_form h else not (is_number_form h)) then 1 else 0) + before_in f forms n) e
    ∙ ap (λ k. (if is_same_row g h then 1 else 0) + k) (before-row f g forms n e)

before-more : (f g : Form) (forms : List Form) (a b : ℕ) → form_in forms a ≡ Some f → a < b → is_number_form f ≡ is_number_form g
    → before_in g forms a < before_in g forms b
unfolding before_in form_in
before-more f g [] a b found below e = absurd (cc)
before-more f g (h ∷ forms) zero zero found below e = absurd (omega arith)
before-more f g (h ∷ forms) zero (suc b) found below e =
    let it : h ≡ f = cc in
    let same : is_same_row g h ≡ true = ap (is_same_row g) it ∙ same-row f g e in
    subst (λ x. 0 < (if x then 1 else 0) + before_in g forms b) (sym same) (omega arith)
before-more f g (h ∷ forms) (suc a) zero found below e = absurd (omega arith)
before-more f g (h ∷ forms) (suc a) (suc b) found below e = let more = before-more f g forms a b found (omega arith) e in omega arith

count-itself : (f : Form) (rows : Rows) → 0 < count_in f (one_more f rows)
count-itself Number rows = omega arith
count-itself Flag rows = omega arith
count-itself Reference rows = omega arith

before-within : (f : Form) (forms : List Form) (n : ℕ) → form_in forms n ≡ Some f → before_in f forms n < count_in f (rows_of forms)
unfolding before_in form_in rows_of
before-within f [] n found = absurd (cc)
before-within f (h ∷ forms) zero found = let it : f ≡ h = cc in subst (λ k. 0 < count_in f (one_more k (rows_of forms))) it (count-itself f (rows_of forms))
before-within f (h ∷ forms) (suc n) found = let more = before-within f forms n found in omega (arith, count-more f h (rows_of forms))

form-inside : (forms : List Form) (n : ℕ) (f : Form) → form_in forms n ≡ Some f → n < length forms
unfolding form_in
form-inside [] n f found = absurd (cc)
form-inside (h ∷ forms) zero f found = omega arith
form-inside (h ∷ forms) (suc n) f found = let more = form-inside forms n f found in omega arith

abbrev place_of : List Form → ℕ → Form → Located
place_of forms n f = record { place = record { form = f; index = before_in f forms n }; rows = rows_of forms }

place-of-within : (forms : List Form) (n : ℕ) (f : Form) → form_in forms n ≡ Some f → IsPlaceIn forms n (place_of forms n f)
place-of-within forms n f found = record { inside = form-inside forms n f found; form = found; rows = refl; index = before-within f forms n found }

is_place : (forms : List Form) (n : ℕ) (located : Located) (o : Option Form) → form_in forms n ≡ o → located_as forms n o ≡ Some located
    → (f : Form) × (form_in forms n ≡ Some f) × (place_of forms n f ≡ located)
is_place forms n located None found is = absurd (cc)
is_place forms n located (Some f) found is = (f, found, cc)

pub place-within : (forms : List Form) (n : ℕ) (located : Located) → located_in forms n ≡ Some located → IsPlaceIn forms n located
unfolding located_in
place-within forms n located is =
    let told = is_place forms n located (form_in forms n) refl is in
    subst (IsPlaceIn forms n) told.2 (place-of-within forms n told.0 told.1)

none-beyond : (forms : List Form) (n : ℕ) → form_in forms n ≡ None → length forms ≤ n
unfolding form_in
none-beyond [] n none = omega arith
none-beyond (h ∷ forms) zero none = absurd (cc)
none-beyond (h ∷ forms) (suc n) none = let more = none-beyond forms n none in omega arith

located-none : (forms : List Form) (n : ℕ) (o : Option Form) → form_in forms n ≡ o → located_as forms n o ≡ None → length forms ≤ n
located-none forms n None found is = none-beyond forms n found
located-none forms n (Some f) found is = absurd (cc)

pub located-beyond : (forms : List Form) (n : ℕ) → (located_in forms n ≡ None → length forms ≤ n) × (length forms ≤ n → located_in forms n ≡ None)
unfolding located_in
located-beyond forms n = (located-none forms n (form_in forms n) refl, λ h. ap (located_as forms n) (form-beyond forms n h))

pub places-apart : (forms : List Form) (a b : ℕ) (x y : Located) → located_in forms a ≡ Some x → located_in forms b ≡ Some y → AreOnePlace x.place y.place
    → a ≡ b
unfolding located_in
places-apart forms a b x y isx isy one =
    let tx = is_place forms a x (form_in forms a) refl isx in
    let ty = is_place forms b y (form_in forms b) refl isy in
    let fx : x.place.form ≡ tx.0 = sym (ap (λ (l : Located). l.place.form) tx.2) in
    let fy : y.place.form ≡ ty.0 = sym (ap (λ (l : Located). l.place.form) ty.2) in
    let ix : x.place.index ≡ before_in tx.0 forms a = sym (ap (λ (l : Located). l.place.index) tx.2) in
    let iy : y.place.index ≡ before_in ty.0 forms b = sym (ap (λ (l : Located). l.place.index) ty.2) in
    let both : is_number_form tx.0 ≡ is_number_form ty.0 = ap is_number_form (sym fx) ∙ one.row ∙ ap is_number_form fy in
    let equal : before_in ty.0 forms a ≡ before_in ty.0 forms b = sym (before-row tx.0 ty.0 forms a both) ∙ sym ix ∙ one.index ∙ iy in
    elim (cases_order a b) [
      | inl e ↦ e
      | inr (inl h) ↦ absurd (let more = before-more tx.0 ty.0 forms a b tx.1 h both in omega arith)
      | inr (inr h) ↦ absurd (let more = before-more ty.0 ty.0 forms b a ty.1 h refl in omega arith)
    ]

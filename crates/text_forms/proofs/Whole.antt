-- Whole texts: of a vector's type, of a class or of a scope; and the forms of their places.
use Rattle.std.proofs.Common.{◌≡◌, ◌↔◌, ℕ, ◌==◌, Bool, true, false, if◌then◌else◌, List, [], ◌∷◌, ◌++◌, length, map, IsTrue, refl, sym, ap, ◌∙◌, subst}
use Rattle.std.proofs.Common.{append-nil, Option, Some, None, MatchOption}
use Rattle.std.specs.Prelude.{codes, slice_index}
use Rattle.std.specs.Char.{is_ascii_alphabetic}
use Rattle.std.specs.List.{AllByRecursion}
use Rattle.std.proofs.lemmas.Bool.{eqb-true, eqb-false, eq-eqb}
use Rattle.std.proofs.lemmas.List.{nil_from_length}
use Rattle.ps_type_text.specs.Texts.{type_text, Field, fields_text, is_name_byte, IsName}
use Rattle.text_forms.specs.declared.forms.Form.{Form}
use Rattle.text_forms.specs.declared.forms.Located.{Located}
use Rattle.text_forms.specs.Forms.{forms_of, form_in, located_in, element_of}
use Rattle.text_forms.specs.Classes.{form_of_field}
use Rattle.text_forms.specs.Strict.{deepest, IsProperField, IsClassText, IsVectorText, IsFormAt, of_field, of_element}
use Rattle.text_forms.specs.inside.Reading.{IsOnly, BeginsType, BeginsName, AreFields}
use Rattle.text_forms.proofs.Places.{place-within, located-beyond, form-beyond}
use Rattle.text_forms.proofs.ClassForms.{class-told, element-told}
use Rattle.text_forms.proofs.Reading.{NoWord, NoType, behind}

vector-typed : (text element : List ℕ) → text ≡ 42 ∷ element → (v : IsVectorText text) → BeginsType deepest element []
vector-typed text element is v = record { ty = v.element; valued = v.valued; spelled = ap behind (sym is ∙ v.spelled) ∙ sym (append-nil (type_text v.element)) }

pub vector-untyped : (text element : List ℕ) → text ≡ 42 ∷ element → NoType deepest element → IsVectorText text → ⊥
vector-untyped text element is untyped v = untyped [] (vector-typed text element is v)

pub vector-told : (text element rest : List ℕ) (r : Bool) → text ≡ 42 ∷ element → IsOnly (BeginsType deepest element) rest → r ≡ (length rest == 0)
    → IsTrue r ↔ IsVectorText text
vector-told text element rest r is o tested = (
  λ told.
      let empty : rest ≡ [] = nil_from_length rest (eqb-true (length rest) 0 (sym tested ∙ told)) in
      record {
        element = o.left.ty;
        valued = o.left.valued;
        spelled = is ∙ ap (λ l. 42 ∷ l) (o.left.spelled ∙ ap (λ l. type_text o.left.ty ++ l) empty ∙ append-nil (type_text o.left.ty));
      },
  λ v. tested ∙ eq-eqb (length rest) 0 (ap length (sym (o.only [] (vector-typed text element is v)))),
)

class-named : (text : List ℕ) → (c : IsClassText text) → BeginsName text (40 ∷ (fields_text c.fields ++ codes ")"))
unfolding is_name_byte
class-named text c = record { name = c.name; proper = c.proper; ends = refl; spelled = c.spelled }

pub class-unnamed : (text : List ℕ) → ((rest : List ℕ) → BeginsName text rest → ⊥) → IsClassText text → ⊥
class-unnamed text unnamed c = unnamed (40 ∷ (fields_text c.fields ++ codes ")")) (class-named text c)

pub class-unbracketed : (text rest : List ℕ) → IsOnly (BeginsName text) rest → NoWord (codes "(") rest → IsClassText text → ⊥
class-unbracketed text rest o lacking c = lacking (fields_text c.fields ++ codes ")")
    (record { spelled = sym (o.only (40 ∷ (fields_text c.fields ++ codes ")")) (class-named text c)) })

pub class-fields : (text rest fields : List ℕ) → IsOnly (BeginsName text) rest → rest ≡ 40 ∷ fields → AreFields deepest fields ↔ IsClassText text
class-fields text rest fields o is = (
  λ f. record {
    name = o.left.name;
    fields = f.fields;
    proper = o.left.proper;
    each = f.proper;
    spelled = o.left.spelled
        ∙ ap (λ l. o.left.name ++ l) (is ∙ ap (λ l. 40 ∷ l) f.spelled);
  },
  λ c. record {
    fields = c.fields;
    proper = c.each;
    spelled =
        ap behind (sym is ∙ sym (o.only (40 ∷ (fields_text c.fields ++ codes ")")) (class-named text c)));
  },
)

proper_names : (depth : ℕ) (fields : List Field) → AllByRecursion (IsProperField depth) fields → AllByRecursion (λ f. IsName f.name) fields
proper_names depth [] each = tt
proper_names depth (f ∷ fields) each = (each.0.name.bytes, proper_names depth fields each.1)

class-forms : (text : List ℕ) → (c : IsClassText text) → forms_of text ≡ map form_of_field c.fields
class-forms text c = ap forms_of c.spelled ∙ class-told c.name c.fields (record { class = c.proper.bytes; each = proper_names deepest c.fields c.each })

-- a class's text begins with a letter, a vector's with a star
letter-no_star : (name rest element : List ℕ) → is_ascii_alphabetic (slice_index name 0) ≡ true → name ++ (40 ∷ rest) ≡ 42 ∷ element → ⊥
letter-no_star [] rest element letter e = cc
letter-no_star (b ∷ name) rest element letter e = let bad : true ≡ false = sym letter ∙ ap (λ l. is_ascii_alphabetic (slice_index l 0)) e in cc

pub class-no_vector : (text : List ℕ) → IsClassText text → IsVectorText text → ⊥
class-no_vector text c v = letter-no_star c.name (fields_text c.fields ++ codes ")") (type_text v.element) c.proper.letter (sym c.spelled ∙ v.spelled)

pub field-found : (text : List ℕ) (number : ℕ) (located : Located) → IsClassText text → Some located ≡ located_in (forms_of text) number
    → IsFormAt text number located.place.form
field-found text number located c is =
    of_field c (ap (λ forms. form_in forms number) (sym (class-forms text c)) ∙ (place-within (forms_of text) number located (sym is)).form)

pub field-missed : (text : List ℕ) (number : ℕ) → IsClassText text → None ≡ located_in (forms_of text) number → (form : Form) → IsFormAt text number form → ⊥
field-missed text number c is form (of_field d found) =
    let missed : form_in (forms_of text) number ≡ None = form-beyond (forms_of text) number ((located-beyond (forms_of text) number).0 (sym is)) in
    let bad : None ≡ Some form = sym missed ∙ ap (λ forms. form_in forms number) (class-forms text d) ∙ found in
    cc
field-missed text number c is form (of_element v zeroth holds) = class-no_vector text c v

pub neither : (text : List ℕ) (number : ℕ) → (IsClassText text → ⊥) → (IsVectorText text → ⊥) → (form : Form) → IsFormAt text number form → ⊥
neither text number class vector form (of_field c found) = class c
neither text number class vector form (of_element v zeroth holds) = vector v

pub element-found : (text : List ℕ) (number : ℕ) → IsVectorText text → number ≡ 0 → IsFormAt text number (element_of text)
element-found text number v zeroth = of_element v zeroth (ap element_of v.spelled ∙ element-told v.element)

pub element-missed : (text : List ℕ) (number : ℕ) → IsVectorText text → (number ≡ 0 → ⊥) → (form : Form) → IsFormAt text number form → ⊥
element-missed text number v other form (of_field c found) = class-no_vector text c v
element-missed text number v other form (of_element w zeroth holds) = other zeroth

by-number : (text : List ℕ) (number : ℕ) → IsVectorText text → (x : Bool) → (number == 0) ≡ x
    → MatchOption (if x then Some (element_of text) else None) ((form : Form) → IsFormAt text number form → ⊥) (IsFormAt text number)
by-number text number v true h = element-found text number v (eqb-true number 0 h)
by-number text number v false h = element-missed text number v (eqb-false number 0 h)

-- what is answered of the elements
pub element-told-at : (text : List ℕ) (number : ℕ) (r : Option Form) → IsVectorText text → r ≡ (if number == 0 then Some (element_of text) else None)
    → MatchOption r ((form : Form) → IsFormAt text number form → ⊥) (IsFormAt text number)
element-told-at text number r v is = subst (λ o. MatchOption o ((form : Form) → IsFormAt text number form → ⊥) (IsFormAt text number)) (sym is)
    (by-number text number v (number == 0) refl)

pub not-located : (text : List ℕ) (number : ℕ) (r : Option Form) → r ≡ None → ((form : Form) → IsFormAt text number form → ⊥)
    → MatchOption r ((form : Form) → IsFormAt text number form → ⊥) (IsFormAt text number)
not-located text number r is h = subst (λ o. MatchOption o ((form : Form) → IsFormAt text number form → ⊥) (IsFormAt text number)) (sym is) h

held-by-class : (text : List ℕ) (number : ℕ) (form : Form) → IsClassText text → IsFormAt text number form → form_in (forms_of text) number ≡ Some form
held-by-class text number form c (of_field d found) = ap (λ forms. form_in forms number) (class-forms text d) ∙ found
held-by-class text number form c (of_element v zeroth holds) = absurd (class-no_vector text c v)

pub class-holds : (text : List ℕ) (number : ℕ) (form : Form) → IsClassText text → IsFormAt text number form ↔ (form_in (forms_of text) number ≡ Some form)
class-holds text number form c = (held-by-class text number form c, λ found. of_field c (ap (λ forms. form_in forms number) (sym (class-forms text c)) ∙ found))

held-by-vector : (text : List ℕ) (number : ℕ) (form : Form) → IsVectorText text → IsFormAt text number form → (number ≡ 0) × (form ≡ element_of text)
held-by-vector text number form v (of_field c found) = absurd (class-no_vector text c v)
held-by-vector text number form v (of_element w zeroth holds) = (zeroth, holds ∙ sym (ap element_of w.spelled ∙ element-told w.element))

pub vector-holds : (text : List ℕ) (number : ℕ) (form : Form) → IsVectorText text → IsFormAt text number form ↔ ((number ≡ 0) × (form ≡ element_of text))
vector-holds text number form v = (
  held-by-vector text number form v,
  λ told. of_element v told.0 (told.1 ∙ ap element_of v.spelled ∙ element-told v.element),
)

pub one-form : (text : List ℕ) (number : ℕ) (a b : Form) → IsFormAt text number a → IsFormAt text number b → a ≡ b
one-form text number a b (of_field c found) other = let there = held-by-class text number b c other in let here =
    held-by-class text number a c (of_field c found) in cc
one-form text number a b (of_element v zeroth holds) other =
    let there = held-by-vector text number b v other in
    let here = held-by-vector text number a v (of_element v zeroth holds) in
    here.1 ∙ sym there.1

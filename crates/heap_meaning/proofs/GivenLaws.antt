-- A field of a structure that stands for one of the meaning: what is read of it, what is written to it, and that it isn't damaged.
use Rattle.std.proofs.Common.{arith, ◌≡◌, ℕ, suc, ◌+◌, List, [], ◌∷◌, get_or, set, slice_set, refl, sym, ap, ◌∙◌, subst, Option, Some, None, if◌then◌else◌}
use Rattle.proc_values.specs.obj_layout.declared.kind.Kind.TheVariants as kind
use Rattle.proc_values.specs.swizzle.Heap.{Heap, IsHeap, IsHeld, reference_to}
use Rattle.proc_values.specs.swizzle.Joint.{Shown, Joint, shown_at, name_at, name_of}
use Rattle.proc_values.specs.swizzle.Changes.{ChangedAt}
use Rattle.proc_values.proofs.of_swizzle.JointLaws.{joint-num, joint-ref}
use Rattle.proc_values.specs.text_forms.declared.forms.Form.{Form}
use Rattle.proc_values.specs.text_forms.declared.forms.Form.TheVariants as form
use Rattle.proc_values.specs.text_forms.declared.forms.Located.{Located}
use Rattle.proc_values.specs.text_forms.Forms.{forms_of, form_in, before_in, rows_of, located_in, located_as, is_number_form}
use Rattle.heap_ops.specs.heap_places.Shapes.{word_in}
use Rattle.heap_ops.specs.heap_places.Words.{int_word, flag_word, word_damage}
use Rattle.heap_ops.specs.heap_places.Places as places
use Rattle.heap_ops.specs.heap_places.declared.value.Value as code
use Rattle.heap_ops.specs.heap_places.declared.value.Value.TheVariants as held
use Rattle.heap_ops.specs.Structures.{structure_damage}
use Rattle.proc_values.specs.ps_heap.Values.{Value, Nothing}
use Rattle.heap_meaning.specs.Standing.{Seen, Pairing, StandsFor, IsWordOf, IsStructure}
use Rattle.heap_meaning.specs.Denoting.{IsFor}
use Rattle.heap_meaning.proofs.StandingLaws.{IsNumber, read-word}
use Rattle.heap_meaning.proofs.PlaceLaws.{structure-shape, as-read, word-behind, word-fits}
use Rattle.heap_meaning.proofs.WriteLaws.{as-written_name, as-written_word}

-- What a located place says of the forms.
pub record IsAt (forms : List Form) (n : ℕ) (l : Located) : Type 0 where
  pub form_is : form_in forms n ≡ Some l.place.form
  pub index_is : l.place.index ≡ before_in l.place.form forms n
  pub rows_are : l.rows ≡ rows_of forms

pub located-at : (forms : List Form) (n : ℕ) (l : Located) → located_in forms n ≡ Some l → IsAt forms n l
unfolding located_in
located-at forms n l is = of (form_in forms n) refl is
  where
    of : (f : Option Form) → form_in forms n ≡ f → located_as forms n f ≡ Some l → IsAt forms n l
    of None found e = absurd (cc)
    of (Some f) found e =
        let same : record { place = record { form = f; index = before_in f forms n }; rows = rows_of forms } ≡ l = cc in
        subst (IsAt forms n) same (record { form_is = found; index_is = refl; rows_are = refl })

-- A structure that stands for one isn't damaged.
pub no-damage : (seen : Seen) (pair : Pairing) (it : Shown) (class : List ℕ) (fields : List Value) (n : ℕ) (l : Located) → IsStructure seen pair it class fields → located_in (forms_of class) n ≡ Some l → structure_damage it l.rows ≡ None
no-damage seen pair it class fields n l s is =
    let at = located-at (forms_of class) n l is in
    ap (λ (r : _). structure_damage it r) at.rows_are ∙ structure-shape seen pair it class fields s

-- The value of a field.
pub field-read : (heap : Heap) (seen : Seen) (pair : Pairing) (it : Shown) (class : List ℕ) (fields : List Value) (n : ℕ) (l : Located) (c : code.Value) → IsStructure seen pair it class fields
    → located_in (forms_of class) n ≡ Some l → places.Holds heap it l.place.form (suc l.place.index) c → IsFor heap seen pair c (get_or fields n Nothing)
field-read heap seen pair it class fields n l c s is h =
    let at = located-at (forms_of class) n l is in
    as-read heap seen pair it kind.Structure class (λ home. home ∷ []) (forms_of class) fields n 1 l.place.form c s refl at.form_is
    (subst (λ (k : ℕ). places.Holds heap it l.place.form k c) (place-is l.place.form (omega (arith, at.index_is))) h)
  where
    place-is : (f : Form) → suc l.place.index ≡ 1 + before_in l.place.form (forms_of class) n → suc l.place.index ≡ (if is_number_form f then 1 + before_in l.place.form (forms_of class) n else 1 + before_in l.place.form (forms_of class) n)
    place-is form.Number e = e
    place-is form.Flag e = e
    place-is form.Reference e = e

-- What a field holds fits its form.
pub field-fits : (seen : Seen) (pair : Pairing) (it : Shown) (class : List ℕ) (fields : List Value) (n : ℕ) (l : Located) → IsStructure seen pair it class fields
    → located_in (forms_of class) n ≡ Some l → word_damage l.place.form (word_in it (suc l.place.index)) ≡ None
unfolding IsNumber word_damage
field-fits seen pair it class fields n l s is = of l.place.form refl
  where
    at : IsAt (forms_of class) n l
    at = located-at (forms_of class) n l is

    word-of : (f : Form) → l.place.form ≡ f → IsNumber f → word_damage f (word_in it (suc l.place.index)) ≡ None
    word-of f same number =
        let w = read-word seen pair f (forms_of class) s.names s.words fields n number s.are (at.form_is ∙ ap Some same) in
        let place : before_in f (forms_of class) n ≡ l.place.index = ap (λ (g : Form). before_in g (forms_of class) n) (sym same) ∙ sym at.index_is in
        let where_is : 1 + before_in f (forms_of class) n ≡ suc l.place.index = omega (arith, place) in
        word-fits (word_in it (suc l.place.index)) f (get_or fields n Nothing)
        (subst (λ (k : ℕ). IsWordOf k f (get_or fields n Nothing)) (word-behind it (s.home ∷ []) s.words 1 (before_in f (forms_of class) n) refl s.nums ∙ ap (word_in it) where_is) w)

    of : (f : Form) → l.place.form ≡ f → word_damage l.place.form (word_in it (suc l.place.index)) ≡ None
    of form.Number same = ap (λ (g : Form). word_damage g (word_in it (suc l.place.index))) same ∙ word-of form.Number same tt
    of form.Flag same = ap (λ (g : Form). word_damage g (word_in it (suc l.place.index))) same ∙ word-of form.Flag same tt
    of form.Reference same = ap (λ (g : Form). word_damage g (word_in it (suc l.place.index))) same

-- What is seen after a value was written to a place.
abbrev pub shown_with : Heap → Shown → ℕ → code.Value → Shown
shown_with heap it index (held.Num z) = record it { nums = slice_set it.nums index (int_word z) }
shown_with heap it index (held.Flag b) = record it { nums = slice_set it.nums index (flag_word b) }
shown_with heap it index (held.Ref to) = record it { refs = set it.refs index (name_of heap (reference_to to)) }

pub joint-value : (heap : Heap) (holds : ℕ → List ℕ → Type 0) (at index : ℕ) (c : code.Value) → IsHeap heap → IsHeld heap at
    → ChangedAt (Joint heap holds) (name_at heap at) (shown_with heap (shown_at heap at) index c) (Joint (places.with_value heap at index c) holds)
joint-value heap holds at index (held.Num z) h is = joint-num heap holds at index (int_word z) h is
joint-value heap holds at index (held.Flag b) h is = joint-num heap holds at index (flag_word b) h is
joint-value heap holds at index (held.Ref to) h is = joint-ref heap holds at index (reference_to to) h is

-- a value in code, stored in a place of a form, stands for a value
abbrev pub IsStored : Heap → Seen → Pairing → Form → code.Value → Value → Type 0
IsStored heap seen pair form.Number (held.Num z) v = IsWordOf (int_word z) form.Number v
IsStored heap seen pair form.Flag (held.Flag b) v = IsWordOf (flag_word b) form.Flag v
IsStored heap seen pair form.Reference (held.Ref to) v = StandsFor seen pair (name_of heap (reference_to to)) v
IsStored heap seen pair _ _ v = ⊥

-- A field was written.
pub field-written : (heap : Heap) (seen : Seen) (pair : Pairing) (it : Shown) (class : List ℕ) (fields : List Value) (n : ℕ) (l : Located) (c : code.Value) (v : Value) → IsStructure seen pair it class fields
    → located_in (forms_of class) n ≡ Some l → IsStored heap seen pair l.place.form c v → IsStructure seen pair (shown_with heap it (suc l.place.index) c) class (set fields n v)
unfolding IsNumber
field-written heap seen pair it class fields n l c v s is stored = of l.place.form c refl stored
  where
    at : IsAt (forms_of class) n l
    at = located-at (forms_of class) n l is

    place : (f : Form) → l.place.form ≡ f → 1 + before_in f (forms_of class) n ≡ suc l.place.index
    place f same =
        let e : before_in f (forms_of class) n ≡ l.place.index = ap (λ (g : Form). before_in g (forms_of class) n) (sym same) ∙ sym at.index_is in
        omega (arith, e)

    word : (f : Form) (w : ℕ) → l.place.form ≡ f → IsNumber f → IsWordOf w f v → IsStructure seen pair (record it { nums = slice_set it.nums (suc l.place.index) w }) class (set fields n v)
    word f w same number is_word =
        subst (λ (k : ℕ). IsStructure seen pair (record it { nums = slice_set it.nums k w }) class (set fields n v)) (place f same)
        (as-written_word seen pair it kind.Structure class (λ home. home ∷ []) (forms_of class) fields n 1 f w v s refl number (at.form_is ∙ ap Some same) is_word)

    of : (f : Form) (c : code.Value) → l.place.form ≡ f → IsStored heap seen pair f c v → IsStructure seen pair (shown_with heap it (suc l.place.index) c) class (set fields n v)
    of form.Number (held.Num z) same st = word form.Number (int_word z) same tt st
    of form.Flag (held.Flag b) same st = word form.Flag (flag_word b) same tt st
    of form.Reference (held.Ref to) same st =
        subst (λ (k : ℕ). IsStructure seen pair (record it { refs = set it.refs k (name_of heap (reference_to to)) }) class (set fields n v)) (place form.Reference same)
        (as-written_name seen pair it kind.Structure class (λ home. home ∷ []) (forms_of class) fields n (name_of heap (reference_to to)) v s (at.form_is ∙ ap Some same) st)
    of form.Number (held.Flag b) same st = absurd st
    of form.Number (held.Ref to) same st = absurd st
    of form.Flag (held.Num z) same st = absurd st
    of form.Flag (held.Ref to) same st = absurd st
    of form.Reference (held.Num z) same st = absurd st
    of form.Reference (held.Flag b) same st = absurd st

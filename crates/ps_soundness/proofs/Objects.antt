-- What is read of structures and vectors of a typed heap, what is written to them, and which objects are made.
use Rattle.std.proofs.Common.{◌≡◌, ℕ, ◌<◌, ℤ, pos, negsuc, ◌+ℤ◌, ◌-ℤ◌, Bool, true, false, List, length, set, replicate, Option, Some, None, refl, sym, ap, ◌∙◌, subst, length-set, ltb-true}
use Rattle.std.specs.Prelude.{nat_lt, if◌then◌else◌}
use Rattle.std.specs.List.{AllByRecursion}
use Rattle.ps_meaning.specs.ps_base.TyView.{TyView}
use Rattle.ps_meaning.specs.ps_base.TyView as types
use Rattle.ps_meaning.specs.ps_base.declared.trap.Trap.TheVariants.{WrongClass}
use Rattle.ps_type_text.specs.Texts.{type_text}
use Rattle.ps_meaning.specs.ps_typing.Checking.{isnt_void}
use Rattle.ps_meaning.specs.text_forms.Forms.{forms_of, form_in, element_of}
use Rattle.ps_heap.specs.Operators.{is_int}
use Rattle.ps_heap.specs.Texts.{Yields, Fails, is_same_text}
use Rattle.ps_heap.specs.Values.{Value, Nil, Pointer, Vector, Nothing}
use Rattle.ps_heap.specs.Objects.{Heap, Object, Structure, Elements, object_at, with_object, value_at, is_of, fields_in, field_of, with_field, place_from, place_of, is_vector, is_made, vector_of, count_from, filled_vector, low_in, elements_in, type_in, vector_in, found_at, put_at, with_element, low_of, high_of, element_of as element_at}
use Rattle.ps_meaning.specs.Operations.{kept_as}
use Rattle.ps_soundness.specs.Running.{HasField}
use Rattle.ps_soundness.specs.Over.{IsOf, IsTypedStructure, IsTypedVector, IsTypedObject, IsTypedHeap}
use Rattle.ps_soundness.specs.Shapes.{IsVectorAt}
use Rattle.ps_soundness.proofs.Notion.{Kind}
use Rattle.ps_soundness.proofs.Telling.{Told}
use Rattle.ps_soundness.proofs.Operators.{OnYield, same_text_is, high_is_int}
use Rattle.ps_soundness.proofs.Growing.{grows_set, typed_set}
use Rattle.ps_soundness.proofs.Fields.{kept_in_vector, typed_field, typed_with_field, kept_in_field, all_at, all_set, all_same}
use Rattle.ps_soundness.proofs.Combining.{IsNext}

-- a field
read_where : (kind : Kind) (told : Told) (heap : Heap) (class text : List ℕ) (n : ℕ) (ty : TyView) (values : List Value) (b : Bool) → is_same_text text class ≡ b →
    HasField class n ty → IsTypedStructure kind.asked heap text values → OnYield (IsOf kind.asked heap ty) (if b then Yields (value_at values n) else Fails WrongClass)
read_where kind told heap class text n ty values true e h s =
    typed_field kind told heap class n ty values h (subst (λ (t : List ℕ). IsTypedStructure kind.asked heap t values) (same_text_is text class e) s)
read_where kind told heap class text n ty values false e h s = tt

read_of : (kind : Kind) (told : Told) (heap : Heap) (class : List ℕ) (n : ℕ) (ty : TyView) (id : ℕ) (found : Option Object) → object_at heap id ≡ found →
    IsTypedHeap kind.asked heap → HasField class n ty → OnYield (IsOf kind.asked heap ty)
    (if is_of found class then Yields (value_at (fields_in found) n) else Fails WrongClass)
read_of kind told heap class n ty id None e typed h = tt
read_of kind told heap class n ty id (Some (Structure text values)) e typed h =
    read_where kind told heap class text n ty values (is_same_text text class) refl h (typed id (Structure text values) e)
read_of kind told heap class n ty id (Some object) e typed h = tt

pub field_yields : (kind : Kind) (told : Told) (heap : Heap) (o : Value) (class : List ℕ) (n : ℕ) (ty : TyView) → IsTypedHeap kind.asked heap → HasField class n ty →
    OnYield (IsOf kind.asked heap ty) (field_of heap o class n)
unfolding field_of
field_yields kind told heap Nil class n ty typed h = tt
field_yields kind told heap (Pointer id) class n ty typed h = read_of kind told heap class n ty id (object_at heap id) refl typed h
field_yields kind told heap v class n ty typed h = tt

-- another value in a field
written_where : (kind : Kind) (told : Told) (heap : Heap) (class text : List ℕ) (n : ℕ) (ty : TyView) (v : Value) (id : ℕ) (values : List Value) (b : Bool) →
    is_same_text text class ≡ b → object_at heap id ≡ Some (Structure text values) → IsTypedHeap kind.asked heap → HasField class n ty → IsOf kind.asked heap ty v →
    OnYield (IsNext kind heap) (if b then Yields (with_object heap id (Structure class (set values n v))) else Fails WrongClass)
written_where kind told heap class text n ty v id values true e at typed h is =
    let same = same_text_is text class e in
    let new = Structure class (set values n v) in
    let old_is = subst (λ (t : List ℕ). IsTypedStructure kind.asked heap t values) same (typed id (Structure text values) at) in (
      grows_set heap id (Structure text values) new at (sym same),
      typed_set kind heap id (Structure text values) new at (sym same) typed (typed_with_field kind told heap class n ty values v h is old_is),
    )
written_where kind told heap class text n ty v id values false e at typed h is = tt

written_of : (kind : Kind) (told : Told) (heap : Heap) (class : List ℕ) (n : ℕ) (ty : TyView) (v : Value) (id : ℕ) (found : Option Object) →
    object_at heap id ≡ found →
    IsTypedHeap kind.asked heap → HasField class n ty → IsOf kind.asked heap ty v →
    OnYield (IsNext kind heap) (if is_of found class then Yields (with_object heap id (Structure class (set (fields_in found) n v))) else Fails WrongClass)
written_of kind told heap class n ty v id None e typed h is = tt
written_of kind told heap class n ty v id (Some (Structure text values)) e typed h is =
    written_where kind told heap class text n ty v id values (is_same_text text class) refl e typed h is
written_of kind told heap class n ty v id (Some object) e typed h is = tt

with_field_yields : (kind : Kind) (told : Told) (heap : Heap) (o : Value) (class : List ℕ) (n : ℕ) (ty : TyView) (v : Value) → IsTypedHeap kind.asked heap →
    HasField class n ty →
    IsOf kind.asked heap ty v → OnYield (IsNext kind heap) (with_field heap o class n v)
unfolding with_field
with_field_yields kind told heap Nil class n ty v typed h is = tt
with_field_yields kind told heap (Pointer id) class n ty v typed h is = written_of kind told heap class n ty v id (object_at heap id) refl typed h is
with_field_yields kind told heap o class n ty v typed h is = tt

pub kept_field_yields : (kind : Kind) (told : Told) (heap : Heap) (o : Value) (class : List ℕ) (n : ℕ) (ty : TyView) (v : Value) → IsTypedHeap kind.asked heap →
    HasField class n ty → IsOf kind.asked heap ty v → OnYield (IsNext kind heap) (with_field heap o class n (kept_as (form_in (forms_of class) n) v))
kept_field_yields kind told heap o class n ty v typed h is =
    subst (λ (w : Value). OnYield (IsNext kind heap) (with_field heap o class n w)) (sym (kept_in_field kind heap class n ty v h is))
    (with_field_yields kind told heap o class n ty v typed h is)

-- an element
abbrev IsBelow : ℕ → Option ℕ → Type 0
IsBelow count None = Unit {0}
IsBelow count (Some n) = n < count

tested_place : (n count : ℕ) (b : Bool) → nat_lt n count ≡ b → IsBelow count (if b then Some n else None)
tested_place n count true e = ltb-true n count e
tested_place n count false e = tt

place_is_below : (count : ℕ) (from : ℤ) → IsBelow count (place_from from count)
place_is_below count (pos n) = tested_place n count (nat_lt n count) refl
place_is_below count (negsuc n) = tt

found_yields : (P : Value → Type 0) (place : Option ℕ) (elements : List Value) → IsBelow (length elements) place → AllByRecursion P elements →
    OnYield P (found_at place elements)
found_yields P None elements below h = tt
found_yields P (Some n) elements below h = all_at P elements n Nothing h below

element_in : TyView → TyView
element_in (types.Vector element) = element
element_in other = other

-- the elements of a vector of a type
elements_are : (kind : Kind) (told : Told) (heap : Heap) (element : TyView) (low : ℤ) (elements : List Value) →
    IsTypedVector kind.asked heap (type_text (types.Vector element)) low elements → AllByRecursion (IsOf kind.asked heap element) elements
unfolding element_in
elements_are kind told heap element low elements h =
    let same = ap element_in (told.types (types.Vector element) (types.Vector h.element) h.text_is) in
    subst (λ (t : TyView). AllByRecursion (IsOf kind.asked heap t) elements) (sym same) h.are

element_nonvoid : (kind : Kind) (told : Told) (heap : Heap) (element : TyView) (low : ℤ) (elements : List Value) →
    IsTypedVector kind.asked heap (type_text (types.Vector element)) low elements → isnt_void element ≡ true
unfolding element_in
element_nonvoid kind told heap element low elements h =
    let same = ap element_in (told.types (types.Vector element) (types.Vector h.element) h.text_is) in
    subst (λ (t : TyView). isnt_void t ≡ true) (sym same) h.nonvoid

typed_at : (kind : Kind) (heap : Heap) (ty : TyView) (id : ℕ) (h : IsVectorAt heap ty id) → IsTypedHeap kind.asked heap → IsTypedVector kind.asked heap (type_text ty) h.low h.elements
typed_at kind heap ty id h typed = typed id (Elements (type_text ty) h.low h.elements) h.is

pub element_yields : (kind : Kind) (told : Told) (heap : Heap) (v : Value) (element : TyView) (at : ℤ) → IsTypedHeap kind.asked heap → IsOf kind.asked heap (types.Vector element) v →
    OnYield (IsOf kind.asked heap element) (element_at heap v at)
unfolding element_at
element_yields kind told heap (Vector id) element at typed h =
    subst (λ (found : Option Object). OnYield (IsOf kind.asked heap element)
    (found_at (place_of (low_in found) (length (elements_in found)) at) (elements_in found)))
    (sym h.is) (found_yields (IsOf kind.asked heap element) (place_of h.low (length h.elements) at) h.elements (place_is_below (length h.elements) (at -ℤ h.low))
    (elements_are kind told heap element h.low h.elements (typed_at kind heap (types.Vector element) id h typed)))
element_yields kind told heap v element at typed h = absurd h

-- another value in a place of a vector
typed_with_element : (kind : Kind) (told : Told) (heap : Heap) (element : TyView) (low : ℤ) (elements : List Value) (n : ℕ) (v : Value) → IsOf kind.asked heap element v →
    IsTypedVector kind.asked heap (type_text (types.Vector element)) low elements → IsTypedVector kind.asked heap (type_text (types.Vector element)) low (set elements n v)
typed_with_element kind told heap element low elements n v is h = record {
  element = element;
  nonvoid = element_nonvoid kind told heap element low elements h;
  text_is = refl;
  low_is = h.low_is;
  fits = ap (is_vector low) (length-set elements n v) ∙ h.fits;
  are = all_set (IsOf kind.asked heap element) elements n v (elements_are kind told heap element low elements h) is;
}

put_yields : (kind : Kind) (told : Told) (heap : Heap) (element : TyView) (id : ℕ) (place : Option ℕ) (v : Value) → IsTypedHeap kind.asked heap →
    IsVectorAt heap (types.Vector element) id → IsOf kind.asked heap element v → OnYield (IsNext kind heap) (put_at heap (Vector id) place v)
put_yields kind told heap element id None v typed h is = tt
put_yields kind told heap element id (Some n) v typed h is =
    let text = type_text (types.Vector element) in
    let old = Elements text h.low h.elements in
    let new = Elements text h.low (set h.elements n v) in
    let typed_new = typed_with_element kind told heap element h.low h.elements n v is (typed_at kind heap (types.Vector element) id h typed) in
    let same = length-set h.elements n v in
    subst (λ (found : Option Object). IsNext kind heap (with_object heap id (Elements (type_in found) (low_in found) (set (elements_in found) n v))))
    (sym h.is)
    (grows_set heap id old new h.is (refl, refl, same), typed_set kind heap id old new h.is (refl, refl, same) typed typed_new)

with_element_yields : (kind : Kind) (told : Told) (heap : Heap) (v : Value) (element : TyView) (at : ℤ) (e : Value) → IsTypedHeap kind.asked heap →
    IsOf kind.asked heap (types.Vector element) v → IsOf kind.asked heap element e → OnYield (IsNext kind heap) (with_element heap v at e)
unfolding with_element
with_element_yields kind told heap (Vector id) element at e typed h is =
    put_yields kind told heap element id (place_of (low_in (object_at heap id)) (length (elements_in (object_at heap id))) at) e typed h is
with_element_yields kind told heap v element at e typed h is = absurd h

kept_in_place : (kind : Kind) (heap : Heap) (v : Value) (element : TyView) (e : Value) → IsOf kind.asked heap (types.Vector element) v → IsOf kind.asked heap element e →
    kept_as (Some (element_of (type_in (vector_in heap v)))) e ≡ e
kept_in_place kind heap (Vector id) element e h is =
    ap (λ (found : Option Object). kept_as (Some (element_of (type_in found))) e) h.is ∙ kept_in_vector kind heap element e is
kept_in_place kind heap v element e h is = absurd h

pub kept_element_yields : (kind : Kind) (told : Told) (heap : Heap) (v : Value) (element : TyView) (at : ℤ) (e : Value) → IsTypedHeap kind.asked heap →
    IsOf kind.asked heap (types.Vector element) v → IsOf kind.asked heap element e →
    OnYield (IsNext kind heap) (with_element heap v at (kept_as (Some (element_of (type_in (vector_in heap v)))) e))
kept_element_yields kind told heap v element at e typed h is =
    subst (λ (w : Value). OnYield (IsNext kind heap) (with_element heap v at w)) (sym (kept_in_place kind heap v element e h is))
    (with_element_yields kind told heap v element at e typed h is)

-- the bounds of a vector
pub low_is_int : (kind : Kind) (heap : Heap) (v : Value) (element : TyView) → IsTypedHeap kind.asked heap → IsOf kind.asked heap (types.Vector element) v → is_int (low_of heap v) ≡ true
unfolding low_of
low_is_int kind heap (Vector id) element typed h =
    ap (λ (found : Option Object). is_int (low_in found)) h.is ∙ (typed_at kind heap (types.Vector element) id h typed).low_is
low_is_int kind heap v element typed h = absurd h

pub high_in_range : (kind : Kind) (heap : Heap) (v : Value) (element : TyView) → IsTypedHeap kind.asked heap → IsOf kind.asked heap (types.Vector element) v →
    is_int (high_of heap v) ≡ true
unfolding high_of low_of
high_in_range kind heap (Vector id) element typed h =
    ap (λ (found : Option Object). is_int (low_in found +ℤ (pos (length (elements_in found)) -ℤ pos 1))) h.is
    ∙ high_is_int h.low (length h.elements) (typed_at kind heap (types.Vector element) id h typed).fits
high_in_range kind heap v element typed h = absurd h

-- a vector that is made
pub record IsNewVector (kind : Kind) (heap : Heap) (element : TyView) (object : Object) : Type 0 where
  pub low : ℤ
  pub elements : List Value
  pub is : object ≡ Elements (type_text (types.Vector element)) low elements
  pub typed : IsTypedObject kind.asked heap object

made_where : (kind : Kind) (heap : Heap) (element : TyView) (low : ℤ) (elements : List Value) (b : Bool) → isnt_void element ≡ true → is_vector low (length elements) ≡ b → is_int low ≡ true →
    AllByRecursion (IsOf kind.asked heap element) elements → OnYield (IsNewVector kind heap element)
    (is_made b (Elements (type_text (types.Vector element)) low elements))
made_where kind heap element low elements true isnt e is are = record {
  low = low;
  elements = elements;
  is = refl;
  typed = record { element = element; nonvoid = isnt; text_is = refl; low_is = is; fits = e; are = are };
}
made_where kind heap element low elements false isnt e is are = tt

pub vector_yields : (kind : Kind) (heap : Heap) (element : TyView) (low : ℤ) (elements : List Value) → isnt_void element ≡ true → is_int low ≡ true →
    AllByRecursion (IsOf kind.asked heap element) elements →
    OnYield (IsNewVector kind heap element) (vector_of (type_text (types.Vector element)) low elements)
unfolding vector_of
vector_yields kind heap element low elements isnt is are = made_where kind heap element low elements (is_vector low (length elements)) isnt refl is are

pub filled_yields : (kind : Kind) (heap : Heap) (element : TyView) (low high : ℤ) (v : Value) → isnt_void element ≡ true → is_int low ≡ true → IsOf kind.asked heap element v →
    OnYield (IsNewVector kind heap element)
    (filled_vector (type_text (types.Vector element)) low high (kept_as (Some (element_of (type_text (types.Vector element)))) v))
unfolding filled_vector
filled_yields kind heap element low high v isnt is of =
    subst (λ (w : Value). OnYield (IsNewVector kind heap element) (vector_of (type_text (types.Vector element)) low
    (replicate (count_from (high -ℤ low)) w)))
    (sym (kept_in_vector kind heap element v of))
    (vector_yields kind heap element low (replicate (count_from (high -ℤ low)) v) isnt is (all_same (IsOf kind.asked heap element) (count_from (high -ℤ low)) v of))

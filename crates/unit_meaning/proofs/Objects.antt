-- What is read from a heap and kept in it: where the procedures of the heap and of what is kept have units, those that are read do, and those of the heap afterwards.
use Rattle.std.proofs.Common.{ℕ, zero, suc, ℤ, Bool, true, false, List, [], ◌∷◌, length, map, set, Option, Some, None}
use Rattle.std.specs.Prelude.{nat_eq, if◌then◌else◌}
use Rattle.std.specs.List.{AllByRecursion}
use Rattle.ps_stepping.specs.text_forms.declared.forms.Form.{Form}
use Rattle.ps_stepping.specs.text_forms.declared.forms.Form.TheVariants as form
use Rattle.ps_stepping.specs.text_forms.Forms.{forms_of, form_in, element_of}
use Rattle.ps_gen.specs.ps_base.declared.trap.Trap.{Trap}
use Rattle.ps_heap.specs.Values.{Value, Nil, Pointer, Vector}
use Rattle.ps_heap.specs.Texts.{Attempt, Yields, Fails}
use Rattle.ps_heap.specs.Tables.{Entry, Table, without_keys, by_strings, by_ints}
use Rattle.ps_heap.specs.Objects.{Heap, Object, Structure, Elements, Scope, Keyed, object_at, with_object, with_new, value_at, kept_as, is_of, fields_in, field_of, with_field, is_vector, is_made, vector_of, filled_vector, low_in, elements_in, type_in, vector_in, found_at, put_at, with_element, element_of as element_at}
use Rattle.ps_heap.specs.Scopes.{first_value, scope_at, names_in, scope_out, name_in, with_name_in, with_name, kept_name, with_kept_name}
use Rattle.ps_heap.specs.References.{pointers, values_of}
use Rattle.ps_meaning.specs.Meaning.{Frame, with_local}
use Rattle.ps_meaning.specs.Operations.{kept_all, kept_elements}
use Rattle.ps_soundness.proofs.Fields.{all_set, all_same}
use Rattle.ps_code_laws.specs.Literals.{HasUnits, HaveUnits}

-- and so have all of these values
abbrev pub AllHaveUnits : List Value → Type 0
AllHaveUnits vs = AllByRecursion HasUnits vs

abbrev pub InObject : Object → Type 0
InObject object = AllHaveUnits (values_of object)

abbrev pub InFrame : Frame → Type 0
InFrame frame = ((slot : ℕ) → HasUnits (frame.nums slot)) × ((slot : ℕ) → HasUnits (frame.refs slot))

pointed : {K : Type 0} (entries : List (Entry K)) → AllHaveUnits (pointers entries)
pointed [] = tt
pointed (entry ∷ entries) = (tt, pointed entries)

-- no procedure stands in a table
pub in_table : (table : Table) → InObject (Keyed table)
in_table without_keys = tt
in_table (by_strings entries) = pointed entries
in_table (by_ints entries) = pointed entries

-- values that are read
pub units_at : (vs : List Value) (n : ℕ) → AllHaveUnits vs → HasUnits (value_at vs n)
units_at [] n h = tt
units_at (v ∷ vs) zero h = h.0
units_at (v ∷ vs) (suc n) h = units_at vs n h.1

abbrev InFound : Option Object → Type 0
InFound None = Unit {0}
InFound (Some object) = InObject object

in_found : (heap : Heap) (id : ℕ) → HaveUnits heap → InFound (object_at heap id)
in_found [] id h = tt
in_found (object ∷ objects) zero h = h.0
in_found (object ∷ objects) (suc id) h = in_found objects id h.1

in_fields : (found : Option Object) → InFound found → AllHaveUnits (fields_in found)
in_fields None h = tt
in_fields (Some (Structure class fields)) h = h
in_fields (Some (Elements ty low elements)) h = tt
in_fields (Some (Scope text parent names)) h = tt
in_fields (Some (Keyed table)) h = tt

in_elements : (found : Option Object) → InFound found → AllHaveUnits (elements_in found)
in_elements None h = tt
in_elements (Some (Structure class fields)) h = tt
in_elements (Some (Elements ty low elements)) h = h
in_elements (Some (Scope text parent names)) h = tt
in_elements (Some (Keyed table)) h = tt

in_names : (found : Option Object) → InFound found → AllHaveUnits (names_in found)
in_names None h = tt
in_names (Some (Structure class fields)) h = tt
in_names (Some (Elements ty low elements)) h = tt
in_names (Some (Scope text parent names)) h = h
in_names (Some (Keyed table)) h = tt

in_scope_at : (heap : Heap) (scope : Option ℕ) → HaveUnits heap → InFound (scope_at heap scope)
in_scope_at heap None h = tt
in_scope_at heap (Some id) h = in_found heap id h

in_vector : (heap : Heap) (v : Value) → HaveUnits heap → InFound (vector_in heap v)
in_vector heap (Vector id) h = in_found heap id h
in_vector heap v h = tt

pub in_kept_name : (heap : Heap) (scope : Option ℕ) (up position : ℕ) → HaveUnits heap → HasUnits (kept_name heap scope up position)
unfolding name_in
in_kept_name heap scope up position h =
    let at = scope_out heap scope up in
    units_at (names_in (scope_at heap at)) position (in_names (scope_at heap at) (in_scope_at heap at h))

-- values as they are kept
pub in_kept : (form : Option Form) (v : Value) → HasUnits v → HasUnits (kept_as form v)
in_kept None v h = h
in_kept (Some form.Number) v h = tt
in_kept (Some form.Flag) v h = tt
in_kept (Some form.Reference) v h = h

pub in_kept_all : (forms : List Form) (vs : List Value) → AllHaveUnits vs → AllHaveUnits (kept_all forms vs)
unfolding kept_all
in_kept_all [] vs h = h
in_kept_all (form ∷ forms) [] h = tt
in_kept_all (form ∷ forms) (v ∷ vs) h = (in_kept (Some form) v h.0, in_kept_all forms vs h.1)

pub in_kept_elements : (text : List ℕ) (vs : List Value) → AllHaveUnits vs → AllHaveUnits (kept_elements text vs)
in_kept_elements text [] h = tt
in_kept_elements text (v ∷ vs) h = (in_kept (Some (element_of text)) v h.0, in_kept_elements text vs h.1)

pub in_first : (forms : List Form) → AllHaveUnits (map first_value forms)
in_first [] = tt
in_first (form.Number ∷ forms) = (tt, in_first forms)
in_first (form.Flag ∷ forms) = (tt, in_first forms)
in_first (form.Reference ∷ forms) = (tt, in_first forms)

-- what an operation yields
abbrev pub OnYield : {A : Type 0} → (A → Type 0) → Attempt A → Type 0
OnYield Is (Yields a) = Is a
OnYield Is (Fails trap) = Unit {0}

pub yield_if : {A : Type 0} (Is : A → Type 0) (b : Bool) (a : A) (trap : Trap) → Is a → OnYield Is (if b then Yields a else Fails trap)
yield_if Is true a trap h = h
yield_if Is false a trap h = tt

pub in_field : (heap : Heap) (v : Value) (class : List ℕ) (n : ℕ) → HaveUnits heap → OnYield HasUnits (field_of heap v class n)
unfolding field_of
in_field heap (Pointer id) class n h =
    yield_if HasUnits (is_of (object_at heap id) class) (value_at (fields_in (object_at heap id)) n) _
    (units_at (fields_in (object_at heap id)) n (in_fields (object_at heap id) (in_found heap id h)))
in_field heap Nil class n h = tt
in_field heap v class n h = tt

pub in_with_field : (heap : Heap) (o : Value) (class : List ℕ) (n : ℕ) (v : Value) → HaveUnits heap → HasUnits v →
    OnYield HaveUnits (with_field heap o class n v)
unfolding with_field
in_with_field heap (Pointer id) class n v h is =
    let fields = fields_in (object_at heap id) in
    yield_if HaveUnits (is_of (object_at heap id) class) (with_object heap id (Structure class (set fields n v))) _
    (all_set InObject heap id (Structure class (set fields n v)) h
    (all_set HasUnits fields n v (in_fields (object_at heap id) (in_found heap id h)) is))
in_with_field heap Nil class n v h is = tt
in_with_field heap o class n v h is = tt

in_made : (b : Bool) (object : Object) → InObject object → OnYield InObject (is_made b object)
in_made true object h = h
in_made false object h = tt

pub in_vector_of : (ty : List ℕ) (low : ℤ) (vs : List Value) → AllHaveUnits vs → OnYield InObject (vector_of ty low vs)
unfolding vector_of
in_vector_of ty low vs h = in_made (is_vector low (length vs)) (Elements ty low vs) h

pub in_filled : (ty : List ℕ) (low high : ℤ) (v : Value) → HasUnits v → OnYield InObject (filled_vector ty low high v)
unfolding filled_vector
in_filled ty low high v h = in_vector_of ty low _ (all_same HasUnits _ v h)

in_found_at : (place : Option ℕ) (vs : List Value) → AllHaveUnits vs → OnYield HasUnits (found_at place vs)
in_found_at None vs h = tt
in_found_at (Some n) vs h = units_at vs n h

pub in_element : (heap : Heap) (v : Value) (at : ℤ) → HaveUnits heap → OnYield HasUnits (element_at heap v at)
unfolding element_at
in_element heap v at h = in_found_at _ (elements_in (vector_in heap v)) (in_elements (vector_in heap v) (in_vector heap v h))

in_put_at : (heap : Heap) (id : ℕ) (place : Option ℕ) (v : Value) → HaveUnits heap → HasUnits v → OnYield HaveUnits (put_at heap (Vector id) place v)
in_put_at heap id None v h is = tt
in_put_at heap id (Some n) v h is =
    let vector = object_at heap id in
    all_set InObject heap id (Elements (type_in vector) (low_in vector) (set (elements_in vector) n v)) h
    (all_set HasUnits (elements_in vector) n v (in_elements vector (in_found heap id h)) is)

in_put : (heap : Heap) (vector : Value) (place : Option ℕ) (v : Value) → HaveUnits heap → HasUnits v → OnYield HaveUnits (put_at heap vector place v)
in_put heap (Vector id) place v h is = in_put_at heap id place v h is
in_put heap vector place v h is = tt

pub in_with_element : (heap : Heap) (vector : Value) (at : ℤ) (v : Value) → HaveUnits heap → HasUnits v →
    OnYield HaveUnits (with_element heap vector at v)
unfolding with_element
in_with_element heap vector at v h is = in_put heap vector _ v h is

in_with_name_in : (heap : Heap) (id : ℕ) (found : Option Object) (position : ℕ) (v : Value) → HaveUnits heap → InFound found → HasUnits v →
    HaveUnits (with_name_in heap id found position v)
in_with_name_in heap id None position v h of is = h
in_with_name_in heap id (Some (Structure class fields)) position v h of is = h
in_with_name_in heap id (Some (Elements ty low elements)) position v h of is = h
in_with_name_in heap id (Some (Keyed table)) position v h of is = h
in_with_name_in heap id (Some (Scope text parent names)) position v h of is =
    let kept = kept_as (form_in (forms_of text) position) v in
    all_set InObject heap id (Scope text parent (set names position kept)) h
    (all_set HasUnits names position kept of (in_kept (form_in (forms_of text) position) v is))

in_with_name : (heap : Heap) (scope : Option ℕ) (position : ℕ) (v : Value) → HaveUnits heap → HasUnits v →
    HaveUnits (with_name heap scope position v)
unfolding with_name
in_with_name heap None position v h is = h
in_with_name heap (Some id) position v h is = in_with_name_in heap id (object_at heap id) position v h (in_found heap id h) is

pub in_with_kept_name : (heap : Heap) (scope : Option ℕ) (up position : ℕ) (v : Value) → HaveUnits heap → HasUnits v →
    HaveUnits (with_kept_name heap scope up position v)
in_with_kept_name heap scope up position v h is = in_with_name heap (scope_out heap scope up) position v h is

pub in_with_new : (heap : Heap) (object : Object) → HaveUnits heap → InObject object → HaveUnits (with_new heap object)
in_with_new [] object h is = (is, tt)
in_with_new (first ∷ rest) object h is = (h.0, in_with_new rest object h.1 is)

pub in_row : (row : ℕ → Value) (slot : ℕ) (v : Value) → ((s : ℕ) → HasUnits (row s)) → HasUnits v → (s : ℕ) → HasUnits (with_local row slot v s)
in_row row slot v h is s = by (nat_eq s slot)
  where
    by : (b : Bool) → HasUnits (if b then v else row s)
    by true = is
    by false = h s

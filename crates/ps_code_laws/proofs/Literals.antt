-- Each procedure that a run holds is one of its program's literals: where all bodies of a program are of some sort, so are those of the procedures that
-- are in its locals, in its heap and in its values.
use Rattle.std.proofs.Common.{ℕ, zero, suc, ℤ, Bool, true, false, List, [], ◌∷◌, length, map, set, Option, Some, None}
use Rattle.std.specs.Prelude.{nat_eq, if◌then◌else◌}
use Rattle.ps_gen.specs.ps_base.declared.trap.Trap.{Trap}
use Rattle.ps_stepping.specs.text_forms.declared.forms.Form.{Form}
use Rattle.ps_stepping.specs.text_forms.declared.forms.Form.TheVariants as form
use Rattle.ps_stepping.specs.text_forms.Forms.{forms_of, form_in, element_of}
use Rattle.ps_gen.specs.ps_program.Node.{BodyNode}
use Rattle.ps_stepping.specs.ps_heap.Values.{Value, Nil, Pointer, Vector}
use Rattle.ps_stepping.specs.ps_heap.Texts.{Attempt, Yields, Fails}
use Rattle.ps_stepping.specs.ps_heap.Objects.{Heap, Object, Structure, Elements, Scope, Keyed, object_at, with_object, with_new, value_at, kept_as, is_of, fields_in, field_of, with_field, is_vector, is_made, vector_of, filled_vector, low_in, elements_in, type_in, vector_in, found_at, put_at, with_element, element_of as element_at}
use Rattle.ps_stepping.specs.ps_heap.Scopes.{first_value, scope_at, names_in, scope_out, name_in, with_name_in, with_name, kept_name, with_kept_name}
use Rattle.ps_stepping.specs.ps_meaning.Meaning.{Frame, with_local}
use Rattle.ps_stepping.specs.ps_meaning.Operations.{kept_all, kept_elements}
use Rattle.ps_soundness.proofs.Fields.{all_set, all_same}
use Rattle.ps_code_laws.specs.Literals.{ValueIs, ValuesAre, ObjectIs, HeapIs, FrameIs}

module _ (P : BodyNode → Type 0) where
  abbrev pub IsLiteral : Value → Type 0
  IsLiteral v = ValueIs P v

  abbrev pub AreLiterals : List Value → Type 0
  AreLiterals vs = ValuesAre P vs

  abbrev pub InObject : Object → Type 0
  InObject object = ObjectIs P object

  abbrev pub InHeap : Heap → Type 0
  InHeap heap = HeapIs P heap

  abbrev pub InFrame : Frame → Type 0
  InFrame frame = FrameIs P frame

  -- values that are read
  pub literal_at : (vs : List Value) (n : ℕ) → AreLiterals vs → IsLiteral (value_at vs n)
  literal_at [] n h = tt
  literal_at (v ∷ vs) zero h = h.0
  literal_at (v ∷ vs) (suc n) h = literal_at vs n h.1

  abbrev InFound : Option Object → Type 0
  InFound None = Unit {0}
  InFound (Some object) = InObject object

  in_found : (heap : Heap) (id : ℕ) → InHeap heap → InFound (object_at heap id)
  in_found [] id h = tt
  in_found (object ∷ objects) zero h = h.0
  in_found (object ∷ objects) (suc id) h = in_found objects id h.1

  in_fields : (found : Option Object) → InFound found → AreLiterals (fields_in found)
  in_fields None h = tt
  in_fields (Some (Structure class fields)) h = h
  in_fields (Some (Elements ty low elements)) h = tt
  in_fields (Some (Scope text parent names)) h = tt
  in_fields (Some (Keyed table)) h = tt

  in_elements : (found : Option Object) → InFound found → AreLiterals (elements_in found)
  in_elements None h = tt
  in_elements (Some (Structure class fields)) h = tt
  in_elements (Some (Elements ty low elements)) h = h
  in_elements (Some (Scope text parent names)) h = tt
  in_elements (Some (Keyed table)) h = tt

  in_names : (found : Option Object) → InFound found → AreLiterals (names_in found)
  in_names None h = tt
  in_names (Some (Structure class fields)) h = tt
  in_names (Some (Elements ty low elements)) h = tt
  in_names (Some (Scope text parent names)) h = h
  in_names (Some (Keyed table)) h = tt

  in_scope_at : (heap : Heap) (scope : Option ℕ) → InHeap heap → InFound (scope_at heap scope)
  in_scope_at heap None h = tt
  in_scope_at heap (Some id) h = in_found heap id h

  in_vector : (heap : Heap) (v : Value) → InHeap heap → InFound (vector_in heap v)
  in_vector heap (Vector id) h = in_found heap id h
  in_vector heap v h = tt

  pub in_kept_name : (heap : Heap) (scope : Option ℕ) (up position : ℕ) → InHeap heap → IsLiteral (kept_name heap scope up position)
  unfolding name_in
  in_kept_name heap scope up position h =
      let at = scope_out heap scope up in
      literal_at (names_in (scope_at heap at)) position (in_names (scope_at heap at) (in_scope_at heap at h))

  -- values as they are kept
  pub in_kept : (form : Option Form) (v : Value) → IsLiteral v → IsLiteral (kept_as form v)
  in_kept None v h = h
  in_kept (Some form.Number) v h = tt
  in_kept (Some form.Flag) v h = tt
  in_kept (Some form.Reference) v h = h

  pub in_kept_all : (forms : List Form) (vs : List Value) → AreLiterals vs → AreLiterals (kept_all forms vs)
  unfolding kept_all
  in_kept_all [] vs h = h
  in_kept_all (form ∷ forms) [] h = tt
  in_kept_all (form ∷ forms) (v ∷ vs) h = (in_kept (Some form) v h.0, in_kept_all forms vs h.1)

  pub in_kept_elements : (text : List ℕ) (vs : List Value) → AreLiterals vs → AreLiterals (kept_elements text vs)
  in_kept_elements text [] h = tt
  in_kept_elements text (v ∷ vs) h = (in_kept (Some (element_of text)) v h.0, in_kept_elements text vs h.1)

  pub in_first : (forms : List Form) → AreLiterals (map first_value forms)
  in_first [] = tt
  in_first (form.Number ∷ forms) = (tt, in_first forms)
  in_first (form.Flag ∷ forms) = (tt, in_first forms)
  in_first (form.Reference ∷ forms) = (tt, in_first forms)

  -- what an operation yields
  abbrev pub OnYield : {A : Type 0} → (A → Type 0) → Attempt A → Type 0
  OnYield Is (Yields a) = Is a
  OnYield Is (Fails trap) = Unit {0}

  pub yield_if : {A : Type 0} (Is : A → Type 0) (b : Bool) (a : A) (trap : Trap) → Is a → OnYield Is (if b then Yields a else Fails trap)
  yield_if Is true a trap h = h
  yield_if Is false a trap h = tt

  pub in_field : (heap : Heap) (v : Value) (class : List ℕ) (n : ℕ) → InHeap heap → OnYield IsLiteral (field_of heap v class n)
  unfolding field_of
  in_field heap (Pointer id) class n h =
      yield_if IsLiteral (is_of (object_at heap id) class) (value_at (fields_in (object_at heap id)) n) _
      (literal_at (fields_in (object_at heap id)) n (in_fields (object_at heap id) (in_found heap id h)))
  in_field heap Nil class n h = tt
  in_field heap v class n h = tt

  pub in_with_field : (heap : Heap) (o : Value) (class : List ℕ) (n : ℕ) (v : Value) → InHeap heap → IsLiteral v →
      OnYield InHeap (with_field heap o class n v)
  unfolding with_field
  in_with_field heap (Pointer id) class n v h is =
      let fields = fields_in (object_at heap id) in
      yield_if InHeap (is_of (object_at heap id) class) (with_object heap id (Structure class (set fields n v))) _
      (all_set InObject heap id (Structure class (set fields n v)) h
      (all_set IsLiteral fields n v (in_fields (object_at heap id) (in_found heap id h)) is))
  in_with_field heap Nil class n v h is = tt
  in_with_field heap o class n v h is = tt

  in_made : (b : Bool) (object : Object) → InObject object → OnYield InObject (is_made b object)
  in_made true object h = h
  in_made false object h = tt

  pub in_vector_of : (ty : List ℕ) (low : ℤ) (vs : List Value) → AreLiterals vs → OnYield InObject (vector_of ty low vs)
  unfolding vector_of
  in_vector_of ty low vs h = in_made (is_vector low (length vs)) (Elements ty low vs) h

  pub in_filled : (ty : List ℕ) (low high : ℤ) (v : Value) → IsLiteral v → OnYield InObject (filled_vector ty low high v)
  unfolding filled_vector
  in_filled ty low high v h = in_vector_of ty low _ (all_same IsLiteral _ v h)

  in_found_at : (place : Option ℕ) (vs : List Value) → AreLiterals vs → OnYield IsLiteral (found_at place vs)
  in_found_at None vs h = tt
  in_found_at (Some n) vs h = literal_at vs n h

  pub in_element : (heap : Heap) (v : Value) (at : ℤ) → InHeap heap → OnYield IsLiteral (element_at heap v at)
  unfolding element_at
  in_element heap v at h = in_found_at _ (elements_in (vector_in heap v)) (in_elements (vector_in heap v) (in_vector heap v h))

  in_put_at : (heap : Heap) (id : ℕ) (place : Option ℕ) (v : Value) → InHeap heap → IsLiteral v → OnYield InHeap (put_at heap (Vector id) place v)
  in_put_at heap id None v h is = tt
  in_put_at heap id (Some n) v h is =
      let vector = object_at heap id in
      all_set InObject heap id (Elements (type_in vector) (low_in vector) (set (elements_in vector) n v)) h
      (all_set IsLiteral (elements_in vector) n v (in_elements vector (in_found heap id h)) is)

  in_put : (heap : Heap) (vector : Value) (place : Option ℕ) (v : Value) → InHeap heap → IsLiteral v → OnYield InHeap (put_at heap vector place v)
  in_put heap (Vector id) place v h is = in_put_at heap id place v h is
  in_put heap vector place v h is = tt

  pub in_with_element : (heap : Heap) (vector : Value) (at : ℤ) (v : Value) → InHeap heap → IsLiteral v →
      OnYield InHeap (with_element heap vector at v)
  unfolding with_element
  in_with_element heap vector at v h is = in_put heap vector _ v h is

  in_with_name_in : (heap : Heap) (id : ℕ) (found : Option Object) (position : ℕ) (v : Value) → InHeap heap → InFound found → IsLiteral v →
      InHeap (with_name_in heap id found position v)
  in_with_name_in heap id None position v h of is = h
  in_with_name_in heap id (Some (Structure class fields)) position v h of is = h
  in_with_name_in heap id (Some (Elements ty low elements)) position v h of is = h
  in_with_name_in heap id (Some (Keyed table)) position v h of is = h
  in_with_name_in heap id (Some (Scope text parent names)) position v h of is =
      let kept = kept_as (form_in (forms_of text) position) v in
      all_set InObject heap id (Scope text parent (set names position kept)) h
      (all_set IsLiteral names position kept of (in_kept (form_in (forms_of text) position) v is))

  in_with_name : (heap : Heap) (scope : Option ℕ) (position : ℕ) (v : Value) → InHeap heap → IsLiteral v →
      InHeap (with_name heap scope position v)
  unfolding with_name
  in_with_name heap None position v h is = h
  in_with_name heap (Some id) position v h is = in_with_name_in heap id (object_at heap id) position v h (in_found heap id h) is

  pub in_with_kept_name : (heap : Heap) (scope : Option ℕ) (up position : ℕ) (v : Value) → InHeap heap → IsLiteral v →
      InHeap (with_kept_name heap scope up position v)
  in_with_kept_name heap scope up position v h is = in_with_name heap (scope_out heap scope up) position v h is

  pub in_with_new : (heap : Heap) (object : Object) → InHeap heap → InObject object → InHeap (with_new heap object)
  in_with_new [] object h is = (is, tt)
  in_with_new (first ∷ rest) object h is = (h.0, in_with_new rest object h.1 is)

  pub in_row : (row : ℕ → Value) (slot : ℕ) (v : Value) → ((s : ℕ) → IsLiteral (row s)) → IsLiteral v → (s : ℕ) → IsLiteral (with_local row slot v s)
  in_row row slot v h is s = by (nat_eq s slot)
    where
      by : (b : Bool) → IsLiteral (if b then v else row s)
      by true = is
      by false = h s

-- Instructions over structures, vectors and texts change no more of what is held than objects, assigned places, what is touched and what is counted.
use Rattle.std.proofs.Common.{ℕ, ℤ, List, [], map, reverse, Some}
use Rattle.ps_code.specs.ps_base.declared.line.Line.{Line}
use Rattle.ps_code.specs.ps_base.declared.operator.Relation.{Relation}
use Rattle.ps_code.specs.ps_base.declared.instr.Instr.{Instr}
use Rattle.ps_code.specs.ps_base.declared.instr.Instr.TheVariants as instr
use Rattle.ps_code.specs.ps_base.declared.operator.Relation.TheVariants as relation
use Rattle.ps_meaning.specs.text_forms.Forms.{forms_of, form_in, element_of}
use Rattle.ps_meaning.specs.Meaning.{and_object, and_text}
use Rattle.ps_meaning.specs.Operations.{kept_as, kept_elements, text_relation, object_relation}
use Rattle.ps_heap.specs.Events.{Event}
use Rattle.ps_heap.specs.Held.{Held, reading}
use Rattle.ps_heap.specs.Objects.{Heap, Object, Structure, new_number, is_class, field_of, with_field, vector_of, filled_vector, with_element, low_of, high_of, element_of as element_at}
use Rattle.ps_heap.specs.Texts.{join_of, part_of}
use Rattle.ps_heap.specs.Values.{Value, Num, word_of, number_of}
use Rattle.ps_heap.specs.Values as value
use Rattle.ps_stepping.specs.Config.{Config}
use Rattle.ps_stepping.specs.Objects.{holding, having, make, make_text, join, part, compare_texts, compare_objects, is_of_class, make_structure, field_num, field_ref, set_field_num, set_field_ref, fill_num, fill_ref, list_num, list_ref, element_num, element_ref, set_element_num, set_element_ref, bound, acts_on_objects}
use Rattle.database_steps.proofs.Going.{Going, Quietly, pushed_num, pushed_ref, popped_num, popped_ref, popped_text, popped_denoting, popped_object, popped_vector, popped_nums, popped_refs, popped_fields, by_text, of_attempt, of_number, of_reference}

module _ (K : List Event → Held → Type 0) where
  -- what is held stays, but for what is pushed and popped
  pub as_it_is : (h : Held) → Quietly K h → K [] h
  as_it_is h q = q h.objects h.assigned h.touched h.counted [] tt

  pub makes : (denoting : ℕ → Value) (object : Object) (c : Config) → Quietly K c.store.held → Going K (make denoting object c)
  makes denoting object c q = pushed_ref K (denoting (new_number c.store.held.objects)) (holding (and_object object c.store) c) (q _ _ _ _ [] tt)

  pub makes_text : (bytes : List ℕ) (c : Config) → Quietly K c.store.held → Going K (make_text bytes c)
  makes_text bytes c q = pushed_ref K (value.Text bytes) (holding (and_text bytes c.store) c) (q _ _ _ _ [] tt)

  joins : (line : Line) (c : Config) → Quietly K c.store.held → Going K (join line c)
  joins line c q =
      popped_text K c _ (λ b rest. popped_text K (record c { refs = rest }) _
      (λ a below. of_attempt K line (join_of a b) _ (λ bytes. makes_text bytes (record c { refs = below }) q)))

  parts : (line : Line) (c : Config) → Quietly K c.store.held → Going K (part line c)
  parts line c q =
      popped_num K c _ (λ n rest. popped_num K (record c { nums = rest }) _ (λ i below. popped_text K (record c { nums = below }) _
      (λ a left. of_attempt K line (part_of a i n) _ (λ bytes. makes_text bytes (record c { nums = below; refs = left }) q))))

  compares_texts : (op : Relation) (c : Config) → Quietly K c.store.held → Going K (compare_texts op c)
  compares_texts op c q =
      popped_text K c _ (λ b rest. popped_text K (record c { refs = rest }) _
      (λ a below. pushed_num K (number_of (text_relation op a b)) (record c { refs = below }) (as_it_is c.store.held q)))

  -- Structures.

  compares_objects : (op : Relation) (c : Config) → Quietly K c.store.held → Going K (compare_objects op c)
  compares_objects op c q =
      popped_denoting K c _ (λ w rest. popped_denoting K (record c { refs = rest }) _
      (λ v below. pushed_num K (number_of (object_relation op v w)) (record c { refs = below }) (as_it_is c.store.held q)))

  tests_class : (k : ℕ) (c : Config) → Quietly K c.store.held → Going K (is_of_class k c)
  tests_class k c q =
      by_text K k c _ (λ class. popped_object K c _
      (λ v rest. pushed_num K (number_of (is_class c.store.held.objects v class)) (record c { refs = rest }) (as_it_is c.store.held q)))

  makes_structure : (k : ℕ) (c : Config) → Quietly K c.store.held → Going K (make_structure k c)
  makes_structure k c q =
      by_text K k c _ (λ class. popped_fields K (reverse (forms_of class)) [] c _
      (λ fields nums refs. makes value.Pointer (Structure class fields) (record c { nums = nums; refs = refs }) q))

  reads_num : (k n : ℕ) (line : Line) (c : Config) → Quietly K c.store.held → Going K (field_num k n line c)
  reads_num k n line c q =
      by_text K k c _ (λ class. of_number K (form_in (forms_of class) n) _ (popped_object K c _
      (λ v rest. of_attempt K line (field_of c.store.held.objects v class n) _
      (λ w. pushed_num K (word_of w) (having (reading w) (record c { refs = rest })) (q _ _ _ _ [] tt)))))

  reads_ref : (k n : ℕ) (line : Line) (c : Config) → Quietly K c.store.held → Going K (field_ref k n line c)
  reads_ref k n line c q =
      by_text K k c _ (λ class. of_reference K (form_in (forms_of class) n) _ (popped_object K c _
      (λ v rest. of_attempt K line (field_of c.store.held.objects v class n) _
      (λ w. pushed_ref K w (having (reading w) (record c { refs = rest })) (q _ _ _ _ [] tt)))))

  sets_num : (k n : ℕ) (line : Line) (c : Config) → Quietly K c.store.held → Going K (set_field_num k n line c)
  sets_num k n line c q =
      by_text K k c _ (λ class. of_number K (form_in (forms_of class) n) _ (popped_num K c _ (λ z rest. popped_object K (record c { nums = rest }) _
      (λ v below. of_attempt K line (with_field c.store.held.objects v class n (kept_as (form_in (forms_of class) n) (Num z))) _ (λ heap. q _ _ _ _ [] tt)))))

  sets_ref : (k n : ℕ) (line : Line) (c : Config) → Quietly K c.store.held → Going K (set_field_ref k n line c)
  sets_ref k n line c q =
      by_text K k c _ (λ class. of_reference K (form_in (forms_of class) n) _ (popped_ref K c _ (λ w rest. popped_object K (record c { refs = rest }) _
      (λ v below. of_attempt K line (with_field c.store.held.objects v class n w) _ (λ heap. q _ _ _ _ [] tt)))))

  -- Vectors.

  fills_num : (k : ℕ) (line : Line) (c : Config) → Quietly K c.store.held → Going K (fill_num k line c)
  fills_num k line c q =
      by_text K k c _ (λ ty. of_number K (Some (element_of ty)) _ (popped_num K c _ (λ z rest. popped_num K (record c { nums = rest }) _
      (λ high below. popped_num K (record c { nums = below }) _
      (λ low left. of_attempt K line (filled_vector ty low high (kept_as (Some (element_of ty)) (Num z))) _
      (λ object. makes value.Vector object (record c { nums = left }) q))))))

  fills_ref : (k : ℕ) (line : Line) (c : Config) → Quietly K c.store.held → Going K (fill_ref k line c)
  fills_ref k line c q =
      by_text K k c _ (λ ty. of_reference K (Some (element_of ty)) _ (popped_ref K c _ (λ v rest. popped_num K (record c { refs = rest }) _
      (λ high below. popped_num K (record c { nums = below; refs = rest }) _
      (λ low left. of_attempt K line (filled_vector ty low high v) _ (λ object. makes value.Vector object (record c { nums = left; refs = rest }) q))))))

  lists_nums : (k n : ℕ) (line : Line) (c : Config) → Quietly K c.store.held → Going K (list_num k n line c)
  lists_nums k n line c q =
      by_text K k c _ (λ ty. of_number K (Some (element_of ty)) _ (popped_nums K n [] c _ (λ zs rest. popped_num K (record c { nums = rest }) _
      (λ low below. of_attempt K line (vector_of ty low (kept_elements ty (map Num zs))) _ (λ object. makes value.Vector object (record c { nums = below }) q)))))

  lists_refs : (k n : ℕ) (line : Line) (c : Config) → Quietly K c.store.held → Going K (list_ref k n line c)
  lists_refs k n line c q =
      by_text K k c _ (λ ty. of_reference K (Some (element_of ty)) _ (popped_refs K n [] c _ (λ vs rest. popped_num K (record c { refs = rest }) _
      (λ low below. of_attempt K line (vector_of ty low vs) _ (λ object. makes value.Vector object (record c { nums = below; refs = rest }) q)))))

  reads_element_num : (line : Line) (c : Config) → Quietly K c.store.held → Going K (element_num line c)
  reads_element_num line c q =
      popped_num K c _ (λ i rest. popped_vector K (record c { nums = rest }) _
      (λ ty v below. of_attempt K line (element_at c.store.held.objects v i) _
      (λ w. of_number K (Some (element_of ty)) _ (pushed_num K (word_of w) (having (reading w) (record c { nums = rest; refs = below })) (q _ _ _ _ [] tt)))))

  reads_element_ref : (line : Line) (c : Config) → Quietly K c.store.held → Going K (element_ref line c)
  reads_element_ref line c q =
      popped_num K c _ (λ i rest. popped_vector K (record c { nums = rest }) _
      (λ ty v below. of_attempt K line (element_at c.store.held.objects v i) _
      (λ w. of_reference K (Some (element_of ty)) _ (pushed_ref K w (having (reading w) (record c { nums = rest; refs = below })) (q _ _ _ _ [] tt)))))

  sets_element_num : (line : Line) (c : Config) → Quietly K c.store.held → Going K (set_element_num line c)
  sets_element_num line c q =
      popped_num K c _ (λ z rest. popped_num K (record c { nums = rest }) _ (λ i below. popped_vector K (record c { nums = below }) _
      (λ ty v left. of_attempt K line (with_element c.store.held.objects v i (kept_as (Some (element_of ty)) (Num z))) _
      (λ heap. of_number K (Some (element_of ty)) _ (q _ _ _ _ [] tt)))))

  sets_element_ref : (line : Line) (c : Config) → Quietly K c.store.held → Going K (set_element_ref line c)
  sets_element_ref line c q =
      popped_ref K c _ (λ w rest. popped_num K (record c { refs = rest }) _ (λ i below. popped_vector K (record c { nums = below; refs = rest }) _
      (λ ty v left. of_attempt K line (with_element c.store.held.objects v i w) _ (λ heap. of_reference K (Some (element_of ty)) _ (q _ _ _ _ [] tt)))))

  tells_bound : (of : Heap → Value → ℤ) (c : Config) → Quietly K c.store.held → Going K (bound of c)
  tells_bound of c q =
      popped_vector K c _ (λ ty v rest. pushed_num K (of c.store.held.objects v) (record c { refs = rest }) (as_it_is c.store.held q))

  pub goes_on_objects : (i : Instr) (c : Config) → Quietly K c.store.held → Going K (acts_on_objects i c)
  goes_on_objects instr.Nil c q = pushed_ref K value.Nil c (as_it_is c.store.held q)
  goes_on_objects instr.EqP c q = compares_objects relation.Equal c q
  goes_on_objects instr.NeP c q = compares_objects relation.NotEqual c q
  goes_on_objects instr.EqT c q = compares_texts relation.Equal c q
  goes_on_objects instr.NeT c q = compares_texts relation.NotEqual c q
  goes_on_objects instr.LtT c q = compares_texts relation.Less c q
  goes_on_objects instr.LeT c q = compares_texts relation.LessEqual c q
  goes_on_objects instr.GtT c q = compares_texts relation.Greater c q
  goes_on_objects instr.GeT c q = compares_texts relation.GreaterEqual c q
  goes_on_objects (instr.Join line) c q = joins line c q
  goes_on_objects (instr.Part line) c q = parts line c q
  goes_on_objects (instr.Is k) c q = tests_class k c q
  goes_on_objects (instr.Make k) c q = makes_structure k c q
  goes_on_objects (instr.FieldM k i line) c q = reads_num k i line c q
  goes_on_objects (instr.FieldP k i line) c q = reads_ref k i line c q
  goes_on_objects (instr.SetFieldM k i line) c q = sets_num k i line c q
  goes_on_objects (instr.SetFieldP k i line) c q = sets_ref k i line c q
  goes_on_objects (instr.FillM k line) c q = fills_num k line c q
  goes_on_objects (instr.FillP k line) c q = fills_ref k line c q
  goes_on_objects (instr.ListM k n line) c q = lists_nums k n line c q
  goes_on_objects (instr.ListP k n line) c q = lists_refs k n line c q
  goes_on_objects (instr.ElemM line) c q = reads_element_num line c q
  goes_on_objects (instr.ElemP line) c q = reads_element_ref line c q
  goes_on_objects (instr.SetElemM line) c q = sets_element_num line c q
  goes_on_objects (instr.SetElemP line) c q = sets_element_ref line c q
  goes_on_objects instr.Lwb c q = tells_bound low_of c q
  goes_on_objects instr.Upb c q = tells_bound high_of c q
  goes_on_objects i c q = tt

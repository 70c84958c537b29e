-- Each instruction over objects takes from the stacks and leaves on them what the table says.
use Rattle.std.proofs.Common.{◌≡◌, ℕ, zero, suc, ◌+◌, ℤ, Bool, true, false, List, [], ◌∷◌, ◌++◌, length, map, reverse, Option, Some, None, refl, sym, ap, ◌∙◌, subst, arith, eqb-true}
use Rattle.std.specs.Prelude.{pos, nat_eq, nat_lt, if◌then◌else◌}
use Rattle.std.specs.Fmt.{signed_decimal}
use Rattle.std.proofs.lemmas.List.{reverse-append}
use Rattle.ps_code.specs.ps_base.CodeUnit.{ConstantView, text, literal}
use Rattle.ps_code.specs.ps_base.declared.line.Line.{Line}
use Rattle.ps_code.specs.ps_base.declared.instr.Instr.{Instr}
use Rattle.ps_code.specs.ps_base.declared.instr.Instr.TheVariants as instr
use Rattle.ps_code.specs.ps_base.declared.operator.Relation.{Relation}
use Rattle.ps_code.specs.ps_base.declared.operator.Relation.TheVariants as relation
use Rattle.ps_meaning.specs.text_forms.declared.forms.Form.{Form}
use Rattle.ps_meaning.specs.text_forms.declared.forms.Form.TheVariants as form
use Rattle.ps_meaning.specs.text_forms.declared.forms.Rows.{Rows}
use Rattle.ps_meaning.specs.text_forms.Forms.{forms_of, form_in, element_of, one_more, rows_of}
use Rattle.ps_meaning.specs.Operations.{kept_as, kept_elements, text_relation, object_relation}
use Rattle.ps_meaning.specs.Meaning.{Store, and_object, and_text, on_input}
use Rattle.ps_heap.specs.Texts.{Attempt, Yields, Fails, join_of, part_of, line_read, behind_line, is_at_end}
use Rattle.ps_heap.specs.Objects.{Heap, Object, Structure, new_number, is_class, field_of, with_field, vector_of, filled_vector, with_element, low_of, high_of, id_of, element_of as element_at}
use Rattle.ps_heap.specs.Held.{reading, element_place}
use Rattle.ps_heap.specs.Held as held
use Rattle.ps_heap.specs.Values.{Value, Num, word_of, number_of}
use Rattle.ps_heap.specs.Values as value
use Rattle.ps_stepping.specs.Config.{frame_words, Config, frame_in, constant_at, constants_in}
use Rattle.ps_stepping.specs.Steps.{Step, Stuck, on, put_num, push_num, push_ref, pop_num, pop_two, pop_text, text_in, with_text, attempted}
use Rattle.ps_stepping.specs.Objects.{holding, having, changed, make, make_text, join, part, compare_texts, denoting_of, pop_denoting, compare_objects, object_of, pop_object, is_of_class, pop_fields, make_structure, when_number, when_reference, field_num, field_ref, set_field_num, set_field_ref, type_of, of_type, pop_vector, fill_num, fill_ref, pop_nums, pop_refs, list_num, list_ref, element_num, element_ref, set_element_num, set_element_ref, bound, acts_on_objects}
use Rattle.ps_stepping.specs.Effects.{Effect, makes, nums, refs, both, library_effect, effect_of, HasEffect}
use Rattle.ps_stepping.proofs.Popping.{Does, does_if, popped_num, popped_ref, popped_text, does_push_ref}

-- A structure or nil, nil or any object, and a vector are popped.

pub popped_object : (e : Effect) (c d : Config) (next : Value → Config → Step) →
    ((v : Value) (rest : List Value) → length d.refs ≡ suc (length rest) → Does e c (next v (record d { refs = rest }))) →
    Does e c (pop_object d next)
popped_object e c d next h = popped_ref e c d (λ v d. object_of v d next) (λ v rest is. of_value v rest (ap length is))
  where
    of_value : (v : Value) (rest : List Value) → length d.refs ≡ suc (length rest) → Does e c (object_of v (record d { refs = rest }) next)
    of_value (value.Text bytes) rest is = tt
    of_value (value.Num z) rest is = tt
    of_value (value.Flag b) rest is = tt
    of_value value.Nil rest is = h value.Nil rest is
    of_value (value.Pointer o) rest is = h (value.Pointer o) rest is
    of_value (value.Vector o) rest is = tt
    of_value (value.Procedure b o) rest is = tt
    of_value value.Nothing rest is = tt

popped_denoting : (e : Effect) (c d : Config) (next : Value → Config → Step) →
    ((v : Value) (rest : List Value) → length d.refs ≡ suc (length rest) → Does e c (next v (record d { refs = rest }))) →
    Does e c (pop_denoting d next)
popped_denoting e c d next h = popped_ref e c d (λ v d. denoting_of v d next) (λ v rest is. of_value v rest (ap length is))
  where
    of_value : (v : Value) (rest : List Value) → length d.refs ≡ suc (length rest) → Does e c (denoting_of v (record d { refs = rest }) next)
    of_value (value.Text bytes) rest is = tt
    of_value (value.Num z) rest is = tt
    of_value (value.Flag b) rest is = tt
    of_value value.Nil rest is = h value.Nil rest is
    of_value (value.Pointer o) rest is = h (value.Pointer o) rest is
    of_value (value.Vector o) rest is = h (value.Vector o) rest is
    of_value (value.Procedure b o) rest is = tt
    of_value value.Nothing rest is = tt

popped_vector : (e : Effect) (c d : Config) (next : List ℕ → Value → Config → Step) →
    ((ty : List ℕ) (v : Value) (rest : List Value) → length d.refs ≡ suc (length rest) → Does e c (next ty v (record d { refs = rest }))) →
    Does e c (pop_vector d next)
popped_vector e c d next h =
    popped_ref e c d (λ v d. of_type (type_of d.store.held.objects v) (λ ty. next ty v d))
    (λ v rest is. of_known (type_of d.store.held.objects v) v rest (ap length is))
  where
    of_known : (ty : Option (List ℕ)) (v : Value) (rest : List Value) → length d.refs ≡ suc (length rest) →
        Does e c (of_type ty (λ ty. next ty v (record d { refs = rest })))
    of_known (Some ty) v rest is = h ty v rest is
    of_known None v rest is = tt

pub does_attempted : {A : Type 0} (e : Effect) (c : Config) (line : Line) (a : Attempt A) (next : A → Step) → ((x : A) → Does e c (next x)) →
    Does e c (attempted line a next)
does_attempted e c line (Yields x) next h = h x
does_attempted e c line (Fails trap) next h = tt

does_with_class : (e : Effect) (c : Config) (k : ℕ) (next : List ℕ → Step) →
    ((bytes : List ℕ) → constant_at (constants_in c.unit) k ≡ Some (text bytes) → Does e c (next bytes)) → Does e c (with_text k c next)
does_with_class e c k next h = of_constant (constant_at (constants_in c.unit) k) refl
  where
    of_constant : (constant : Option ConstantView) → constant_at (constants_in c.unit) k ≡ constant → Does e c (text_in constant next)
    of_constant (Some (text bytes)) is = h bytes is
    of_constant (Some (literal code)) is = tt
    of_constant None is = tt

pub does_with_text : (e : Effect) (c : Config) (k : ℕ) (next : List ℕ → Step) → ((bytes : List ℕ) → Does e c (next bytes)) → Does e c (with_text k c next)
does_with_text e c k next h = does_with_class e c k next (λ bytes is. h bytes)

pub does_number : (e : Effect) (c : Config) (f : Option Form) (s : Step) → Does e c s → Does e c (when_number f s)
does_number e c (Some form.Number) s h = h
does_number e c (Some form.Flag) s h = h
does_number e c (Some form.Reference) s h = tt
does_number e c None s h = tt

pub does_reference : (e : Effect) (c : Config) (f : Option Form) (s : Step) → Does e c s → Does e c (when_reference f s)
does_reference e c (Some form.Number) s h = tt
does_reference e c (Some form.Flag) s h = tt
does_reference e c (Some form.Reference) s h = h
does_reference e c None s h = tt

-- pushing at the end
pub ends_num : (e : Effect) (c d : Config) (z : ℤ) → HasEffect e c (record d { nums = z ∷ d.nums }) → Does e c (push_num z d)
ends_num e c d z h = does_if e c (nat_lt ((frame_in d.unit).nums + length d.nums) frame_words) (put_num z d) Stuck h tt

pub ends_ref : (e : Effect) (c d : Config) (v : Value) → HasEffect e c (record d { refs = v ∷ d.refs }) → Does e c (push_ref v d)
ends_ref e c d v h = does_if e c (nat_lt ((frame_in d.unit).refs + length d.refs) frame_words) (on (record d { refs = v ∷ d.refs })) Stuck h tt

-- Texts.

-- a new text is pushed
does_make_text : (e : Effect) (c d : Config) (bytes : List ℕ) →
    ((v : Value) (store : Store) → HasEffect e c (record d { refs = v ∷ d.refs; store = store })) → Does e c (make_text bytes d)
does_make_text e c d bytes h = ends_ref e c (holding (and_text bytes d.store) d) (value.Text bytes) (h _ _)

does_join : (line : Line) (c : Config) → Does (refs 2 1) c (join line c)
does_join line c =
    popped_text (refs 2 1) c c (λ b d. pop_text d (λ a e. attempted line (join_of a b) (λ bytes. make_text bytes e)))
    (λ b rest is. popped_text (refs 2 1) c (record c { refs = rest }) (λ a e. attempted line (join_of a b) (λ bytes. make_text bytes e))
    (λ a below is'. does_attempted (refs 2 1) c line (join_of a b) (λ bytes. make_text bytes (record c { refs = below }))
    (λ bytes. does_make_text (refs 2 1) c (record c { refs = below }) bytes (λ v store. record { nums = refl; refs = omega (arith, is, is') }))))

does_part : (line : Line) (c : Config) → Does (both 2 0 1 1) c (part line c)
does_part line c =
    let e = both 2 0 1 1 in
    popped_num e c c (λ n d. pop_num d (λ i e. pop_text e (λ a f. attempted line (part_of a i n) (λ bytes. make_text bytes f))))
    (λ n rest is. popped_num e c (record c { nums = rest }) (λ i e. pop_text e (λ a f. attempted line (part_of a i n) (λ bytes. make_text bytes f)))
    (λ i below is'. popped_text e c (record c { nums = below }) (λ a f. attempted line (part_of a i n) (λ bytes. make_text bytes f))
    (λ a left is''. does_attempted e c line (part_of a i n) (λ bytes. make_text bytes (record c { nums = below; refs = left }))
    (λ bytes. does_make_text e c (record c { nums = below; refs = left }) bytes
    (λ v store. record { nums = omega (arith, ap length is, ap length is'); refs = omega (arith, is'') })))))

does_compare_texts : (op : Relation) (c : Config) → Does (both 0 1 2 0) c (compare_texts op c)
does_compare_texts op c =
    popped_text (both 0 1 2 0) c c (λ b d. pop_text d (λ a e. push_num (number_of (text_relation op a b)) e))
    (λ b rest is. popped_text (both 0 1 2 0) c (record c { refs = rest }) (λ a e. push_num (number_of (text_relation op a b)) e)
    (λ a below is'. ends_num (both 0 1 2 0) c (record c { refs = below }) (number_of (text_relation op a b))
    (record { nums = omega arith; refs = omega (arith, is, is') })))

-- Structures.

does_compare_objects : (op : Relation) (c : Config) → Does (both 0 1 2 0) c (compare_objects op c)
does_compare_objects op c =
    popped_denoting (both 0 1 2 0) c c (λ w d. pop_denoting d (λ v e. push_num (number_of (object_relation op v w)) e))
    (λ w rest is. popped_denoting (both 0 1 2 0) c (record c { refs = rest }) (λ v e. push_num (number_of (object_relation op v w)) e)
    (λ v below is'. ends_num (both 0 1 2 0) c (record c { refs = below }) (number_of (object_relation op v w))
    (record { nums = omega arith; refs = omega (arith, is, is') })))

does_is : (k : ℕ) (c : Config) → Does (both 0 1 1 0) c (is_of_class k c)
does_is k c =
    does_with_text (both 0 1 1 0) c k (λ class. pop_object c (λ v d. push_num (number_of (is_class d.store.held.objects v class)) d))
    (λ class. popped_object (both 0 1 1 0) c c (λ v d. push_num (number_of (is_class d.store.held.objects v class)) d)
    (λ v rest is. ends_num (both 0 1 1 0) c (record c { refs = rest }) (number_of (is_class c.store.held.objects v class))
    (record { nums = omega arith; refs = omega (arith, is) })))

does_field_num : (k n : ℕ) (line : Line) (c : Config) → Does (both 0 1 1 0) c (field_num k n line c)
does_field_num k n line c =
    let e = both 0 1 1 0 in
    does_with_text e c k (λ class. when_number (form_in (forms_of class) n)
    (pop_object c (λ v d. attempted line (field_of d.store.held.objects v class n) (λ w. push_num (word_of w) (having (reading w) d)))))
    (λ class. does_number e c (form_in (forms_of class) n) (pop_object c
    (λ v d. attempted line (field_of d.store.held.objects v class n) (λ w. push_num (word_of w) (having (reading w) d))))
    (popped_object e c c (λ v d. attempted line (field_of d.store.held.objects v class n) (λ w. push_num (word_of w) (having (reading w) d)))
    (λ v rest is. does_attempted e c line (field_of c.store.held.objects v class n) (λ w. push_num (word_of w) (having (reading w) (record c { refs = rest })))
    (λ w. ends_num e c (having (reading w) (record c { refs = rest })) (word_of w) (record { nums = omega arith; refs = omega (arith, is) })))))

does_field_ref : (k n : ℕ) (line : Line) (c : Config) → Does (refs 1 1) c (field_ref k n line c)
does_field_ref k n line c =
    let e = refs 1 1 in
    does_with_text e c k (λ class. when_reference (form_in (forms_of class) n)
    (pop_object c (λ v d. attempted line (field_of d.store.held.objects v class n) (λ w. push_ref w (having (reading w) d)))))
    (λ class. does_reference e c (form_in (forms_of class) n)
    (pop_object c (λ v d. attempted line (field_of d.store.held.objects v class n) (λ w. push_ref w (having (reading w) d))))
    (popped_object e c c (λ v d. attempted line (field_of d.store.held.objects v class n) (λ w. push_ref w (having (reading w) d)))
    (λ v rest is. does_attempted e c line (field_of c.store.held.objects v class n) (λ w. push_ref w (having (reading w) (record c { refs = rest })))
    (λ w. ends_ref e c (having (reading w) (record c { refs = rest })) w (record { nums = refl; refs = omega (arith, is) })))))

does_set_field_num : (k n : ℕ) (line : Line) (c : Config) → Does (both 1 0 1 0) c (set_field_num k n line c)
does_set_field_num k n line c =
    let e = both 1 0 1 0 in
    does_with_text e c k _
    (λ class. does_number e c (form_in (forms_of class) n) _
    (popped_num e c c (λ z d. pop_object d (λ v f. attempted line (with_field f.store.held.objects v class n (kept_as (form_in (forms_of class) n) (Num z)))
    (λ heap. changed (held.Part (id_of v) n) heap f)))
    (λ z rest is. popped_object e c (record c { nums = rest })
    (λ v f. attempted line (with_field f.store.held.objects v class n (kept_as (form_in (forms_of class) n) (Num z))) (λ heap. changed (held.Part (id_of v) n) heap f))
    (λ v below is'. does_attempted e c line (with_field c.store.held.objects v class n (kept_as (form_in (forms_of class) n) (Num z)))
    (λ heap. changed (held.Part (id_of v) n) heap (record c { nums = rest; refs = below }))
    (λ heap. record { nums = omega (arith, ap length is); refs = omega (arith, is') })))))

does_set_field_ref : (k n : ℕ) (line : Line) (c : Config) → Does (refs 2 0) c (set_field_ref k n line c)
does_set_field_ref k n line c =
    let e = refs 2 0 in
    does_with_text e c k _
    (λ class. does_reference e c (form_in (forms_of class) n) _
    (popped_ref e c c (λ w d. pop_object d (λ v f. attempted line (with_field f.store.held.objects v class n w) (λ heap. changed (held.Part (id_of v) n) heap f)))
    (λ w rest is. popped_object e c (record c { refs = rest }) (λ v f. attempted line (with_field f.store.held.objects v class n w) (λ heap. changed (held.Part (id_of v) n) heap f))
    (λ v below is'. does_attempted e c line (with_field c.store.held.objects v class n w) (λ heap. changed (held.Part (id_of v) n) heap (record c { refs = below }))
    (λ heap. record { nums = refl; refs = omega (arith, ap length is, is') })))))

-- Vectors.

does_make : (e : Effect) (c d : Config) (denoting : ℕ → Value) (object : Object) →
    ((v : Value) (store : Store) → HasEffect e c (record d { refs = v ∷ d.refs; store = store })) → Does e c (make denoting object d)
does_make e c d denoting object h = ends_ref e c (holding (and_object object d.store) d) (denoting (new_number d.store.held.objects)) (h _ _)

does_fill_num : (k : ℕ) (line : Line) (c : Config) → Does (both 3 0 0 1) c (fill_num k line c)
does_fill_num k line c =
    let e = both 3 0 0 1 in
    does_with_text e c k _
    (λ ty. does_number e c (Some (element_of ty)) _
    (popped_num e c c (λ z d. pop_two d (λ low high f. attempted line (filled_vector ty low high (kept_as (Some (element_of ty)) (Num z)))
    (λ object. make value.Vector object f)))
    (λ z rest is. popped_num e c (record c { nums = rest }) (λ high d. pop_num d
    (λ low f. attempted line (filled_vector ty low high (kept_as (Some (element_of ty)) (Num z))) (λ object. make value.Vector object f)))
    (λ high below is'. popped_num e c (record c { nums = below })
    (λ low f. attempted line (filled_vector ty low high (kept_as (Some (element_of ty)) (Num z))) (λ object. make value.Vector object f))
    (λ low left is''. does_attempted e c line (filled_vector ty low high (kept_as (Some (element_of ty)) (Num z)))
    (λ object. make value.Vector object (record c { nums = left }))
    (λ object. does_make e c (record c { nums = left }) value.Vector object
    (λ v store. record { nums = omega (arith, ap length is, ap length is', ap length is''); refs = omega arith })))))))

does_fill_ref : (k : ℕ) (line : Line) (c : Config) → Does (both 2 0 1 1) c (fill_ref k line c)
does_fill_ref k line c =
    let e = both 2 0 1 1 in
    does_with_text e c k _
    (λ ty. does_reference e c (Some (element_of ty)) _
    (popped_ref e c c (λ v d. pop_two d (λ low high f. attempted line (filled_vector ty low high v) (λ object. make value.Vector object f)))
    (λ w rest is. popped_num e c (record c { refs = rest }) (λ high d. pop_num d
    (λ low f. attempted line (filled_vector ty low high w) (λ object. make value.Vector object f)))
    (λ high below is'. popped_num e c (record c { nums = below; refs = rest })
    (λ low f. attempted line (filled_vector ty low high w) (λ object. make value.Vector object f))
    (λ low left is''. does_attempted e c line (filled_vector ty low high w)
    (λ object. make value.Vector object (record c { nums = left; refs = rest }))
    (λ object. does_make e c (record c { nums = left; refs = rest }) value.Vector object
    (λ v store. record { nums = omega (arith, ap length is', ap length is''); refs = omega (arith, ap length is) })))))))

pub popped_nums : (e : Effect) (n : ℕ) (zs : List ℤ) (c d : Config) (next : List ℤ → Config → Step) →
    ((ws : List ℤ) (rest : List ℤ) → length d.nums ≡ n + length rest → Does e c (next ws (record d { nums = rest }))) →
    Does e c (pop_nums n zs d next)
popped_nums e zero zs c d next h = h zs d.nums (omega arith)
popped_nums e (suc n) zs c d next h =
    popped_num e c d (λ z f. pop_nums n (z ∷ zs) f next)
    (λ z rest is. popped_nums e n (z ∷ zs) c (record d { nums = rest }) next (λ ws left long. h ws left (omega (arith, ap length is, long))))

pub popped_refs : (e : Effect) (n : ℕ) (vs : List Value) (c d : Config) (next : List Value → Config → Step) →
    ((ws : List Value) (rest : List Value) → length d.refs ≡ n + length rest → Does e c (next ws (record d { refs = rest }))) →
    Does e c (pop_refs n vs d next)
popped_refs e zero vs c d next h = h vs d.refs (omega arith)
popped_refs e (suc n) vs c d next h =
    popped_ref e c d (λ v f. pop_refs n (v ∷ vs) f next)
    (λ v rest is. popped_refs e n (v ∷ vs) c (record d { refs = rest }) next (λ ws left long. h ws left (omega (arith, ap length is, long))))

does_list_num : (k n : ℕ) (line : Line) (c : Config) → Does (both (1 + n) 0 0 1) c (list_num k n line c)
does_list_num k n line c =
    let e = both (1 + n) 0 0 1 in
    does_with_text e c k _
    (λ ty. does_number e c (Some (element_of ty)) _
    (popped_nums e n [] c c (λ zs d. pop_num d (λ low f. attempted line (vector_of ty low (kept_elements ty (map Num zs)))
    (λ object. make value.Vector object f)))
    (λ zs rest long. popped_num e c (record c { nums = rest })
    (λ low f. attempted line (vector_of ty low (kept_elements ty (map Num zs))) (λ object. make value.Vector object f))
    (λ low below is. does_attempted e c line (vector_of ty low (kept_elements ty (map Num zs)))
    (λ object. make value.Vector object (record c { nums = below }))
    (λ object. does_make e c (record c { nums = below }) value.Vector object
    (λ v store. record { nums = omega (arith, long, ap length is); refs = omega arith }))))))

does_list_ref : (k n : ℕ) (line : Line) (c : Config) → Does (both 1 0 n 1) c (list_ref k n line c)
does_list_ref k n line c =
    let e = both 1 0 n 1 in
    does_with_text e c k _
    (λ ty. does_reference e c (Some (element_of ty)) _
    (popped_refs e n [] c c (λ vs d. pop_num d (λ low f. attempted line (vector_of ty low vs) (λ object. make value.Vector object f)))
    (λ vs rest long. popped_num e c (record c { refs = rest }) (λ low f. attempted line (vector_of ty low vs) (λ object. make value.Vector object f))
    (λ low below is. does_attempted e c line (vector_of ty low vs) (λ object. make value.Vector object (record c { nums = below; refs = rest }))
    (λ object. does_make e c (record c { nums = below; refs = rest }) value.Vector object
    (λ v store. record { nums = omega (arith, ap length is); refs = omega (arith, long) }))))))

does_element_num : (line : Line) (c : Config) → Does (both 1 1 1 0) c (element_num line c)
does_element_num line c =
    let e = both 1 1 1 0 in
    popped_num e c c (λ i d. pop_vector d (λ ty v f. attempted line (element_at f.store.held.objects v i)
    (λ w. when_number (Some (element_of ty)) (push_num (word_of w) (having (reading w) f)))))
    (λ i rest is. popped_vector e c (record c { nums = rest })
    (λ ty v f. attempted line (element_at f.store.held.objects v i) (λ w. when_number (Some (element_of ty)) (push_num (word_of w) (having (reading w) f))))
    (λ ty v below is'. does_attempted e c line (element_at c.store.held.objects v i)
    (λ w. when_number (Some (element_of ty)) (push_num (word_of w) (having (reading w) (record c { nums = rest; refs = below }))))
    (λ w. does_number e c (Some (element_of ty)) _
    (ends_num e c (having (reading w) (record c { nums = rest; refs = below })) (word_of w) (record { nums = omega (arith, ap length is); refs = omega (arith, is') })))))

does_element_ref : (line : Line) (c : Config) → Does (both 1 0 1 1) c (element_ref line c)
does_element_ref line c =
    let e = both 1 0 1 1 in
    popped_num e c c (λ i d. pop_vector d (λ ty v f. attempted line (element_at f.store.held.objects v i)
    (λ w. when_reference (Some (element_of ty)) (push_ref w (having (reading w) f)))))
    (λ i rest is. popped_vector e c (record c { nums = rest })
    (λ ty v f. attempted line (element_at f.store.held.objects v i) (λ w. when_reference (Some (element_of ty)) (push_ref w (having (reading w) f))))
    (λ ty v below is'. does_attempted e c line (element_at c.store.held.objects v i)
    (λ w. when_reference (Some (element_of ty)) (push_ref w (having (reading w) (record c { nums = rest; refs = below }))))
    (λ w. does_reference e c (Some (element_of ty)) _
    (ends_ref e c (having (reading w) (record c { nums = rest; refs = below })) w (record { nums = omega (arith, ap length is); refs = omega (arith, is') })))))

does_set_element_num : (line : Line) (c : Config) → Does (both 2 0 1 0) c (set_element_num line c)
does_set_element_num line c =
    let e = both 2 0 1 0 in
    let put : List ℕ → Value → ℤ → ℤ → Config → Step =
    λ ty v i z f. attempted line (with_element f.store.held.objects v i (kept_as (Some (element_of ty)) (Num z)))
    (λ heap. when_number (Some (element_of ty)) (changed (element_place f.store.held.objects v i) heap f)) in
    popped_num e c c (λ z d. pop_num d (λ i e. pop_vector e (λ ty v f. put ty v i z f)))
    (λ z rest is. popped_num e c (record c { nums = rest }) (λ i e. pop_vector e (λ ty v f. put ty v i z f))
    (λ i below is'. popped_vector e c (record c { nums = below }) (λ ty v f. put ty v i z f)
    (λ ty v left is''. does_attempted e c line (with_element c.store.held.objects v i (kept_as (Some (element_of ty)) (Num z)))
    (λ heap. when_number (Some (element_of ty)) (changed (element_place c.store.held.objects v i) heap (record c { nums = below; refs = left })))
    (λ heap. does_number e c (Some (element_of ty)) _ (record { nums = omega (arith, ap length is, ap length is'); refs = omega (arith, is'') })))))

does_set_element_ref : (line : Line) (c : Config) → Does (both 1 0 2 0) c (set_element_ref line c)
does_set_element_ref line c =
    let e = both 1 0 2 0 in
    let put : List ℕ → Value → ℤ → Value → Config → Step =
    λ ty v i w f. attempted line (with_element f.store.held.objects v i w) (λ heap. when_reference (Some (element_of ty)) (changed (element_place f.store.held.objects v i) heap f)) in
    popped_ref e c c (λ w d. pop_num d (λ i e. pop_vector e (λ ty v f. put ty v i w f)))
    (λ w rest is. popped_num e c (record c { refs = rest }) (λ i e. pop_vector e (λ ty v f. put ty v i w f))
    (λ i below is'. popped_vector e c (record c { nums = below; refs = rest }) (λ ty v f. put ty v i w f)
    (λ ty v left is''. does_attempted e c line (with_element c.store.held.objects v i w)
    (λ heap. when_reference (Some (element_of ty)) (changed (element_place c.store.held.objects v i) heap (record c { nums = below; refs = left })))
    (λ heap. does_reference e c (Some (element_of ty)) _ (record
    { nums = omega (arith, ap length is'); refs = omega (arith, ap length is, is'') })))))

does_bound : (of : Heap → Value → ℤ) (c : Config) → Does (both 0 1 1 0) c (bound of c)
does_bound of c =
    popped_vector (both 0 1 1 0) c c (λ ty v d. push_num (of d.store.held.objects v) d)
    (λ ty v rest is. ends_num (both 0 1 1 0) c (record c { refs = rest }) (of c.store.held.objects v)
    (record { nums = omega arith; refs = omega (arith, is) }))

-- the values of so many fields are popped, each from the stack of its form
popped_fields : (e : Effect) (forms : List Form) (vs : List Value) (c d : Config) (next : List Value → Config → Step) →
    ((ws : List Value) (zs : List ℤ) (rest : List Value) → length d.nums ≡ (rows_of forms).nums + length zs →
    length d.refs ≡ (rows_of forms).refs + length rest → Does e c (next ws (record d { nums = zs; refs = rest }))) →
    Does e c (pop_fields forms vs d next)
unfolding rows_of
popped_fields e [] vs c d next h = h vs d.nums d.refs (omega arith) (omega arith)
popped_fields e (form.Reference ∷ forms) vs c d next h =
    popped_ref e c d (λ v f. pop_fields forms (v ∷ vs) f next)
    (λ v rest is. popped_fields e forms (v ∷ vs) c (record d { refs = rest }) next
    (λ ws zs left on_nums on_refs. h ws zs left on_nums (omega (arith, ap length is, on_refs))))
popped_fields e (form.Number ∷ forms) vs c d next h =
    popped_num e c d (λ z f. pop_fields forms (kept_as (Some form.Number) (Num z) ∷ vs) f next)
    (λ z rest is. popped_fields e forms (kept_as (Some form.Number) (Num z) ∷ vs) c (record d { nums = rest }) next
    (λ ws zs left on_nums on_refs. h ws zs left (omega (arith, ap length is, on_nums)) on_refs))
popped_fields e (form.Flag ∷ forms) vs c d next h =
    popped_num e c d (λ z f. pop_fields forms (kept_as (Some form.Flag) (Num z) ∷ vs) f next)
    (λ z rest is. popped_fields e forms (kept_as (Some form.Flag) (Num z) ∷ vs) c (record d { nums = rest }) next
    (λ ws zs left on_nums on_refs. h ws zs left (omega (arith, ap length is, on_nums)) on_refs))

-- places in reverse are as many of each row
one_behind : (forms : List Form) (f : Form) → rows_of (forms ++ f ∷ []) ≡ rows_of (f ∷ forms)
unfolding rows_of
one_behind [] f = refl
one_behind (form.Reference ∷ forms) form.Reference = ap (one_more form.Reference) (one_behind forms form.Reference)
one_behind (form.Reference ∷ forms) form.Number = ap (one_more form.Reference) (one_behind forms form.Number)
one_behind (form.Reference ∷ forms) form.Flag = ap (one_more form.Reference) (one_behind forms form.Flag)
one_behind (form.Number ∷ forms) form.Reference = ap (one_more form.Number) (one_behind forms form.Reference)
one_behind (form.Number ∷ forms) form.Number = ap (one_more form.Number) (one_behind forms form.Number)
one_behind (form.Number ∷ forms) form.Flag = ap (one_more form.Number) (one_behind forms form.Flag)
one_behind (form.Flag ∷ forms) form.Reference = ap (one_more form.Flag) (one_behind forms form.Reference)
one_behind (form.Flag ∷ forms) form.Number = ap (one_more form.Flag) (one_behind forms form.Number)
one_behind (form.Flag ∷ forms) form.Flag = ap (one_more form.Flag) (one_behind forms form.Flag)

rows_in_reverse : (forms : List Form) → rows_of (reverse forms) ≡ rows_of forms
unfolding rows_of
rows_in_reverse [] = refl
rows_in_reverse (f ∷ forms) =
    ap rows_of (reverse-append (f ∷ []) forms) ∙ one_behind (reverse forms) f ∙ ap (one_more f) (rows_in_reverse forms)

does_make_structure : (k : ℕ) (c : Config) → Does (makes k) c (make_structure k c)
does_make_structure k c =
    let e = makes k in
    does_with_class e c k (λ class. pop_fields (reverse (forms_of class)) [] c (λ fields d. make value.Pointer (Structure class fields) d))
    (λ class named. popped_fields e (reverse (forms_of class)) [] c c (λ fields d. make value.Pointer (Structure class fields) d)
    (λ fields zs rest on_nums on_refs.
    let rows = rows_in_reverse (forms_of class) in
    let many_nums : (rows_of (reverse (forms_of class))).nums ≡ (rows_of (forms_of class)).nums = ap (λ (r : Rows). r.nums) rows in
    let many_refs : (rows_of (reverse (forms_of class))).refs ≡ (rows_of (forms_of class)).refs = ap (λ (r : Rows). r.refs) rows in
    does_make e c (record c { nums = zs; refs = rest }) value.Pointer (Structure class fields)
    (λ v store. record {
      class = class;
      named = named;
      moved = record { nums = omega (arith, on_nums, many_nums); refs = omega (arith, on_refs, many_refs) };
    })))

pub does_on_objects : (i : Instr) (c : Config) → Does (effect_of i) c (acts_on_objects i c)
does_on_objects instr.Nil c = does_push_ref c value.Nil
does_on_objects instr.EqP c = does_compare_objects relation.Equal c
does_on_objects instr.NeP c = does_compare_objects relation.NotEqual c
does_on_objects instr.EqT c = does_compare_texts relation.Equal c
does_on_objects instr.NeT c = does_compare_texts relation.NotEqual c
does_on_objects instr.LtT c = does_compare_texts relation.Less c
does_on_objects instr.LeT c = does_compare_texts relation.LessEqual c
does_on_objects instr.GtT c = does_compare_texts relation.Greater c
does_on_objects instr.GeT c = does_compare_texts relation.GreaterEqual c
does_on_objects (instr.Join line) c = does_join line c
does_on_objects (instr.Part line) c = does_part line c
does_on_objects (instr.Is k) c = does_is k c
does_on_objects (instr.Make k) c = does_make_structure k c
does_on_objects (instr.FieldM k i line) c = does_field_num k i line c
does_on_objects (instr.FieldP k i line) c = does_field_ref k i line c
does_on_objects (instr.SetFieldM k i line) c = does_set_field_num k i line c
does_on_objects (instr.SetFieldP k i line) c = does_set_field_ref k i line c
does_on_objects (instr.FillM k line) c = does_fill_num k line c
does_on_objects (instr.FillP k line) c = does_fill_ref k line c
does_on_objects (instr.ListM k n line) c = does_list_num k n line c
does_on_objects (instr.ListP k n line) c = does_list_ref k n line c
does_on_objects (instr.ElemM line) c = does_element_num line c
does_on_objects (instr.ElemP line) c = does_element_ref line c
does_on_objects (instr.SetElemM line) c = does_set_element_num line c
does_on_objects (instr.SetElemP line) c = does_set_element_ref line c
does_on_objects instr.Lwb c = does_bound low_of c
does_on_objects instr.Upb c = does_bound high_of c
does_on_objects i c = tt

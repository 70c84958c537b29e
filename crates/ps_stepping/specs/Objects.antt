-- What the machine does with instructions over structures, vectors and texts. Where what it finds on the stack of references isn't of the kind that the
-- instruction wants, it is stuck.
use Rattle.std.specs.Prelude.{ℕ, zero, suc, ℤ, List, [], ◌∷◌, map, reverse, Option, Some, None}
use Rattle.ps_meaning.specs.text_forms.declared.forms.Form.{Form}
use Rattle.ps_meaning.specs.text_forms.declared.forms.Form.TheVariants as form
use Rattle.ps_meaning.specs.text_forms.Forms.{forms_of, form_in, element_of}
use Rattle.ps_code.specs.ps_base.declared.line.Line.{Line}
use Rattle.ps_code.specs.ps_base.declared.operator.Relation.{Relation}
use Rattle.ps_code.specs.ps_base.declared.operator.Relation.TheVariants as relation
use Rattle.ps_code.specs.ps_base.declared.instr.Instr.{Instr}
use Rattle.ps_code.specs.ps_base.declared.instr.Instr.TheVariants as instr
use Rattle.ps_heap.specs.Texts.{join_of, part_of}
use Rattle.ps_heap.specs.Objects.{Heap, Object, Structure, Elements, object_at, new_number, is_class, field_of, with_field, vector_of, filled_vector, with_element, low_of, high_of, id_of, element_of as element_at}
use Rattle.ps_heap.specs.Values.{Value, Num, word_of, number_of, is_one}
use Rattle.ps_heap.specs.Values as value
use Rattle.ps_heap.specs.Held.{Held, Place, assigning, reading, element_place}
use Rattle.ps_heap.specs.Held as held
use Rattle.ps_meaning.specs.Meaning.{Store, on_held, and_object, and_text}
use Rattle.ps_meaning.specs.Operations.{kept_as, kept_elements, text_relation, object_relation}
use Rattle.ps_stepping.specs.Config.{Config}
use Rattle.ps_stepping.specs.Steps.{Step, Stuck, on, push_num, push_ref, pop_num, pop_ref, pop_two, pop_text, with_text, attempted}

-- the run goes on with this in its store
abbrev pub holding : Store → Config → Config
holding store c = record c { store = store }

-- with another thing held
abbrev pub having : (Held → Held) → Config → Config
having does c = holding (on_held (does c.store.held) c.store) c

-- a place is assigned, and this is the heap then
abbrev pub changed : Place → Heap → Config → Step
changed place heap c = on (having (assigning place heap) c)

-- a new object is made, and a reference to it pushed
abbrev pub make : (ℕ → Value) → Object → Config → Step
make denoting object c = push_ref (denoting (new_number c.store.held.objects)) (holding (and_object object c.store) c)

-- a new text
abbrev pub make_text : List ℕ → Config → Step
make_text bytes c = push_ref (value.Text bytes) (holding (and_text bytes c.store) c)

-- Texts.

abbrev pub join : Line → Config → Step
join line c = pop_text c (λ b d. pop_text d (λ a e. attempted line (join_of a b) (λ bytes. make_text bytes e)))

abbrev pub part : Line → Config → Step
part line c = pop_two c (λ i n d. pop_text d (λ a e. attempted line (part_of a i n) (λ bytes. make_text bytes e)))

abbrev pub compare_texts : Relation → Config → Step
compare_texts op c = pop_text c (λ b d. pop_text d (λ a e. push_num (number_of (text_relation op a b)) e))

-- Structures, and what may stand where one is wanted.

-- nil, a structure or a vector
abbrev pub denoting_of : Value → Config → (Value → Config → Step) → Step
denoting_of value.Nil c next = next value.Nil c
denoting_of (value.Pointer id) c next = next (value.Pointer id) c
denoting_of (value.Vector id) c next = next (value.Vector id) c
denoting_of _ c next = Stuck

abbrev pub pop_denoting : Config → (Value → Config → Step) → Step
pop_denoting c next = pop_ref c (λ v d. denoting_of v d next)

abbrev pub compare_objects : Relation → Config → Step
compare_objects op c = pop_denoting c (λ w d. pop_denoting d (λ v e. push_num (number_of (object_relation op v w)) e))

-- nil, or a structure
abbrev pub object_of : Value → Config → (Value → Config → Step) → Step
object_of value.Nil c next = next value.Nil c
object_of (value.Pointer id) c next = next (value.Pointer id) c
object_of _ c next = Stuck

abbrev pub pop_object : Config → (Value → Config → Step) → Step
pop_object c next = pop_ref c (λ v d. object_of v d next)

abbrev pub is_of_class : ℕ → Config → Step
is_of_class k c = with_text k c (λ class. pop_object c (λ v d. push_num (number_of (is_class d.store.held.objects v class)) d))

-- The values of the fields of a class, the last one first, are popped: each from the stack of its form.
abbrev pub pop_fields : List Form → List Value → Config → (List Value → Config → Step) → Step
pop_fields [] values c next = next values c
pop_fields (form.Reference ∷ forms) values c next = pop_ref c (λ v d. pop_fields forms (v ∷ values) d next)
pop_fields (form.Number ∷ forms) values c next = pop_num c (λ z d. pop_fields forms (kept_as (Some form.Number) (Num z) ∷ values) d next)
pop_fields (form.Flag ∷ forms) values c next = pop_num c (λ z d. pop_fields forms (kept_as (Some form.Flag) (Num z) ∷ values) d next)

abbrev pub make_structure : ℕ → Config → Step
make_structure k c = with_text k c (λ class. pop_fields (reverse (forms_of class)) [] c (λ fields d. make value.Pointer (Structure class fields) d))

-- a field whose form is one of numbers, or one of references
abbrev pub when_number : Option Form → Step → Step
when_number (Some form.Number) s = s
when_number (Some form.Flag) s = s
when_number _ s = Stuck

abbrev pub when_reference : Option Form → Step → Step
when_reference (Some form.Reference) s = s
when_reference _ s = Stuck

abbrev pub field_num : ℕ → ℕ → Line → Config → Step
field_num k n line c =
    with_text k c (λ class. when_number (form_in (forms_of class) n)
    (pop_object c (λ v d. attempted line (field_of d.store.held.objects v class n) (λ w. push_num (word_of w) (having (reading w) d)))))

abbrev pub field_ref : ℕ → ℕ → Line → Config → Step
field_ref k n line c =
    with_text k c (λ class. when_reference (form_in (forms_of class) n)
    (pop_object c (λ v d. attempted line (field_of d.store.held.objects v class n) (λ w. push_ref w (having (reading w) d)))))

abbrev pub set_field_num : ℕ → ℕ → Line → Config → Step
set_field_num k n line c =
    with_text k c (λ class. when_number (form_in (forms_of class) n)
    (pop_num c (λ z d. pop_object d (λ v e.
    attempted line (with_field e.store.held.objects v class n (kept_as (form_in (forms_of class) n) (Num z))) (λ heap. changed (held.Part (id_of v) n) heap e)))))

abbrev pub set_field_ref : ℕ → ℕ → Line → Config → Step
set_field_ref k n line c =
    with_text k c (λ class. when_reference (form_in (forms_of class) n)
    (pop_ref c (λ w d. pop_object d (λ v e. attempted line (with_field e.store.held.objects v class n w) (λ heap. changed (held.Part (id_of v) n) heap e)))))

-- Vectors.

-- the type's text of a vector, where a value denotes one
abbrev pub type_of_object : Option Object → Option (List ℕ)
type_of_object (Some (Elements ty low elements)) = Some ty
type_of_object _ = None

abbrev pub type_of : Heap → Value → Option (List ℕ)
type_of heap (value.Vector id) = type_of_object (object_at heap id)
type_of heap _ = None

abbrev pub of_type : Option (List ℕ) → (List ℕ → Step) → Step
of_type (Some ty) next = next ty
of_type None next = Stuck

-- a vector is popped, and what goes on knows its type's text
abbrev pub pop_vector : Config → (List ℕ → Value → Config → Step) → Step
pop_vector c next = pop_ref c (λ v d. of_type (type_of d.store.held.objects v) (λ ty. next ty v d))

abbrev pub fill_num : ℕ → Line → Config → Step
fill_num k line c =
    with_text k c (λ ty. when_number (Some (element_of ty))
    (pop_num c (λ z d. pop_two d (λ low high e. attempted line (filled_vector ty low high (kept_as (Some (element_of ty)) (Num z))) (λ object. make value.Vector object e)))))

abbrev pub fill_ref : ℕ → Line → Config → Step
fill_ref k line c =
    with_text k c (λ ty. when_reference (Some (element_of ty))
    (pop_ref c (λ v d. pop_two d (λ low high e. attempted line (filled_vector ty low high v) (λ object. make value.Vector object e)))))

-- so many elements, the last one first
abbrev pub pop_nums : ℕ → List ℤ → Config → (List ℤ → Config → Step) → Step
pop_nums zero zs c next = next zs c
pop_nums (suc n) zs c next = pop_num c (λ z d. pop_nums n (z ∷ zs) d next)

abbrev pub pop_refs : ℕ → List Value → Config → (List Value → Config → Step) → Step
pop_refs zero vs c next = next vs c
pop_refs (suc n) vs c next = pop_ref c (λ v d. pop_refs n (v ∷ vs) d next)

abbrev pub list_num : ℕ → ℕ → Line → Config → Step
list_num k n line c =
    with_text k c (λ ty. when_number (Some (element_of ty))
    (pop_nums n [] c (λ zs d. pop_num d (λ low e. attempted line (vector_of ty low (kept_elements ty (map Num zs))) (λ object. make value.Vector object e)))))

abbrev pub list_ref : ℕ → ℕ → Line → Config → Step
list_ref k n line c =
    with_text k c (λ ty. when_reference (Some (element_of ty))
    (pop_refs n [] c (λ vs d. pop_num d (λ low e. attempted line (vector_of ty low vs) (λ object. make value.Vector object e)))))

abbrev pub element_num : Line → Config → Step
element_num line c =
    pop_num c (λ i d. pop_vector d (λ ty v e.
    attempted line (element_at e.store.held.objects v i) (λ w. when_number (Some (element_of ty)) (push_num (word_of w) (having (reading w) e)))))

abbrev pub element_ref : Line → Config → Step
element_ref line c =
    pop_num c (λ i d. pop_vector d (λ ty v e.
    attempted line (element_at e.store.held.objects v i) (λ w. when_reference (Some (element_of ty)) (push_ref w (having (reading w) e)))))

abbrev pub set_element_num : Line → Config → Step
set_element_num line c =
    pop_num c (λ z d. pop_num d (λ i e. pop_vector e (λ ty v f.
    attempted line (with_element f.store.held.objects v i (kept_as (Some (element_of ty)) (Num z))) (λ heap. when_number (Some (element_of ty)) (changed (element_place f.store.held.objects v i) heap f)))))

abbrev pub set_element_ref : Line → Config → Step
set_element_ref line c =
    pop_ref c (λ w d. pop_num d (λ i e. pop_vector e (λ ty v f.
    attempted line (with_element f.store.held.objects v i w) (λ heap. when_reference (Some (element_of ty)) (changed (element_place f.store.held.objects v i) heap f)))))

abbrev pub bound : (Heap → Value → ℤ) → Config → Step
bound of c = pop_vector c (λ ty v d. push_num (of d.store.held.objects v) d)

-- What an instruction over structures, vectors and texts does; the configuration stands after it already. All others are stuck here.
abbrev pub acts_on_objects : Instr → Config → Step
acts_on_objects instr.Nil c = push_ref value.Nil c
acts_on_objects instr.EqP c = compare_objects relation.Equal c
acts_on_objects instr.NeP c = compare_objects relation.NotEqual c
acts_on_objects instr.EqT c = compare_texts relation.Equal c
acts_on_objects instr.NeT c = compare_texts relation.NotEqual c
acts_on_objects instr.LtT c = compare_texts relation.Less c
acts_on_objects instr.LeT c = compare_texts relation.LessEqual c
acts_on_objects instr.GtT c = compare_texts relation.Greater c
acts_on_objects instr.GeT c = compare_texts relation.GreaterEqual c
acts_on_objects (instr.Join line) c = join line c
acts_on_objects (instr.Part line) c = part line c
acts_on_objects (instr.Is k) c = is_of_class k c
acts_on_objects (instr.Make k) c = make_structure k c
acts_on_objects (instr.FieldM k i line) c = field_num k i line c
acts_on_objects (instr.FieldP k i line) c = field_ref k i line c
acts_on_objects (instr.SetFieldM k i line) c = set_field_num k i line c
acts_on_objects (instr.SetFieldP k i line) c = set_field_ref k i line c
acts_on_objects (instr.FillM k line) c = fill_num k line c
acts_on_objects (instr.FillP k line) c = fill_ref k line c
acts_on_objects (instr.ListM k n line) c = list_num k n line c
acts_on_objects (instr.ListP k n line) c = list_ref k n line c
acts_on_objects (instr.ElemM line) c = element_num line c
acts_on_objects (instr.ElemP line) c = element_ref line c
acts_on_objects (instr.SetElemM line) c = set_element_num line c
acts_on_objects (instr.SetElemP line) c = set_element_ref line c
acts_on_objects instr.Lwb c = bound low_of c
acts_on_objects instr.Upb c = bound high_of c
acts_on_objects _ c = Stuck

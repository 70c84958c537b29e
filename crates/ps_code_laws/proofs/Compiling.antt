-- What is read of the machine's heap is what is read of the meaning's, compiled; and what is written to the one is written to the other.
use Rattle.std.proofs.Common.{◌≡◌, ℕ, zero, suc, ◌+◌, ℤ, pos, ◌+ℤ◌, ◌-ℤ◌, Bool, true, false, List, [], ◌∷◌, length, map, set, replicate, Option, Some, None, refl, sym, ap, ◌∙◌}
use Rattle.std.specs.Prelude.{◌*◌, not, if◌then◌else◌}
use Rattle.std.proofs.Math.ListN.{get_or-map}
use Rattle.std.proofs.lemmas.List.{length-map, map-append, map-set}
use Rattle.ps_gen.specs.ps_base.declared.trap.Trap.{Trap}
use Rattle.ps_gen.specs.ps_base.declared.trap.Trap.TheVariants as trap
use Rattle.ps_gen.specs.ps_base.declared.operator.Relation.{Relation}
use Rattle.ps_gen.specs.ps_base.declared.operator.Relation.TheVariants as relation
use Rattle.ps_stepping.specs.text_forms.declared.forms.Form.{Form}
use Rattle.ps_stepping.specs.text_forms.declared.forms.Form.TheVariants as form
use Rattle.ps_stepping.specs.text_forms.Forms.{forms_of, form_in, element_of}
use Rattle.ps_stepping.specs.ps_heap.Texts.{Attempt, Yields, Fails}
use Rattle.ps_stepping.specs.ps_heap.Values.{Value, Num, Flag, Nil, Pointer, Vector, Procedure, Nothing, word_of, is_one, flag_of}
use Rattle.ps_stepping.specs.ps_heap.Objects.{Heap, Object, Structure, Elements, Scope, Keyed, object_at, with_object, with_new, new_number, value_at, kept_as, is_of, is_class, fields_in, field_of, with_field, place_of, is_vector, is_made, vector_of, count_from, filled_vector, low_in, elements_in, type_in, vector_in, found_at, put_at, with_element, low_of, high_of, is_one_object, element_of as element_at}
use Rattle.ps_stepping.specs.ps_heap.Scopes.{first_value, new_scope, scope_at, parent_in, names_in, scope_out, name_in, with_name_in, with_name, kept_name, with_kept_name}
use Rattle.ps_stepping.specs.ps_heap.Weights.{own_weight}
use Rattle.ps_stepping.specs.ps_heap.Held.{Held, made}
use Rattle.ps_stepping.specs.ps_meaning.Meaning.{Store, on_held, and_object}
use Rattle.ps_stepping.specs.ps_meaning.Operations.{kept_elements, kept_all, object_relation}
use Rattle.ps_code_laws.specs.Compiled.{compiled, compiled_all, compiled_object, compiled_heap, compiled_held, compiled_store}

-- Numbers, flags and texts are as they were.
pub word_compiled : (v : Value) → word_of (compiled v) ≡ word_of v
word_compiled (Procedure does scope) = refl
word_compiled v = refl

pub flag_compiled : (v : Value) → flag_of (compiled v) ≡ flag_of v
flag_compiled v = ap is_one (word_compiled v)

-- as they are kept
pub kept_compiled : (form : Option Form) (v : Value) → kept_as form (compiled v) ≡ compiled (kept_as form v)
kept_compiled None v = refl
kept_compiled (Some form.Number) v = ap Num (word_compiled v)
kept_compiled (Some form.Flag) v = ap Flag (flag_compiled v)
kept_compiled (Some form.Reference) v = refl

pub all_kept_compiled : (forms : List Form) (vs : List Value) → kept_all forms (compiled_all vs) ≡ compiled_all (kept_all forms vs)
unfolding kept_all
all_kept_compiled [] vs = refl
all_kept_compiled (form ∷ forms) [] = refl
all_kept_compiled (form ∷ forms) (v ∷ vs) =
    ap (λ (w : Value). w ∷ kept_all forms (compiled_all vs)) (kept_compiled (Some form) v)
    ∙ ap (λ (ws : List Value). compiled (kept_as (Some form) v) ∷ ws) (all_kept_compiled forms vs)

pub elements_kept_compiled : (text : List ℕ) (vs : List Value) → kept_elements text (compiled_all vs) ≡ compiled_all (kept_elements text vs)
elements_kept_compiled text [] = refl
elements_kept_compiled text (v ∷ vs) =
    ap (λ (w : Value). w ∷ kept_elements text (compiled_all vs)) (kept_compiled (Some (element_of text)) v)
    ∙ ap (λ (ws : List Value). compiled (kept_as (Some (element_of text)) v) ∷ ws) (elements_kept_compiled text vs)

-- lists of values
pub value_compiled : (vs : List Value) (n : ℕ) → value_at (compiled_all vs) n ≡ compiled (value_at vs n)
value_compiled vs n = get_or-map compiled vs n Nothing

pub values_put : (vs : List Value) (n : ℕ) (v : Value) → set (compiled_all vs) n (compiled v) ≡ compiled_all (set vs n v)
values_put vs n v = sym (map-set compiled vs n v)

pub replicate_compiled : (n : ℕ) (v : Value) → replicate n (compiled v) ≡ compiled_all (replicate n v)
replicate_compiled zero v = refl
replicate_compiled (suc n) v = ap (λ (vs : List Value). compiled v ∷ vs) (replicate_compiled n v)

-- Objects, by their numbers.

abbrev pub compiled_found : Option Object → Option Object
compiled_found None = None
compiled_found (Some object) = Some (compiled_object object)

pub object_compiled : (heap : Heap) (id : ℕ) → object_at (compiled_heap heap) id ≡ compiled_found (object_at heap id)
object_compiled [] id = refl
object_compiled (object ∷ objects) zero = refl
object_compiled (object ∷ objects) (suc id) = object_compiled objects id

pub object_put : (heap : Heap) (id : ℕ) (object : Object) →
    with_object (compiled_heap heap) id (compiled_object object) ≡ compiled_heap (with_object heap id object)
object_put heap id object = sym (map-set compiled_object heap id object)

pub number_compiled : (heap : Heap) → new_number (compiled_heap heap) ≡ new_number heap
number_compiled heap = length-map heap compiled_object

pub new_compiled : (heap : Heap) (object : Object) → with_new (compiled_heap heap) (compiled_object object) ≡ compiled_heap (with_new heap object)
new_compiled heap object = sym (map-append compiled_object heap (object ∷ []))

pub weight_compiled : (object : Object) → own_weight (compiled_object object) ≡ own_weight object
weight_compiled (Structure class fields) = ap (λ (n : ℕ). 48 + 8 * n) (length-map fields compiled)
weight_compiled (Elements ty low elements) = ap (λ (n : ℕ). 56 + 8 * n) (length-map elements compiled)
weight_compiled (Scope text parent names) = ap (λ (n : ℕ). 56 + 8 * n) (length-map names compiled)
weight_compiled (Keyed table) = refl

-- What an operation yields, compiled; a trap stays.

abbrev pub compiled_attempt : {A : Type 0} → (A → A) → Attempt A → Attempt A
compiled_attempt f (Yields a) = Yields (f a)
compiled_attempt f (Fails trap) = Fails trap

if_yields : {A : Type 0} (f : A → A) (b : Bool) (a : A) (trap : Trap) →
    (if b then Yields (f a) else Fails trap) ≡ compiled_attempt f (if b then Yields a else Fails trap)
if_yields f true a trap = refl
if_yields f false a trap = refl

-- Structures.

is_of_compiled : (found : Option Object) (class : List ℕ) → is_of (compiled_found found) class ≡ is_of found class
is_of_compiled None class = refl
is_of_compiled (Some (Structure text fields)) class = refl
is_of_compiled (Some (Elements ty low elements)) class = refl
is_of_compiled (Some (Keyed table)) class = refl
is_of_compiled (Some (Scope text parent names)) class = refl

pub class_compiled : (heap : Heap) (v : Value) (class : List ℕ) → is_class (compiled_heap heap) (compiled v) class ≡ is_class heap v class
unfolding is_class
class_compiled heap (Pointer id) class =
    ap (λ (found : Option Object). is_of found class) (object_compiled heap id) ∙ is_of_compiled (object_at heap id) class
class_compiled heap v class = refl

fields_compiled : (found : Option Object) → fields_in (compiled_found found) ≡ compiled_all (fields_in found)
fields_compiled None = refl
fields_compiled (Some (Structure text fields)) = refl
fields_compiled (Some (Elements ty low elements)) = refl
fields_compiled (Some (Keyed table)) = refl
fields_compiled (Some (Scope text parent names)) = refl

field_found : (found : Option Object) (class : List ℕ) (n : ℕ) →
    (if is_of (compiled_found found) class then Yields (value_at (fields_in (compiled_found found)) n) else Fails trap.WrongClass)
    ≡ compiled_attempt compiled (if is_of found class then Yields (value_at (fields_in found) n) else Fails trap.WrongClass)
field_found found class n =
    ap (λ (b : Bool). if b then Yields (value_at (fields_in (compiled_found found)) n) else Fails trap.WrongClass) (is_of_compiled found class)
    ∙ ap (λ (v : Value). if is_of found class then Yields v else Fails trap.WrongClass)
    (ap (λ (vs : List Value). value_at vs n) (fields_compiled found) ∙ value_compiled (fields_in found) n)
    ∙ if_yields compiled (is_of found class) (value_at (fields_in found) n) trap.WrongClass

pub field_compiled : (heap : Heap) (v : Value) (class : List ℕ) (n : ℕ) →
    field_of (compiled_heap heap) (compiled v) class n ≡ compiled_attempt compiled (field_of heap v class n)
unfolding field_of
field_compiled heap Nil class n = refl
field_compiled heap (Pointer id) class n =
    ap (λ (found : Option Object). if is_of found class then Yields (value_at (fields_in found) n) else Fails trap.WrongClass) (object_compiled heap id)
    ∙ field_found (object_at heap id) class n
field_compiled heap v class n = refl

field_put : (heap : Heap) (id : ℕ) (found : Option Object) (class : List ℕ) (n : ℕ) (v : Value) →
    (if is_of (compiled_found found) class
    then Yields (with_object (compiled_heap heap) id (Structure class (set (fields_in (compiled_found found)) n (compiled v)))) else Fails trap.WrongClass)
    ≡ compiled_attempt compiled_heap
    (if is_of found class then Yields (with_object heap id (Structure class (set (fields_in found) n v))) else Fails trap.WrongClass)
field_put heap id found class n v =
    let after : Heap → Attempt Heap = λ (new : Heap). if is_of found class then Yields new else Fails trap.WrongClass in
    ap (λ (b : Bool). if b then Yields (with_object (compiled_heap heap) id (Structure class (set (fields_in (compiled_found found)) n (compiled v))))
    else Fails trap.WrongClass) (is_of_compiled found class)
    ∙ ap (λ (fields : List Value). after (with_object (compiled_heap heap) id (Structure class fields)))
    (ap (λ (fields : List Value). set fields n (compiled v)) (fields_compiled found) ∙ values_put (fields_in found) n v)
    ∙ ap after (object_put heap id (Structure class (set (fields_in found) n v)))
    ∙ if_yields compiled_heap (is_of found class) (with_object heap id (Structure class (set (fields_in found) n v))) trap.WrongClass

pub with_field_compiled : (heap : Heap) (o : Value) (class : List ℕ) (n : ℕ) (v : Value) →
    with_field (compiled_heap heap) (compiled o) class n (compiled v) ≡ compiled_attempt compiled_heap (with_field heap o class n v)
unfolding with_field
with_field_compiled heap Nil class n v = refl
with_field_compiled heap (Pointer id) class n v =
    ap (λ (found : Option Object). if is_of found class
    then Yields (with_object (compiled_heap heap) id (Structure class (set (fields_in found) n (compiled v)))) else Fails trap.WrongClass)
    (object_compiled heap id)
    ∙ field_put heap id (object_at heap id) class n v
with_field_compiled heap o class n v = refl

-- Vectors.

made_compiled : (is : Bool) (object : Object) → is_made is (compiled_object object) ≡ compiled_attempt compiled_object (is_made is object)
made_compiled true object = refl
made_compiled false object = refl

pub vector_compiled : (ty : List ℕ) (low : ℤ) (vs : List Value) →
    vector_of ty low (compiled_all vs) ≡ compiled_attempt compiled_object (vector_of ty low vs)
unfolding vector_of
vector_compiled ty low vs =
    ap (λ (n : ℕ). is_made (is_vector low n) (Elements ty low (compiled_all vs))) (length-map vs compiled)
    ∙ made_compiled (is_vector low (length vs)) (Elements ty low vs)

pub filled_compiled : (ty : List ℕ) (low high : ℤ) (v : Value) →
    filled_vector ty low high (compiled v) ≡ compiled_attempt compiled_object (filled_vector ty low high v)
unfolding filled_vector
filled_compiled ty low high v =
    ap (vector_of ty low) (replicate_compiled (count_from (high -ℤ low)) v) ∙ vector_compiled ty low (replicate (count_from (high -ℤ low)) v)

pub found_compiled : (heap : Heap) (v : Value) → vector_in (compiled_heap heap) (compiled v) ≡ compiled_found (vector_in heap v)
found_compiled heap (Vector id) = object_compiled heap id
found_compiled heap v = refl

pub low_compiled : (found : Option Object) → low_in (compiled_found found) ≡ low_in found
low_compiled None = refl
low_compiled (Some (Structure text fields)) = refl
low_compiled (Some (Elements ty low elements)) = refl
low_compiled (Some (Keyed table)) = refl
low_compiled (Some (Scope text parent names)) = refl

elements_compiled : (found : Option Object) → elements_in (compiled_found found) ≡ compiled_all (elements_in found)
elements_compiled None = refl
elements_compiled (Some (Structure text fields)) = refl
elements_compiled (Some (Elements ty low elements)) = refl
elements_compiled (Some (Keyed table)) = refl
elements_compiled (Some (Scope text parent names)) = refl

pub type_compiled : (found : Option Object) → type_in (compiled_found found) ≡ type_in found
type_compiled None = refl
type_compiled (Some (Structure text fields)) = refl
type_compiled (Some (Elements ty low elements)) = refl
type_compiled (Some (Keyed table)) = refl
type_compiled (Some (Scope text parent names)) = refl

count_compiled : (found : Option Object) → length (elements_in (compiled_found found)) ≡ length (elements_in found)
count_compiled found = ap length (elements_compiled found) ∙ length-map (elements_in found) compiled

-- the place of a subscript
pub place_compiled : (found : Option Object) (at : ℤ) →
    place_of (low_in (compiled_found found)) (length (elements_in (compiled_found found))) at
    ≡ place_of (low_in found) (length (elements_in found)) at
place_compiled found at =
    ap (λ (low : ℤ). place_of low (length (elements_in (compiled_found found))) at) (low_compiled found)
    ∙ ap (λ (n : ℕ). place_of (low_in found) n at) (count_compiled found)

read_compiled : (place : Option ℕ) (vs : List Value) → found_at place (compiled_all vs) ≡ compiled_attempt compiled (found_at place vs)
read_compiled None vs = refl
read_compiled (Some n) vs = ap Yields (value_compiled vs n)

pub element_compiled : (heap : Heap) (v : Value) (at : ℤ) →
    element_at (compiled_heap heap) (compiled v) at ≡ compiled_attempt compiled (element_at heap v at)
unfolding element_at
element_compiled heap v at =
    let vector = vector_in heap v in
    ap (λ (found : Option Object). found_at (place_of (low_in found) (length (elements_in found)) at) (elements_in found)) (found_compiled heap v)
    ∙ ap (λ (place : Option ℕ). found_at place (elements_in (compiled_found vector))) (place_compiled vector at)
    ∙ ap (found_at (place_of (low_in vector) (length (elements_in vector)) at)) (elements_compiled vector)
    ∙ read_compiled (place_of (low_in vector) (length (elements_in vector)) at) (elements_in vector)

element_put : (heap : Heap) (id : ℕ) (place : Option ℕ) (v : Value) →
    put_at (compiled_heap heap) (Vector id) place (compiled v) ≡ compiled_attempt compiled_heap (put_at heap (Vector id) place v)
element_put heap id None v = refl
element_put heap id (Some n) v =
    let vector = object_at heap id in
    let of : Option Object → Heap =
    λ (found : Option Object). with_object (compiled_heap heap) id (Elements (type_in found) (low_in found) (set (elements_in found) n (compiled v))) in
    let over : List ℕ → ℤ → List Value → Heap = λ ty low elements. with_object (compiled_heap heap) id (Elements ty low elements) in
    ap Yields (ap of (object_compiled heap id)
    ∙ ap (λ (ty : List ℕ). over ty (low_in (compiled_found vector)) (set (elements_in (compiled_found vector)) n (compiled v))) (type_compiled vector)
    ∙ ap (λ (low : ℤ). over (type_in vector) low (set (elements_in (compiled_found vector)) n (compiled v))) (low_compiled vector)
    ∙ ap (over (type_in vector) (low_in vector))
    (ap (λ (elements : List Value). set elements n (compiled v)) (elements_compiled vector) ∙ values_put (elements_in vector) n v)
    ∙ object_put heap id (Elements (type_in vector) (low_in vector) (set (elements_in vector) n v)))

put_compiled : (heap : Heap) (vector : Value) (place : Option ℕ) (v : Value) →
    put_at (compiled_heap heap) (compiled vector) place (compiled v) ≡ compiled_attempt compiled_heap (put_at heap vector place v)
put_compiled heap (Vector id) place v = element_put heap id place v
put_compiled heap vector place v = refl

pub with_element_compiled : (heap : Heap) (vector : Value) (at : ℤ) (v : Value) →
    with_element (compiled_heap heap) (compiled vector) at (compiled v) ≡ compiled_attempt compiled_heap (with_element heap vector at v)
unfolding with_element
with_element_compiled heap vector at v =
    let found = vector_in heap vector in
    ap (λ (of : Option Object). put_at (compiled_heap heap) (compiled vector) (place_of (low_in of) (length (elements_in of)) at) (compiled v))
    (found_compiled heap vector)
    ∙ ap (λ (place : Option ℕ). put_at (compiled_heap heap) (compiled vector) place (compiled v)) (place_compiled found at)
    ∙ put_compiled heap vector (place_of (low_in found) (length (elements_in found)) at) v

pub low_bound_compiled : (heap : Heap) (v : Value) → low_of (compiled_heap heap) (compiled v) ≡ low_of heap v
unfolding low_of
low_bound_compiled heap v = ap low_in (found_compiled heap v) ∙ low_compiled (vector_in heap v)

pub high_bound_compiled : (heap : Heap) (v : Value) → high_of (compiled_heap heap) (compiled v) ≡ high_of heap v
unfolding high_of
high_bound_compiled heap v =
    ap (λ (low : ℤ). low +ℤ (pos (length (elements_in (vector_in (compiled_heap heap) (compiled v)))) -ℤ pos 1)) (low_bound_compiled heap v)
    ∙ ap (λ (n : ℕ). low_of heap v +ℤ (pos n -ℤ pos 1))
    (ap (λ (found : Option Object). length (elements_in found)) (found_compiled heap v) ∙ count_compiled (vector_in heap v))

-- Identity.

pub same_compiled : (v w : Value) → is_one_object (compiled v) (compiled w) ≡ is_one_object v w
unfolding is_one_object
same_compiled Nil (Procedure does scope) = refl
same_compiled Nil w = refl
same_compiled (Pointer a) (Procedure does scope) = refl
same_compiled (Pointer a) w = refl
same_compiled (Vector a) (Procedure does scope) = refl
same_compiled (Vector a) w = refl
same_compiled v w = refl

pub relation_compiled : (op : Relation) (v w : Value) → object_relation op (compiled v) (compiled w) ≡ object_relation op v w
relation_compiled relation.NotEqual v w = ap (λ (b : Bool). not b) (same_compiled v w)
relation_compiled op v w = same_compiled v w

-- Scopes.

first_compiled : (form : Form) → compiled (first_value form) ≡ first_value form
first_compiled form.Number = refl
first_compiled form.Flag = refl
first_compiled form.Reference = refl

first_all : (forms : List Form) → map first_value forms ≡ compiled_all (map first_value forms)
first_all [] = refl
first_all (form ∷ forms) =
    ap (λ (v : Value). v ∷ map first_value forms) (sym (first_compiled form))
    ∙ ap (λ (vs : List Value). compiled (first_value form) ∷ vs) (first_all forms)

pub new_scope_compiled : (text : List ℕ) (parent : Option ℕ) → new_scope text parent ≡ compiled_object (new_scope text parent)
unfolding new_scope
new_scope_compiled text parent = ap (Scope text parent) (first_all (forms_of text))

pub scope_compiled : (heap : Heap) (scope : Option ℕ) → scope_at (compiled_heap heap) scope ≡ compiled_found (scope_at heap scope)
scope_compiled heap None = refl
scope_compiled heap (Some id) = object_compiled heap id

pub parent_compiled : (found : Option Object) → parent_in (compiled_found found) ≡ parent_in found
parent_compiled None = refl
parent_compiled (Some (Structure text fields)) = refl
parent_compiled (Some (Elements ty low elements)) = refl
parent_compiled (Some (Keyed table)) = refl
parent_compiled (Some (Scope text parent names)) = refl

names_compiled : (found : Option Object) → names_in (compiled_found found) ≡ compiled_all (names_in found)
names_compiled None = refl
names_compiled (Some (Structure text fields)) = refl
names_compiled (Some (Elements ty low elements)) = refl
names_compiled (Some (Keyed table)) = refl
names_compiled (Some (Scope text parent names)) = refl

pub out_compiled : (heap : Heap) (scope : Option ℕ) (up : ℕ) → scope_out (compiled_heap heap) scope up ≡ scope_out heap scope up
unfolding scope_out
out_compiled heap scope zero = refl
out_compiled heap scope (suc up) =
    ap (λ (of : Option ℕ). scope_out (compiled_heap heap) of up) (ap parent_in (scope_compiled heap scope) ∙ parent_compiled (scope_at heap scope))
    ∙ out_compiled heap (parent_in (scope_at heap scope)) up

pub name_compiled : (heap : Heap) (scope : Option ℕ) (position : ℕ) →
    name_in (compiled_heap heap) scope position ≡ compiled (name_in heap scope position)
unfolding name_in
name_compiled heap scope position =
    ap (λ (names : List Value). value_at names position) (ap names_in (scope_compiled heap scope) ∙ names_compiled (scope_at heap scope))
    ∙ value_compiled (names_in (scope_at heap scope)) position

pub kept_name_compiled : (heap : Heap) (scope : Option ℕ) (up position : ℕ) →
    kept_name (compiled_heap heap) scope up position ≡ compiled (kept_name heap scope up position)
kept_name_compiled heap scope up position =
    ap (λ (of : Option ℕ). name_in (compiled_heap heap) of position) (out_compiled heap scope up)
    ∙ name_compiled heap (scope_out heap scope up) position

name_put : (heap : Heap) (id : ℕ) (found : Option Object) (position : ℕ) (v : Value) →
    with_name_in (compiled_heap heap) id (compiled_found found) position (compiled v) ≡ compiled_heap (with_name_in heap id found position v)
name_put heap id None position v = refl
name_put heap id (Some (Structure text fields)) position v = refl
name_put heap id (Some (Elements ty low elements)) position v = refl
name_put heap id (Some (Keyed table)) position v = refl
name_put heap id (Some (Scope text parent names)) position v =
    let kept = form_in (forms_of text) position in
    ap (λ (vs : List Value). with_object (compiled_heap heap) id (Scope text parent vs))
    (ap (set (compiled_all names) position) (kept_compiled kept v) ∙ values_put names position (kept_as kept v))
    ∙ object_put heap id (Scope text parent (set names position (kept_as kept v)))

pub with_name_compiled : (heap : Heap) (scope : Option ℕ) (position : ℕ) (v : Value) →
    with_name (compiled_heap heap) scope position (compiled v) ≡ compiled_heap (with_name heap scope position v)
unfolding with_name
with_name_compiled heap None position v = refl
with_name_compiled heap (Some id) position v =
    ap (λ (found : Option Object). with_name_in (compiled_heap heap) id found position (compiled v)) (object_compiled heap id)
    ∙ name_put heap id (object_at heap id) position v

pub with_kept_name_compiled : (heap : Heap) (scope : Option ℕ) (up position : ℕ) (v : Value) →
    with_kept_name (compiled_heap heap) scope up position (compiled v) ≡ compiled_heap (with_kept_name heap scope up position v)
with_kept_name_compiled heap scope up position v =
    ap (λ (of : Option ℕ). with_name (compiled_heap heap) of position (compiled v)) (out_compiled heap scope up)
    ∙ with_name_compiled heap (scope_out heap scope up) position v

-- What is held.

pub object_held : (object : Object) (held : Held) → made (compiled_object object) (compiled_held held) ≡ compiled_held (made object held)
object_held object held =
    let with_both : Heap → ℕ → Held = λ heap weight. record held { objects = heap; counted = held.counted + weight } in
    ap (λ (heap : Heap). with_both heap (own_weight (compiled_object object))) (new_compiled held.objects object)
    ∙ ap (with_both (compiled_heap (with_new held.objects object))) (weight_compiled object)

pub and_object_compiled : (object : Object) (store : Store) →
    and_object (compiled_object object) (compiled_store store) ≡ compiled_store (and_object object store)
and_object_compiled object store = ap (λ (held : Held). on_held held store) (object_held object store.held)

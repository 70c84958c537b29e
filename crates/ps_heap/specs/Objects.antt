-- The heap: structures, vectors, scopes and tables; what is read of structures and vectors and written to them; and the table that a value denotes.
use Rattle.std.specs.Prelude.{ℕ, zero, suc, ◌^◌, ℤ, pos, negsuc, ◌+ℤ◌, ◌-ℤ◌, Bool, true, false, ◌&&◌, nat_lt, nat_eq, if◌then◌else◌, List, [], ◌∷◌, ◌++◌, length, get_or, set, replicate, Option, Some, None}
use Rattle.text_forms.specs.declared.forms.Form.{Form}
use Rattle.text_forms.specs.declared.forms.Form.TheVariants as form
use Rattle.ps_base.specs.Limits.{most_elements}
use Rattle.ps_base.specs.declared.trap.Trap.TheVariants as trap
use Rattle.ps_heap.specs.Operators.{is_int}
use Rattle.ps_heap.specs.Texts.{Attempt, Yields, Fails, is_same_text}
use Rattle.ps_heap.specs.Tables.{Table}
use Rattle.ps_heap.specs.Values.{Value, Num, Flag, Nil, Pointer, Vector, Nothing, word_of, flag_of}

-- A structure has the text of its class and the values of its fields, in their order. A vector has the text of its type, its lower bound
-- and its elements. A scope has its text, the scope round it or none, and the values of its names, in their order. Texts and procedures are values
-- and no objects.
pub data Object : Type 0 where
  Structure : (class : List ℕ) (fields : List Value) → Object
  Elements : (ty : List ℕ) (low : ℤ) (elements : List Value) → Object
  Scope : (text : List ℕ) (parent : Option ℕ) (names : List Value) → Object
  Keyed : (table : Table) → Object

-- the objects, each under its number
abbrev pub Heap : Type 0
Heap = List Object

abbrev pub object_at : Heap → ℕ → Option Object
object_at [] id = None
object_at (o ∷ os) zero = Some o
object_at (o ∷ os) (suc id) = object_at os id

-- the heap with another object under this number
abbrev pub with_object : Heap → ℕ → Object → Heap
with_object heap id object = set heap id object

-- the heap with one object more, and its number
abbrev pub with_new : Heap → Object → Heap
with_new heap object = heap ++ object ∷ []

abbrev pub new_number : Heap → ℕ
new_number heap = length heap

abbrev pub value_at : List Value → ℕ → Value
value_at values n = get_or values n Nothing

-- a value as it is kept in a place of a form: an int, a bool, or else as it is
abbrev pub kept_as : Option Form → Value → Value
kept_as (Some form.Number) v = Num (word_of v)
kept_as (Some form.Flag) v = Flag (flag_of v)
kept_as _ v = v

-- Structures. Two classes are the same where their texts are.

abbrev pub is_of : Option Object → List ℕ → Bool
is_of (Some (Structure text fields)) class = is_same_text text class
is_of (Some (Elements ty low elements)) class = false
is_of (Some (Scope text parent names)) class = false
is_of (Some (Keyed table)) class = false
is_of None class = false

-- whether a value denotes a structure of a class: nil does not
unfoldable pub is_class : Heap → Value → List ℕ → Bool
is_class heap (Pointer id) class = is_of (object_at heap id) class
is_class heap _ class = false

abbrev pub fields_in : Option Object → List Value
fields_in (Some (Structure text fields)) = fields
fields_in _ = []

-- a field of the object of this number, where it is of the class
abbrev pub field_in : Heap → ℕ → List ℕ → ℕ → Attempt Value
field_in heap id class n =
    if is_of (object_at heap id) class then Yields (value_at (fields_in (object_at heap id)) n) else Fails trap.WrongClass

-- The field of a class of what a value denotes: nil has none, nor has an object of another class.
unfoldable pub field_of : Heap → Value → List ℕ → ℕ → Attempt Value
field_of heap Nil class n = Fails trap.Nil
field_of heap (Pointer id) class n = field_in heap id class n
field_of heap _ class n = Fails trap.WrongClass

abbrev pub with_field_in : Heap → ℕ → List ℕ → ℕ → Value → Attempt Heap
with_field_in heap id class n v =
    if is_of (object_at heap id) class then Yields (with_object heap id (Structure class (set (fields_in (object_at heap id)) n v)))
    else Fails trap.WrongClass

-- the heap with another value in that field
unfoldable pub with_field : Heap → Value → List ℕ → ℕ → Value → Attempt Heap
with_field heap Nil class n v = Fails trap.Nil
with_field heap (Pointer id) class n v = with_field_in heap id class n v
with_field heap _ class n v = Fails trap.WrongClass

-- Vectors.

-- the place of a subscript, from 0
abbrev pub place_from : ℤ → ℕ → Option ℕ
place_from (pos n) count = if nat_lt n count then Some n else None
place_from (negsuc n) count = None

-- of so many elements from this lower bound on
abbrev pub place_of : ℤ → ℕ → ℤ → Option ℕ
place_of low count at = place_from (at -ℤ low) count

-- A vector has 1 to `most_elements` elements, and its upper bound is an int.
abbrev pub is_vector : ℤ → ℕ → Bool
is_vector low zero = false
is_vector low (suc n) = nat_lt n most_elements && is_int (low +ℤ pos n)

abbrev pub is_made : Bool → Object → Attempt Object
is_made true object = Yields object
is_made false object = Fails trap.Bounds

-- a vector of these elements
unfoldable pub vector_of : List ℕ → ℤ → List Value → Attempt Object
vector_of ty low elements = is_made (is_vector low (length elements)) (Elements ty low elements)

-- how many elements there are between two bounds
abbrev pub count_from : ℤ → ℕ
count_from (pos n) = suc n
count_from (negsuc n) = 0

-- a vector whose elements all have this value; an upper bound below the lower one is a trap
unfoldable pub filled_vector : List ℕ → ℤ → ℤ → Value → Attempt Object
filled_vector ty low high v = vector_of ty low (replicate (count_from (high -ℤ low)) v)

abbrev pub low_in : Option Object → ℤ
low_in (Some (Elements ty low elements)) = low
low_in _ = pos 0

abbrev pub elements_in : Option Object → List Value
elements_in (Some (Elements ty low elements)) = elements
elements_in _ = []

abbrev pub type_in : Option Object → List ℕ
type_in (Some (Elements ty low elements)) = ty
type_in _ = []

abbrev pub vector_in : Heap → Value → Option Object
vector_in heap (Vector id) = object_at heap id
vector_in heap _ = None

abbrev pub found_at : Option ℕ → List Value → Attempt Value
found_at (Some n) elements = Yields (value_at elements n)
found_at None elements = Fails trap.Bounds

-- the element of a vector at a subscript
unfoldable pub element_of : Heap → Value → ℤ → Attempt Value
element_of heap v at =
    let vector = vector_in heap v in
    found_at (place_of (low_in vector) (length (elements_in vector)) at) (elements_in vector)

abbrev pub put_at : Heap → Value → Option ℕ → Value → Attempt Heap
put_at heap (Vector id) (Some n) e =
    let vector = object_at heap id in
    Yields (with_object heap id (Elements (type_in vector) (low_in vector) (set (elements_in vector) n e)))
put_at heap _ _ e = Fails trap.Bounds

-- the heap with another value there
unfoldable pub with_element : Heap → Value → ℤ → Value → Attempt Heap
with_element heap v at e =
    let vector = vector_in heap v in
    put_at heap v (place_of (low_in vector) (length (elements_in vector)) at) e

unfoldable pub low_of : Heap → Value → ℤ
low_of heap v = low_in (vector_in heap v)

unfoldable pub high_of : Heap → Value → ℤ
high_of heap v = low_of heap v +ℤ (pos (length (elements_in (vector_in heap v))) -ℤ pos 1)

-- Two values of type pntr or of a vector's type are one where they denote the same object, or are both nil.
unfoldable pub is_one_object : Value → Value → Bool
is_one_object Nil Nil = true
is_one_object (Pointer a) (Pointer b) = nat_eq a b
is_one_object (Vector a) (Vector b) = nat_eq a b
is_one_object v w = false

-- Tables. Nil is no table, and no other object is one.

abbrev pub table_in : Option Object → Attempt Table
table_in (Some (Keyed table)) = Yields table
table_in _ = Fails trap.WrongClass

unfoldable pub table_of : Heap → Value → Attempt Table
table_of heap Nil = Fails trap.Nil
table_of heap (Pointer id) = table_in (object_at heap id)
table_of heap _ = Fails trap.WrongClass

-- the id of the object that a value denotes
abbrev pub id_of : Value → ℕ
id_of (Pointer id) = id
id_of (Vector id) = id
id_of _ = 0

-- what a pntr that is under a key denotes; nil is nothing
abbrev pub object_of_value : Value → Option ℕ
object_of_value (Pointer id) = Some id
object_of_value _ = None

abbrev pub value_of_object : Option ℕ → Value
value_of_object None = Nil
value_of_object (Some id) = Pointer id

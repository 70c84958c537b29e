-- Values of types, over a heap, whichever bodies are procedures of a type there. A vector's value is an object with the text of its type, and each place of an
-- object holds a value of the type that its text names.
use Rattle.std.specs.Prelude.{◌≡◌, ◌⊎◌, ℕ, ℤ, Bool, true, false, List, [], ◌∷◌, length, codes, Option, Some}
use Rattle.std.specs.List.{AllByRecursion}
use Rattle.ps_meaning.specs.ps_base.TyView.{TyView}
use Rattle.ps_meaning.specs.ps_base.TyView as types
use Rattle.ps_meaning.specs.text_forms.Classes.{form_of_type}
use Rattle.ps_meaning.specs.ps_program.Node.{BodyNode}
use Rattle.ps_type_text.specs.Texts.{Field, type_text, class_text, IsNamed}
use Rattle.ps_meaning.specs.ps_typing.Checking.{isnt_void}
use Rattle.ps_meaning.specs.ps_typing.WellTyped.{Local}
use Rattle.ps_heap.specs.Operators.{is_int}
use Rattle.ps_heap.specs.Texts.{is_string}
use Rattle.ps_heap.specs.Values.{Value, Num, Flag, Text, Nil, Pointer, Vector, Procedure, as_written, Nothing}
use Rattle.ps_heap.specs.Tables.{Table, without_keys, by_strings, by_ints}
use Rattle.ps_heap.specs.Databases.{Directory}
use Rattle.ps_heap.specs.Held.{Held}
use Rattle.ps_heap.specs.Events.{Event, Commit}
use Rattle.ps_heap.specs.Objects.{Heap, Object, Structure, Elements, Scope, Keyed, object_at, is_vector}
use Rattle.ps_heap.specs.Scopes.{first_value}
use Rattle.ps_meaning.specs.Meaning.{Frame, local_of}

-- What is asked: which bodies, made in which scopes, are procedures of a type; of which types the names that a scope keeps may be; what the scope round a
-- scope is, where there is one; and what is so of a table beside its entries.
pub record Asked : Type 1 where
  pub procedures : Heap → TyView → BodyNode → Option ℕ → Type 0
  pub named : TyView → Type 0
  pub round : Heap → Option ℕ → Type 0
  pub tabled : Table → Type 0

-- a structure or a table has this number: what a pntr denotes
pub data IsPointedAt (heap : Heap) (id : ℕ) : Type 0 where
  at_structure : (class : List ℕ) (fields : List Value) → object_at heap id ≡ Some (Structure class fields) → IsPointedAt heap id
  at_table : (table : Table) → object_at heap id ≡ Some (Keyed table) → IsPointedAt heap id

-- a vector of this type has this number
pub record IsVectorAt (heap : Heap) (ty : TyView) (id : ℕ) : Type 0 where
  pub low : ℤ
  pub elements : List Value
  pub is : object_at heap id ≡ Some (Elements (type_text ty) low elements)

-- a value that is neither a number nor nil nor a pointer: a name that holds such a one never holds nil again
abbrev pub is_given : Value → Bool
is_given (Num z) = false
is_given (Flag b) = false
is_given Nil = false
is_given (Pointer id) = false
is_given _ = true

-- a value of a type
abbrev pub IsOf : Asked → Heap → TyView → Value → Type 0
IsOf asked heap types.Int (Num z) = is_int z ≡ true
IsOf asked heap types.Bool (Flag b) = Unit {0}
IsOf asked heap types.Str (Text bytes) = is_string bytes ≡ true
IsOf asked heap types.Pntr Nil = Unit {0}
IsOf asked heap types.Pntr (Pointer id) = IsPointedAt heap id
IsOf asked heap (types.Vector element) (Vector id) = IsVectorAt heap (types.Vector element) id
IsOf asked heap (types.Proc parameters gives) (Procedure (as_written of) scope) = asked.procedures heap (types.Proc parameters gives) of scope
IsOf asked heap types.Void Nothing = Unit {0}
IsOf asked heap _ v = ⊥

-- values of the types of fields, each of its own
abbrev pub AreOf : Asked → Heap → List Field → List Value → Type 0
AreOf asked heap [] [] = Unit {0}
AreOf asked heap (field ∷ fields) (v ∷ vs) = IsOf asked heap field.ty v × AreOf asked heap fields vs
AreOf asked heap _ vs = ⊥

-- the fields of a structure are of the types that the text of its class names
pub record IsTypedStructure (asked : Asked) (heap : Heap) (class : List ℕ) (values : List Value) : Type 0 where
  pub name : List ℕ
  pub fields : List Field
  pub named : IsNamed name fields
  pub class_is : class ≡ class_text name fields
  pub nonvoid : AllByRecursion (λ field. isnt_void field.ty ≡ true) fields
  pub are : AreOf asked heap fields values

-- the elements of a vector are of the type that its text names
pub record IsTypedVector (asked : Asked) (heap : Heap) (text : List ℕ) (low : ℤ) (values : List Value) : Type 0 where
  pub element : TyView
  pub nonvoid : isnt_void element ≡ true
  pub text_is : text ≡ type_text (types.Vector element)
  pub low_is : is_int low ≡ true
  pub fits : is_vector low (length values) ≡ true
  pub are : AllByRecursion (IsOf asked heap element) values

-- a name holds a value of its type, or what it held at first
abbrev pub AreNames : Asked → Heap → List Field → List Value → Type 0
AreNames asked heap [] [] = Unit {0}
AreNames asked heap (field ∷ fields) (v ∷ vs) = ((IsOf asked heap field.ty v × asked.named field.ty) ⊎ (v ≡ first_value (form_of_type field.ty))) × AreNames asked heap fields vs
AreNames asked heap fields vs = ⊥

-- the names of a scope are those that its text names
pub record IsTypedScope (asked : Asked) (heap : Heap) (text : List ℕ) (parent : Option ℕ) (names : List Value) : Type 0 where
  pub fields : List Field
  pub named : IsNamed (codes "scope") fields
  pub text_is : text ≡ class_text (codes "scope") fields
  pub round : asked.round heap parent
  pub are : AreNames asked heap fields names

-- an entry has a string or an int as its key, and a structure or a table under it
abbrev pub IsTypedTable : Heap → Table → Type 0
IsTypedTable heap without_keys = Unit {0}
IsTypedTable heap (by_strings entries) = AllByRecursion (λ entry. (is_string entry.key ≡ true) × IsPointedAt heap entry.object) entries
IsTypedTable heap (by_ints entries) = AllByRecursion (λ entry. (is_int entry.key ≡ true) × IsPointedAt heap entry.object) entries

abbrev pub IsTypedObject : Asked → Heap → Object → Type 0
IsTypedObject asked heap (Structure class values) = IsTypedStructure asked heap class values
IsTypedObject asked heap (Elements text low values) = IsTypedVector asked heap text low values
IsTypedObject asked heap (Scope text parent names) = IsTypedScope asked heap text parent names
IsTypedObject asked heap (Keyed table) = IsTypedTable heap table × asked.tabled table

-- each object of a heap is typed
abbrev pub IsTypedHeap : Asked → Heap → Type 0
IsTypedHeap asked heap = (id : ℕ) (object : Object) → object_at heap id ≡ Some object → IsTypedObject asked heap object

-- each root of a database is a structure or a table
abbrev pub AreRoots : Heap → Directory → Type 0
AreRoots heap directory = AllByRecursion (λ database. IsPointedAt heap database.root) directory

-- what a run holds is typed: its heap, and the roots of its databases
abbrev pub IsTypedHeld : Asked → Held → Type 0
IsTypedHeld asked held = IsTypedHeap asked held.objects × AreRoots held.objects held.directory

-- each local in scope has a value of its type
abbrev pub AreLocals : Asked → Heap → Frame → List Local → Type 0
AreLocals asked heap frame [] = Unit {0}
AreLocals asked heap frame (local ∷ locals) = IsOf asked heap local.ty (local_of frame local.ty local.slot) × AreLocals asked heap frame locals

-- what held a value that isn't nil for good still does
abbrev pub StayGiven : List Value → List Value → Type 0
StayGiven [] [] = Unit {0}
StayGiven (v ∷ vs) (w ∷ ws) = (is_given v ≡ true → is_given w ≡ true) × StayGiven vs ws
StayGiven vs ws = ⊥

-- an object keeps its class, or its type and its bounds, or its text and its parent; a table stays one
abbrev pub IsSameSort : Object → Object → Type 0
IsSameSort (Structure class values) (Structure other others) = other ≡ class
IsSameSort (Elements text low values) (Elements other bound others) = (other ≡ text) × (bound ≡ low) × (length others ≡ length values)
IsSameSort (Scope text parent names) (Scope other round others) = (other ≡ text) × (round ≡ parent) × StayGiven names others
IsSameSort (Keyed table) (Keyed other) = Unit {0}
IsSameSort _ other = ⊥

-- objects stay, with what they are
pub record Stays (new : Heap) (id : ℕ) (object : Object) : Type 0 where
  pub now : Object
  pub is : object_at new id ≡ Some now
  pub sort : IsSameSort object now

abbrev pub Grows : Heap → Heap → Type 0
Grows old new = (id : ℕ) (object : Object) → object_at old id ≡ Some object → Stays new id object

-- each commit among these events saves objects that are typed, and databases whose roots are structures or tables
abbrev pub AreTypedCommits : Asked → List Event → Type 0
AreTypedCommits asked [] = Unit {0}
AreTypedCommits asked (Commit heap counted ∷ events) =
    (IsTypedHeap asked heap.objects × AreRoots heap.objects heap.directory) × AreTypedCommits asked events
AreTypedCommits asked (event ∷ events) = AreTypedCommits asked events

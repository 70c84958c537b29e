-- Which heaps that were kept are fit: each place holds a value of the type that its text names, and each procedure is fit for the scopes round it.
use Rattle.std.specs.Prelude.{◌≡◌, ◌≢◌, ◌⊎◌, ℕ, ℤ, ◌+◌, ◌≤◌, true, Option, Some, None, List, [], ◌∷◌, length, map, codes}
use Rattle.std.specs.List.{AllByRecursion}
use Rattle.ps_heap.specs.ps_base.TyView.{TyView}
use Rattle.ps_heap.specs.ps_base.TyView as types
use Rattle.ps_heap.specs.ps_base.Limits.{most_databases, most_database_name_bytes, most_password_bytes}
use Rattle.ps_soundness.specs.ps_program.Node.{BodyNode}
use Rattle.ps_soundness.specs.ps_type_text.Texts.{Field, type_text, class_text, IsNamed}
use Rattle.ps_heap.specs.Operators.{is_int}
use Rattle.ps_heap.specs.Texts.{is_string}
use Rattle.ps_heap.specs.Values.{Value, Num, Flag, Text, Nil, Pointer, Vector, Procedure, as_written}
use Rattle.ps_heap.specs.text_forms.Classes.{form_of_type}
use Rattle.ps_heap.specs.Objects.{is_vector}
use Rattle.ps_heap.specs.Scopes.{first_value}
pub use Rattle.ps_soundness.specs.Shapes.{IsPointedAt, at_structure, at_table}
use Rattle.ps_soundness.specs.Shapes.{type_of_body}
use Rattle.ps_soundness.specs.Valued.{IsValued}
use Rattle.ps_heap.specs.Tables.{Entry, Table, without_keys, by_strings, by_ints, IsInKeyOrder}
use Rattle.ps_heap.specs.Objects.{Heap, Object, Structure, Elements, Scope, Keyed, object_at}
use Rattle.ps_heap.specs.References.{values_of}
use Rattle.ps_heap.specs.Databases.{Database, Directory}
use Rattle.ps_heap.specs.Held.{StoredHeap, home_at}
use Rattle.database_meaning.specs.Same.{IsInHeap}
use Rattle.heap_fit.specs.Slots.{mentions}
use Rattle.heap_fit.specs.Bodies.{whole, IsFitBody}

pub record IsVectorAt (heap : Heap) (ty : TyView) (id : ℕ) : Type 0 where
  pub low : ℤ
  pub elements : List Value
  pub is : object_at heap id ≡ Some (Elements (type_text ty) low elements)

-- the scopes from one outward to the last, innermost first, by their names; a chain without an end has none
pub data AreRound (heap : Heap) : Option ℕ → List (List Field) → Type 0 where
  none_round : AreRound heap None []
  one_round : {id : ℕ} {names : List Field} {parent : Option ℕ} {values : List Value} {more : List (List Field)} →
      object_at heap id ≡ Some (Scope (class_text (codes "scope") names) parent values) → IsNamed (codes "scope") names → AreRound heap parent more →
      AreRound heap (Some id) (names ∷ more)

-- a procedure of this type, whose body is fit for all scopes round it
pub record IsFitProcedure (heap : Heap) (ty : TyView) (of : BodyNode) (scope : Option ℕ) : Type 0 where
  pub scopes : List (List Field)
  pub round : AreRound heap scope scopes
  pub fit : IsFitBody (map whole scopes) of
  pub ty_is : ty ≡ type_of_body of

-- a value of a type
abbrev pub IsFitValue : Heap → TyView → Value → Type 0
IsFitValue heap types.Int (Num z) = is_int z ≡ true
IsFitValue heap types.Bool (Flag b) = Unit {0}
IsFitValue heap types.Str (Text bytes) = is_string bytes ≡ true
IsFitValue heap types.Pntr Nil = Unit {0}
IsFitValue heap types.Pntr (Pointer id) = IsPointedAt heap id
IsFitValue heap (types.Vector element) (Vector id) = IsVectorAt heap (types.Vector element) id
IsFitValue heap (types.Proc parameters gives) (Procedure (as_written of) scope) = IsFitProcedure heap (types.Proc parameters gives) of scope
IsFitValue heap ty v = ⊥

-- values of the types of fields, each of its own
abbrev pub AreFitValues : Heap → List Field → List Value → Type 0
AreFitValues heap [] [] = Unit {0}
AreFitValues heap (field ∷ fields) (v ∷ vs) = IsFitValue heap field.ty v × AreFitValues heap fields vs
AreFitValues heap _ vs = ⊥

-- the scope so many levels out from one is this scope
pub data IsOut (heap : Heap) (id : ℕ) : Option ℕ → ℕ → Type 0 where
  here : IsOut heap id (Some id) 0
  further : {other out : ℕ} {text : List ℕ} {parent : Option ℕ} {values : List Value} →
      object_at heap other ≡ Some (Scope text parent values) → IsOut heap id parent out → IsOut heap id (Some other) (out + 1)

abbrev pub HasPart : Value → List Value → Type 0
HasPart v [] = ⊥
HasPart v (w ∷ ws) = (v ≡ w) ⊎ HasPart v ws

-- a procedure in a place of the heap, over this scope or one inside it, that mentions the name at a position
pub record IsMentioned (stored : StoredHeap) (id position : ℕ) : Type 0 where
  pub holder : ℕ
  pub there : IsInHeap stored holder
  pub object : Object
  pub is : object_at stored.objects holder ≡ Some object
  pub of : BodyNode
  pub scope : Option ℕ
  pub has : HasPart (Procedure (as_written of) scope) (values_of object)
  pub out : ℕ
  pub round : IsOut stored.objects id scope out
  pub mentioned : mentions out position of ≡ true

-- The names of a scope from a position on: each holds a value of its type, or what it held at first, where no procedure mentions it. So a reference may be
-- nil; an int, a bool and a pntr hold values of their types from the beginning on.
abbrev pub AreFitNames : StoredHeap → ℕ → ℕ → List Field → List Value → Type 0
AreFitNames stored id position [] [] = Unit {0}
AreFitNames stored id position (field ∷ fields) (v ∷ vs) =
    (IsFitValue stored.objects field.ty v ⊎ ((v ≡ first_value (form_of_type field.ty)) × (IsMentioned stored id position → ⊥))) × AreFitNames stored id (position + 1) fields vs
AreFitNames stored id position _ vs = ⊥

pub record IsFitStructure (heap : Heap) (class : List ℕ) (values : List Value) : Type 0 where
  pub name : List ℕ
  pub fields : List Field
  pub named : IsNamed name fields
  pub class_is : class ≡ class_text name fields
  pub are : AreFitValues heap fields values

pub record IsFitVector (heap : Heap) (text : List ℕ) (low : ℤ) (values : List Value) : Type 0 where
  pub element : TyView
  pub valued : IsValued element
  pub text_is : text ≡ type_text (types.Vector element)
  pub low_is : is_int low ≡ true
  pub fits : is_vector low (length values) ≡ true
  pub are : AllByRecursion (IsFitValue heap element) values

-- a scope whose parents come to an end: so none is its own parent
pub record IsFitScope (stored : StoredHeap) (id : ℕ) (text : List ℕ) (parent : Option ℕ) (values : List Value) : Type 0 where
  pub names : List Field
  pub named : IsNamed (codes "scope") names
  pub text_is : text ≡ class_text (codes "scope") names
  pub scopes : List (List Field)
  pub round : AreRound stored.objects parent scopes
  pub are : AreFitNames stored id 0 names values

abbrev pub AreFitEntries : {K : Type 0} → Heap → (K → Type 0) → List (Entry K) → Type 0
AreFitEntries heap IsKey entries = AllByRecursion (λ entry. IsKey entry.key × IsPointedAt heap entry.object) entries

abbrev pub IsFitTable : Heap → Table → Type 0
IsFitTable heap without_keys = Unit {0}
IsFitTable heap (by_strings entries) = AreFitEntries heap (λ key. is_string key ≡ true) entries × IsInKeyOrder (by_strings entries)
IsFitTable heap (by_ints entries) = AreFitEntries heap (λ key. is_int key ≡ true) entries × IsInKeyOrder (by_ints entries)

abbrev pub IsFitObject : StoredHeap → ℕ → Object → Type 0
IsFitObject stored id (Structure class fields) = IsFitStructure stored.objects class fields
IsFitObject stored id (Elements ty low elements) = IsFitVector stored.objects ty low elements
IsFitObject stored id (Scope text parent names) = IsFitScope stored id text parent names
IsFitObject stored id (Keyed table) = IsFitTable stored.objects table

-- a database has a name and a password within the limits, and a table as its root
pub record IsFitDatabase (heap : Heap) (of : Database) : Type 0 where
  pub named : 1 ≤ length of.name
  pub name : length of.name ≤ most_database_name_bytes
  pub password : length of.password ≤ most_password_bytes
  pub table : Table
  pub root : object_at heap of.root ≡ Some (Keyed table)

abbrev pub AreNamedOnce : Directory → Type 0
AreNamedOnce [] = Unit {0}
AreNamedOnce (d ∷ ds) = AllByRecursion (λ other. other.name ≢ d.name) ds × AreNamedOnce ds

-- what is reached is there, is fit, and is at home in a database
pub record IsFitAt (stored : StoredHeap) (id : ℕ) : Type 0 where
  pub object : Object
  pub is : object_at stored.objects id ≡ Some object
  pub fit : IsFitObject stored id object
  pub home : ℕ
  pub home_is : home_at stored.homes id ≡ Some home
  pub first : 1 ≤ home
  pub last : home ≤ length stored.directory

-- A heap that was kept is fit. It says nothing of objects that no root reaches.
pub record IsFitHeap (stored : StoredHeap) : Type 0 where
  pub few : length stored.directory ≤ most_databases
  pub databases : AllByRecursion (IsFitDatabase stored.objects) stored.directory
  pub once : AreNamedOnce stored.directory
  pub each : (id : ℕ) → IsInHeap stored id → IsFitAt stored id

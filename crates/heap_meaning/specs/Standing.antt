-- Objects that are seen stand for the objects of a heap, under a pairing of their names with numbers: structures, vectors, scopes and tables.
use Rattle.std.specs.Prelude.{◌≡◌, ◌⊎◌, ℕ, ℤ, true, List, [], ◌∷◌, ◌++◌, length, replicate, Option, Some, None}
use Rattle.proc_values.specs.obj_layout.declared.kind.Kind.{Kind}
use Rattle.proc_values.specs.obj_layout.declared.kind.Kind.TheVariants as kind
use Rattle.proc_values.specs.obj_layout.declared.reference.Reference as reference
use Rattle.proc_values.specs.swizzle.Joint.{Shown}
use Rattle.proc_values.specs.text_forms.declared.forms.Form.{Form}
use Rattle.proc_values.specs.text_forms.declared.forms.Form.TheVariants as form
use Rattle.proc_values.specs.text_forms.Forms.{forms_of, element_of}
use Rattle.heap_ops.specs.heap_places.Words.{int_in, flag_in}
use Rattle.heap_ops.specs.heap_places.Shapes.{IsText}
use Rattle.proc_values.specs.ps_heap.Values.{Value, Num, Flag}
use Rattle.proc_values.specs.ps_heap.Objects.{Heap, Object, Structure, Elements, Scope, Keyed, object_at, is_vector}
use Rattle.heap_meaning.specs.Tables.{TablesStand}
pub use Rattle.heap_meaning.specs.Values.{Seen, Pairing, IsKindOf, IsPointed, StandsForScope, IsClosure, StandsForProcedure, StandsFor}

-- a word stands for an int or a bool
abbrev pub IsWordOf : ℕ → Form → Value → Type 0
IsWordOf word form.Number (Num z) = int_in word ≡ Some z
IsWordOf word form.Flag (Flag b) = flag_in word ≡ Some b
IsWordOf word _ v = ⊥

-- The rows of an object, its references and its number words, stand for values in places of these forms.
abbrev pub AreFor : Seen → Pairing → List Form → List reference.Reference → List ℕ → List Value → Type 0
AreFor seen pair (form.Reference ∷ forms) (n ∷ ns) words (v ∷ vs) = StandsFor seen pair n v × AreFor seen pair forms ns words vs
AreFor seen pair (form.Number ∷ forms) ns (word ∷ words) (v ∷ vs) = IsWordOf word form.Number v × AreFor seen pair forms ns words vs
AreFor seen pair (form.Flag ∷ forms) ns (word ∷ words) (v ∷ vs) = IsWordOf word form.Flag v × AreFor seen pair forms ns words vs
AreFor seen pair [] [] [] [] = Unit {0}
AreFor seen pair _ _ _ _ = ⊥

-- An object of this kind that refers to a text first, and has these words before those of its values.
pub record IsAs (seen : Seen) (pair : Pairing) (it : Shown) (of : Kind) (text : List ℕ) (first : ℕ → List ℕ) (forms : List Form) (values : List Value) : Type 0 where
  pub kind_is : it.kind ≡ of
  pub text_name : reference.Reference
  pub home : ℕ
  pub names : List reference.Reference
  pub words : List ℕ
  pub refs : it.refs ≡ text_name ∷ names
  pub nums : it.nums ≡ first home ++ words
  pub is_text : IsText seen text_name text
  pub are : AreFor seen pair forms names words values

-- What is seen of a structure: its class's text, its home, and the values of its fields.
abbrev pub IsStructure : Seen → Pairing → Shown → List ℕ → List Value → Type 0
IsStructure seen pair it class fields = IsAs seen pair it kind.Structure class (λ home. home ∷ []) (forms_of class) fields

-- And of a vector: its type's text, its home, its lower bound, and its elements.
pub record IsVector (seen : Seen) (pair : Pairing) (it : Shown) (ty : List ℕ) (low : ℤ) (elements : List Value) : Type 0 where
  pub bound : ℕ
  pub bound_is : int_in bound ≡ Some low
  pub fits : is_vector low (length elements) ≡ true
  pub rows : IsAs seen pair it kind.Vector ty (λ home. home ∷ bound ∷ []) (replicate (length elements) (element_of ty)) elements

-- And of a scope: its text, its parent, its home, and the values of its names.
pub record IsScope (seen : Seen) (pair : Pairing) (it : Shown) (text : List ℕ) (parent : Option ℕ) (values : List Value) : Type 0 where
  pub kind_is : it.kind ≡ kind.Scope
  pub text_name : reference.Reference
  pub parent_name : reference.Reference
  pub home : ℕ
  pub names : List reference.Reference
  pub words : List ℕ
  pub refs : it.refs ≡ text_name ∷ parent_name ∷ names
  pub nums : it.nums ≡ home ∷ words
  pub is_text : IsText seen text_name text
  pub is_parent : StandsForScope seen pair parent_name parent
  pub are : AreFor seen pair (forms_of text) names words values

-- What is seen stands for an object of the heap. What a table's words and nodes tell is said of all tables at once (`TablesStand`).
abbrev pub IsLike : Seen → Pairing → Shown → Object → Type 0
IsLike seen pair it (Structure class fields) = IsStructure seen pair it class fields
IsLike seen pair it (Elements ty low elements) = IsVector seen pair it ty low elements
IsLike seen pair it (Scope text parent names) = IsScope seen pair it text parent names
IsLike seen pair it (Keyed table) = it.kind ≡ kind.Table

-- an object that is no table
abbrev pub IsPlain : Object → Type 0
IsPlain (Keyed table) = ⊥
IsPlain object = Unit {0}

-- The object of a name and that of the number that goes with it.
pub record Both (seen : Seen) (heap : Heap) (pair : Pairing) (n : reference.Reference) (id : ℕ) : Type 0 where
  pub it : Shown
  pub object : Object
  pub there : seen n it
  pub means : object_at heap id ≡ Some object
  pub like : IsLike seen pair it object

-- What is seen stands for the heap: the pairing is one-to-one, what is paired is alike, and tables have their entries.
pub record Stands (seen : Seen) (heap : Heap) (pair : Pairing) : Type 0 where
  pub both : (n : reference.Reference) (id : ℕ) → pair n id → Both seen heap pair n id
  pub one_number : (n : reference.Reference) (i j : ℕ) → pair n i → pair n j → i ≡ j
  pub one_name : (n m : reference.Reference) (id : ℕ) → pair n id → pair m id → n ≡ m
  pub tables : TablesStand seen heap pair

-- a name has one object
abbrev pub IsOne : Seen → Type 0
IsOne seen = (n : reference.Reference) (a b : Shown) → seen n a → seen n b → a ≡ b

-- the pairing with one more pair
abbrev pub with_pair : Pairing → reference.Reference → ℕ → Pairing
with_pair pair n id m i = pair m i ⊎ ((m ≡ n) × (i ≡ id))

-- A space stands for a heap: under a row of names, the PIDs of its things, what is seen in it is what the heap keeps.
use Rattle.std.specs.Prelude.{◌≡◌, ℕ, ℤ, List, [], ◌∷◌, Option, Some, None}
use Rattle.std.specs.List.{AllByRecursion}
use Rattle.heap_meaning.specs.obj_layout.declared.kind.Kind.TheVariants as kind
use Rattle.heap_meaning.specs.obj_layout.declared.reference.Reference.{Reference}
use Rattle.heap_meaning.specs.obj_layout.declared.reference.Reference.TheVariants.{Nil, Pid}
use Rattle.heap_meaning.specs.obj_layout.Objects.{Placed, HoldsObjects}
use Rattle.heap_meaning.specs.obj_layout.Stored.{Space}
use Rattle.heap_meaning.specs.swizzle.Joint.{Shown}
use Rattle.heap_meaning.specs.heap_places.Shapes.{slot_of, word_in, IsText}
use Rattle.heap_meaning.specs.node_rows.Nodes.{IsAmong}
use Rattle.ps_code_laws.specs.ps_heap.Values.{Value}
use Rattle.ps_code_laws.specs.ps_heap.Objects as object
use Rattle.ps_code_laws.specs.Compiled.{compiled_object}
pub use Rattle.ps_code_laws.specs.Literals.{HasUnits}
use Rattle.heap_meaning.specs.Tables.{TablesStand}
use Rattle.heap_meaning.specs.Standing.{Seen, Pairing, IsKindOf, IsLike}
use Rattle.heap_meaning.specs.Paired.{paired}
use Rattle.heap_fit.specs.ps_heap.Tables.{Entry, by_ints}
use Rattle.heap_fit.specs.ps_heap.Objects.{Object, Structure, Elements, Scope, Keyed, object_at}
use Rattle.heap_fit.specs.ps_heap.Databases.{Database}
use Rattle.heap_fit.specs.ps_heap.Held.{StoredHeap, home_at}
use Rattle.heap_fit.specs.Heaps.{IsFitHeap}
use Rattle.space_meaning.specs.Space.{SeenIn}

-- what is seen is like an object of the heap, whose values are these; each procedure stands there as its unit
abbrev pub IsObject : Seen → Pairing → Shown → object.Object → List Value → Type 0
IsObject seen pair it of values = IsLike seen pair it (compiled_object of) × AllByRecursion HasUnits values

-- What is seen stands for an object; what a table's words and nodes tell is said of all tables at once.
abbrev pub IsThing : Seen → Pairing → Shown → Object → Type 0
IsThing seen pair it (Structure class fields) = IsObject seen pair it (object.Structure class fields) fields
IsThing seen pair it (Elements ty low elements) = IsObject seen pair it (object.Elements ty low elements) elements
IsThing seen pair it (Scope text parent names) = IsObject seen pair it (object.Scope text parent names) names
IsThing seen pair it (Keyed table) = it.kind ≡ kind.Table

-- a word names a home: the number of its database, or 0 for none
abbrev pub IsHome : ℕ → Option ℕ → Type 0
IsHome word None = word ≡ 0
IsHome word (Some number) = word ≡ number

-- the object of a name, and that of the id that goes with it
pub record Both (seen : Seen) (heap : StoredHeap) (pair : Pairing) (n : Reference) (id : ℕ) : Type 0 where
  pub it : Shown
  pub object : Object
  pub there : seen n it
  pub means : object_at heap.objects id ≡ Some object
  pub like : IsThing seen pair it object
  pub home : IsHome (word_in it 0) (home_at heap.homes id)

-- for each database its name, its password and its root, in their order
abbrev pub AreNamed : Seen → Pairing → List Reference → List Database → Type 0
AreNamed seen pair (name ∷ password ∷ root ∷ more) (d ∷ ds) =
    IsText seen name d.name × IsText seen password d.password × (pair root d.root × IsKindOf seen root kind.Table) × AreNamed seen pair more ds
AreNamed seen pair [] [] = Unit {0}
AreNamed seen pair _ _ = ⊥

-- what is seen of a directory of these databases
pub record IsDirectory (seen : Seen) (pair : Pairing) (pid : ℕ) (databases : List Database) : Type 0 where
  pub it : Shown
  pub there : seen (Pid pid) it
  pub kind_is : it.kind ≡ kind.Directory
  pub names : AreNamed seen pair it.refs databases

-- where there is no database there is no directory
abbrev pub IsDirectoryOf : Seen → Pairing → ℕ → List Database → Type 0
IsDirectoryOf seen pair pid [] = pid ≡ 0
IsDirectoryOf seen pair pid (d ∷ ds) = IsDirectory seen pair pid (d ∷ ds)

-- the pairing of the names that are PIDs
abbrev pub stored : List Reference → Pairing
stored names n id = paired names n id × (pid : ℕ) × (n ≡ Pid pid)

-- these nodes name no key text
abbrev pub HaveNoKeyTexts : Seen → List Reference → Type 0
HaveNoKeyTexts seen nodes = (n : Reference) (it : Shown) → IsAmong n nodes → seen n it → slot_of it 2 ≡ Nil

-- A space stands for a heap under a row of names, one for each id; what isn't paired has a name that is no PID. The roots are paired, and so is
-- all that what is paired refers to: so each object that is reached from the directory is. The pairing is one-to-one, what is paired is alike, and the
-- tables have their entries; the nodes of a table with int keys name no key text.
pub record StandsUnder (space : Space) (heap : StoredHeap) (names : List Reference) : Type 0 where
  pub directory : IsDirectoryOf (SeenIn space) (paired names) space.directory heap.directory
  pub both : (pid id : ℕ) → paired names (Pid pid) id → Both (SeenIn space) heap (paired names) (Pid pid) id
  pub one_number : (pid i j : ℕ) → paired names (Pid pid) i → paired names (Pid pid) j → i ≡ j
  pub tables : TablesStand (SeenIn space) heap.objects (stored names)
  pub plain : (pid id : ℕ) (entries : List (Entry ℤ)) → paired names (Pid pid) id → object_at heap.objects id ≡ Some (Keyed (by_ints entries))
      → HaveNoKeyTexts (SeenIn space) (tables.nodes id)

-- a space that is cut into objects, and stands for a fit heap under some row of names
pub record SpaceStands (space : Space) (heap : StoredHeap) : Type 0 where
  pub fit : IsFitHeap heap
  pub objects : List Placed
  pub cut : HoldsObjects space.words objects
  pub names : List Reference
  pub stands : StandsUnder space heap names

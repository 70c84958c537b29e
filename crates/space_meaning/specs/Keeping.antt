-- What is seen of area and vault together is kept in a space.
use Rattle.std.specs.Prelude.{◌≡◌, ◌≢◌, ℕ, ℤ, List, Some}
use Rattle.heap_meaning.specs.obj_layout.declared.kind.Kind.TheVariants.{Node}
use Rattle.heap_meaning.specs.obj_layout.declared.reference.Reference.{Reference}
use Rattle.heap_meaning.specs.obj_layout.declared.reference.Reference.TheVariants.{Nil, Pid}
use Rattle.heap_meaning.specs.obj_layout.Stored.{Space}
use Rattle.heap_meaning.specs.swizzle.Joint.{Shown}
use Rattle.heap_meaning.specs.node_rows.Nodes.{IsAmong}
use Rattle.heap_meaning.specs.Standing.{Seen}
use Rattle.heap_meaning.specs.Paired.{paired}
use Rattle.heap_fit.specs.ps_heap.Objects.{Heap, Keyed, object_at}
use Rattle.heap_fit.specs.ps_heap.Tables.{Entry, Table, by_ints}
use Rattle.space_meaning.specs.Space.{SeenIn}
pub use Rattle.ps_code_laws.specs.Literals.{HaveUnits}
use Rattle.space_meaning.specs.Stands.{HaveNoKeyTexts}

-- What is seen under a PID is seen in the space, and so is each node of a table that has a PID. Of other nodes nothing is said: one that was taken out of its
-- table may lie in the area as it was never stored. The nodes of a table with int keys name no key text.
pub record IsKept (seen : Seen) (space : Space) (of : Heap) (names : List Reference) (nodes : ℕ → List Reference) : Type 0 where
  pub nil : (it : Shown) → seen Nil it → ⊥
  pub things : (pid : ℕ) (it : Shown) → seen (Pid pid) it → it.kind ≢ Node → SeenIn space (Pid pid) it
  pub in_tables : (pid id : ℕ) (table : Table) → paired names (Pid pid) id → object_at of id ≡ Some (Keyed table) → (n : Reference) → IsAmong n (nodes id)
      → (it : Shown) → seen n it → SeenIn space n it
  pub plain : (pid id : ℕ) (entries : List (Entry ℤ)) → paired names (Pid pid) id → object_at of id ≡ Some (Keyed (by_ints entries)) → HaveNoKeyTexts seen (nodes id)

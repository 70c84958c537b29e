-- What ties the objects of an area to the ids of a heap while a commit walks.
use Rattle.std.specs.Prelude.{◌≡◌, ◌⊎◌, ℕ, List, Some}
use Rattle.joint_ops.specs.obj_layout.declared.kind.Kind.TheVariants as kind
use Rattle.joint_ops.specs.obj_layout.declared.reference.Reference.{Reference}
use Rattle.joint_ops.specs.obj_layout.declared.reference.Reference.TheVariants.{Pid, Local}
use Rattle.joint_ops.specs.swizzle.Heap as area
use Rattle.joint_ops.specs.swizzle.Heap.{IsHeap, IsHeld, IsListed, header_at}
use Rattle.joint_ops.specs.swizzle.Joint.{Shown, Joint, name_at, shown_at}
use Rattle.joint_ops.specs.ps_heap.Tables.{Table}
use Rattle.joint_ops.specs.ps_heap.Objects.{Heap, Keyed, object_at}
use Rattle.joint_ops.specs.heap_meaning.Standing.{IsOne}
use Rattle.joint_ops.specs.heap_meaning.Paired.{paired, StandsRow}
use Rattle.joint_ops.specs.heap_meaning.node_rows.Nodes.{IsAmong}
use Rattle.joint_held.specs.Held.{IsOf, AreTrees}

-- an object of the area without a PID has this name
pub record IsLocal (here : area.Heap) (n : Reference) : Type 0 where
  pub at : ℕ
  pub held : IsHeld here at
  pub none : (header_at here at).pid ≡ 0
  pub is : n ≡ name_at here at

-- what is seen is an object of the area that isn't stored, or is noted as assigned
pub record IsChanged (here : area.Heap) (n : Reference) (it : Shown) : Type 0 where
  pub at : ℕ
  pub held : IsHeld here at
  pub name : n ≡ name_at here at
  pub shown : it ≡ shown_at here at
  pub why : ((header_at here at).pid ≡ 0) ⊎ IsListed at here.assigned

-- An id is free exactly where its object has no PID. A node of a table that refers to such an object isn't stored as it is; a closure refers to none
-- if it has a PID. A text
-- refers to nothing.
pub record IsTied (here : area.Heap) (holds : ℕ → List ℕ → Type 0) (heap : Heap) (names : List Reference) (free : ℕ → Type 0) : Type 0 where
  pub sound : IsHeap here
  pub stands : StandsRow (Joint here holds) heap names
  pub one : IsOne (Joint here holds)
  pub free_local : (n : Reference) (i : ℕ) → paired names n i → free i → IsLocal here n
  pub local_free : (x i : ℕ) → IsOf here names x i → (header_at here x).pid ≡ 0 → free i
  pub changed : (m n : Reference) (id : ℕ) (table : Table) (it : Shown) (y : ℕ) → paired names m id → object_at heap id ≡ Some (Keyed table) → IsAmong n (stands.stands.tables.nodes id)
      → Joint here holds n it → IsAmong (Local y) it.refs → IsChanged here n it
  pub closures : (p : ℕ) (it : Shown) (y : ℕ) → Joint here holds (Pid p) it → it.kind ≡ kind.Closure → IsAmong (Local y) it.refs → ⊥
  pub texts : (x : ℕ) (n : Reference) → IsHeld here x → (header_at here x).kind ≡ kind.Text → IsAmong n (shown_at here x).refs → ⊥
  pub trees : AreTrees here (Joint here holds) heap names

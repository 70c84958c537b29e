-- A table gets a value under a key, or loses a key: in the area, and in what a run holds.
use Rattle.std.specs.Prelude.{◌≡◌, ◌≢◌, ◌⊎◌, ℕ, ◌≤◌, List}
use Rattle.joint_ops.specs.ps_outside.Outside.{Outside, SameContents}
use Rattle.joint_ops.specs.obj_layout.Stored.{Space, Holds}
use Rattle.joint_ops.specs.obj_layout.declared.kind.Kind.TheVariants.{Table, Node}
use Rattle.joint_ops.specs.obj_layout.declared.reference.Reference.{Reference}
use Rattle.joint_ops.specs.swizzle.Heap as area
use Rattle.joint_ops.specs.swizzle.Heap.{IsHeld, IsListed, header_at, num_at}
use Rattle.joint_ops.specs.swizzle.Joint.{Shown, name_at, shown_at}
use Rattle.joint_ops.specs.ps_heap.Objects.{Heap}
use Rattle.joint_ops.specs.ps_heap.Held.{Held}
use Rattle.joint_ops.specs.World.{IsStored, IsWorld, seen}
use Rattle.reach_commit.specs.commit_images.Images.{image_of}
use Rattle.reach_commit.specs.commit_images.Stored.{IsWhole}
use Rattle.joint_held.specs.Held.{IsOf, IsOfHeap, AreTrees}

-- an object of the area lies there still, with its name, its kind and its counts
pub record Lasts (old new : area.Heap) (y : ℕ) : Type 0 where
  pub held : IsHeld new y
  pub name : name_at new y ≡ name_at old y
  pub kind : (header_at new y).kind ≡ (header_at old y).kind
  pub refs : (header_at new y).refs ≡ (header_at old y).refs
  pub nums : (header_at new y).nums ≡ (header_at old y).nums

-- A table of the area was written, with nodes: it has its home still, and is noted as assigned. Each object lasts, and shows as it did or is noted; none but the
-- table and nodes are noted that weren't. What is seen of an object that is neither is seen still, and the vault holds what it held.
pub record IsEnter (old new : area.Heap) (before after : Outside Space) (x : ℕ) : Type 0 where
  pub held : IsHeld old x
  pub table : (header_at old x).kind ≡ Table
  pub lasts : (y : ℕ) → IsHeld old y → Lasts old new y
  pub kept : (y : ℕ) → IsHeld old y → (shown_at new y ≡ shown_at old y) ⊎ IsListed y new.assigned
  pub home : num_at new x 0 ≡ num_at old x 0
  pub noted : IsListed x new.assigned
  pub still : (y : ℕ) → IsListed y old.assigned → IsListed y new.assigned
  pub only : (y : ℕ) → IsListed y new.assigned → IsListed y old.assigned ⊎ ((y ≡ x) ⊎ ((header_at new y).kind ≡ Node))
  pub others : (n : Reference) (it : Shown) → it.kind ≢ Node → n ≢ name_at old x → seen old before n it → seen new after n it
  pub contents : SameContents before after

-- What is new in the area and stored the vault has, and the same words where it wasn't written; and each object of the area has the counts of its kind.
pub record HasBrought (old new : area.Heap) (after : Outside Space) : Type 0 where
  pub there : (y : ℕ) → IsHeld new y → (IsHeld old y → ⊥) → 1 ≤ (header_at new y).pid → (words : List ℕ) × Holds after (header_at new y).pid words
  pub same : (y : ℕ) → IsHeld new y → (IsHeld old y → ⊥) → 1 ≤ (header_at new y).pid → (IsListed y new.assigned → ⊥) → IsStored after (header_at new y).pid (image_of new y)
  pub whole : (y : ℕ) → IsHeld new y → IsWhole new y

-- The table's id has another table, for which area and vault stand now. Its nodes and those of all others hang together, and a node that lay in the area and
-- is one of a table was one before.
pub record EntersTable (old new : area.Heap) (before after : Outside Space) (names : List Reference) (h : Held) (nodes : ℕ → List Reference) (x id : ℕ) (objects : Heap) : Type 0 where
  pub enter : IsEnter old new before after x
  pub brought : HasBrought old new after
  pub of : IsOf old names x id
  pub world : IsWorld new after objects names
  pub trees : AreTrees new (seen new after) objects names
  pub were : (y : ℕ) → IsHeld old y → IsOfHeap new objects names world.row.stands.tables.nodes y → IsOfHeap old h.objects names nodes y

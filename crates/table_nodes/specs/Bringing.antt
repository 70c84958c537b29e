-- Which nodes come into the area.
use Rattle.std.specs.Prelude.{◌≡◌, ◌⊎◌, ℕ, ◌≤◌, List, length}
use Rattle.heap_places.specs.obj_layout.declared.kind.Kind.TheVariants.{Node}
use Rattle.heap_places.specs.obj_layout.declared.reference.Reference.{Reference}
use Rattle.heap_places.specs.swizzle.Heap.{Heap, IsHeld, header_at}
use Rattle.heap_places.specs.swizzle.Joint.{name_at}
use Rattle.node_rows.specs.Nodes.{IsAmong}

-- At most so many nodes are in the area that weren't before.
pub record Brings (old new : Heap) (most : ℕ) : Type 0 where
  pub names : List Reference
  pub few : length names ≤ most
  pub come : (at : ℕ) → IsHeld new at → (header_at new at).kind ≡ Node → IsHeld old at ⊎ IsAmong (name_at new at) names

-- No object came into the area.
abbrev pub NoneCome : Heap → Heap → Type 0
NoneCome old new = (at : ℕ) → IsHeld new at → IsHeld old at

-- An image of a volume stands for a heap: its space does.
use Rattle.std.specs.Prelude.{◌≡◌, ℕ, ◌≤◌, List, Some}
use Rattle.ps_port.specs.ps_outside.Outside.{Outside}
use Rattle.ps_volumes.specs.obj_layout.Stored.{Space}
use Rattle.heap_fit.specs.ps_heap.Held.{StoredHeap}
use Rattle.space_meaning.specs.Stands.{SpaceStands}
use Rattle.volume_meaning.specs.Space.{space_in}

-- An image of a volume stands for a heap.
pub record Stands (image : List ℕ) (heap : StoredHeap) : Type 0 where
  pub space : Space
  pub found : space_in image ≡ Some space
  pub stands : SpaceStands space heap

-- From some moment of the way on each image that a crash may leave stands for this heap.
pub record StandsSince (old new : Outside (List ℕ)) (heap : StoredHeap) : Type 0 where
  pub since : ℕ
  pub from : old.clock ≤ since
  pub until : since ≤ new.clock
  pub stands : (m : ℕ) (image : List ℕ) → since ≤ m → m ≤ new.clock → new.images m image → Stands image heap

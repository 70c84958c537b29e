-- Values whose objects lie in the area, and one more.
use Rattle.std.proofs.Common.{List, [], ◌∷◌, ◌++◌}
use Rattle.heap_ops.specs.swizzle.Heap.{Heap}
use Rattle.heap_ops.specs.heap_places.declared.value.Value.{Value}
use Rattle.heap_ops.specs.heap_places.Places.{IsNear}
use Rattle.heap_ops.specs.heap_places.Filling.{AreNear}

pub near_more : (heap : Heap) (vs : List Value) (v : Value) → AreNear heap vs → IsNear heap v → AreNear heap (vs ++ v ∷ [])
near_more heap [] v all near = (near, tt)
near_more heap (w ∷ vs) v all near = (all.0, near_more heap vs v all.1 near)

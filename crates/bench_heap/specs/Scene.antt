-- What is read again and again.
use Rattle.std.specs.Prelude.{◌≤◌}
use Rattle.proc_values.specs.swizzle.Heap.{Heap, IsHeld, header_at}
use Rattle.proc_values.specs.swizzle.Text.{text_at}
use Rattle.proc_values.specs.heap_texts.Texts.{HoldsText}
use Rattle.heap_ops.specs.Structures.{IsNamed}
use Rattle.bench_heap.specs.declared.pair.Pair.{Pair}
use Rattle.bench_heap.specs.declared.fields.Scene.{Scene}

-- both objects lie in the area
pub record AreHeld (heap : Heap) (pair : Pair) : Type 0 where
  pub a : IsHeld heap pair.a
  pub b : IsHeld heap pair.b

-- and have eight number words at least
pub record AreLong (heap : Heap) (pair : Pair) : Type 0 where
  pub held : AreHeld heap pair
  pub a : 8 ≤ (header_at heap pair.a).nums
  pub b : 8 ≤ (header_at heap pair.b).nums

-- the class and both objects lie in the area, and the class names the place
pub record IsSet (scene : Scene) : Type 0 where
  pub class : HoldsText scene.sw scene.class
  pub objects : AreHeld scene.sw scene.pair
  pub field : IsNamed (text_at scene.sw scene.class) scene.located

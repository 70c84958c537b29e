-- What the tests begin with.
use Rattle.heap_ops.specs.swizzle.Heap.{IsHeld}
use Rattle.heap_ops.specs.heap_texts.Texts.{HoldsText}
use Rattle.heap_ops_tests.specs.declared.world.World.{World}

-- the texts of the classes, a text that is none, and the object lie in the area
pub record IsReady (world : World) : Type 0 where
  pub own : HoldsText world.sw world.own
  pub equal : HoldsText world.sw world.equal
  pub other : HoldsText world.sw world.other
  pub name : HoldsText world.sw world.name
  pub object : IsHeld world.sw world.object

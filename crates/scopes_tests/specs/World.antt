-- What the tests begin with.
use Rattle.scopes.specs.swizzle.Heap.{IsHeld}
use Rattle.scopes.specs.heap_texts.Texts.{HoldsText}
use Rattle.scopes.specs.heap_ops.Layouts.{AreSo}
use Rattle.scopes_tests.specs.declared.world.World.{World}

-- the text and the scope lie in the area, and the places that were looked up are so
pub record IsReady (world : World) : Type 0 where
  pub text : HoldsText world.sw world.text
  pub scope : IsHeld world.sw world.scope
  pub so : AreSo world.sw world.layouts.entries.items

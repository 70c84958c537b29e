-- What stays where the area is changed.
use Rattle.std.proofs.Common.{ℕ, List, ◌∙◌}
use Rattle.std.specs.Prelude.{Result, Ok, Err}
use Rattle.heap_ops.specs.swizzle.declared.fault.SwizzleFault.{SwizzleFault}
use Rattle.heap_ops.specs.swizzle.Heap.{Heap, Stands}
use Rattle.heap_ops.proofs.of_swizzle.StandLaws.{stands-new, stands-same}
use Rattle.heap_ops.specs.heap_texts.Texts.{MakesText, HoldsText}
use Rattle.heap_ops_tests.specs.declared.world.World.{World}
use Rattle.heap_ops_tests.specs.World.{IsReady}

pub made_stand : (old new : Heap) (bytes : List ℕ) (r : Result ℕ SwizzleFault) → MakesText old new bytes r → Stands old new
made_stand old new bytes (Ok at) m = stands-new old new _ m.made
made_stand old new bytes (Err fault) m = stands-same old new m.stays

pub text_stands : (old new : Heap) (at : ℕ) → Stands old new → HoldsText old at → HoldsText new at
text_stands old new at stands t = let s = stands at t.held in record { held = s.held; kind = s.kind ∙ t.kind }

-- the area of a world has changed
pub ready_still : (w : World) (sw : Heap) → IsReady w → Stands w.sw sw → IsReady (record w { sw = sw })
ready_still w sw r stands = record {
  own = text_stands w.sw sw w.own stands r.own;
  equal = text_stands w.sw sw w.equal stands r.equal;
  other = text_stands w.sw sw w.other stands r.other;
  name = text_stands w.sw sw w.name stands r.name;
  object = (stands w.object r.object).held;
}

-- A text stays where the area is changed.
use Rattle.std.proofs.Common.{ℕ, ◌∙◌}
use Rattle.heap_ops.specs.swizzle.Heap.{Heap, Stands}
use Rattle.heap_ops.specs.heap_texts.Texts.{HoldsText}

pub text_stands : (old new : Heap) (at : ℕ) → Stands old new → HoldsText old at → HoldsText new at
text_stands old new at stands t = let s = stands at t.held in record { held = s.held; kind = s.kind ∙ t.kind }

use Rattle.std.proofs.Common.{refl}
use Rattle.heap_ops.proofs.LayoutLaws.{fresh_so}
use Rattle.heap_ops.proofs.layouts.Layouts.new.Goals as goal

pub returns : goal.returns
returns c = λ heap. fresh_so heap c.resize.new.self.items c.in_ok-entries.entries.items _ _ c.in_ok-entries.ensures.items refl c.in_ok-resize.ensures.items

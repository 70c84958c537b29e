use Rattle.std.proofs.Common.{refl}
use Rattle.heap_ops.proofs.LayoutLaws.{cleared_so}
use Rattle.heap_ops.proofs.layouts.Layouts.clear.Goals as goal

pub returns : goal.returns
returns c = λ heap. cleared_so heap c.fill.new.self.items _ _ refl (c.fill.ensures.items (λ y is. is))

use Rattle.heap_ops.proofs.LayoutLaws.{stay_so}
use Rattle.heap_ops.proofs.layouts.entries_stay_so.Goals as goal

pub returns : goal.returns
returns c = stay_so

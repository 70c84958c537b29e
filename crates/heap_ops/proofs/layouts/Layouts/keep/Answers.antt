use Rattle.heap_ops.proofs.LayoutLaws.{put_so}
use Rattle.heap_ops.proofs.layouts.Layouts.keep.Goals as goal

pub returns-then-index-len : goal.returns-then-index-len
returns-then-index-len c = λ heap so is. put_so heap c.args.self.now.entries.items c.args.index c.args.entry so is

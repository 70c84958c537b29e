use Rattle.heap_ops.proofs.LayoutLaws.{held-from}
use Rattle.heap_ops.proofs.layouts.Layouts.locate.Goals as goal

pub known-requires : goal.known-requires
known-requires c = (held-from c.args.sw.now c.args.class c.sound.ensures c.requires.held).0

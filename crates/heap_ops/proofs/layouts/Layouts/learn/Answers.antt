use Rattle.std.proofs.Common.{arith}
use Rattle.heap_ops.proofs.LayoutLaws.{held-from}
use Rattle.heap_ops.proofs.layouts.Layouts.learn.Goals as goal

pub locate-requires : goal.locate-requires
locate-requires c = omega (arith, c.text.ensures.len, (held-from c.args.sw.now c.args.class c.sound.ensures c.requires.held).1)

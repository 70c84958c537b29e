use Rattle.std.proofs.Common.{arith}
use Rattle.heap_ops.proofs.LayoutLaws.{held-from}
use Rattle.heap_ops_tests.proofs.calls.place.Goals as goal

pub locate-requires : goal.locate-requires
locate-requires c = omega (arith, c.text.ensures.len, (held-from c.args.sw.now c.args.class c.sound.ensures c.requires.held).1)

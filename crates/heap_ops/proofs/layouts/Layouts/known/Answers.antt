use Rattle.std.proofs.Common.{arith}
use Rattle.heap_ops.proofs.LayoutLaws.{known_so}
use Rattle.heap_ops.proofs.layouts.Layouts.known.Goals as goal

pub returns-then-entry-field : goal.returns-then-entry-field
returns-then-entry-field c =
    λ heap so. known_so heap c.args.self.now.entries.items c.args.index c.args.class c.args.field c.index-entry.result.now so
    (omega (arith, c.if-index-len.false, c.len.ensures)) c.index-entry.ensures c.if-entry-class.true c.if-entry-field.true c.requires

use Rattle.std.proofs.Common.{arith}
use Rattle.paged_volume.proofs.Changed.{differs_past, differs_by}
use Rattle.paged_volume.proofs.changing.differs.Goals as goal

pub returns-then-page-logical : goal.returns-then-page-logical
returns-then-page-logical c = let past = c.if-page-logical.true in differs_past c.args.map.now c.args.logical c.args.page c.requires (omega (arith, c.logical.ensures))

pub returns : goal.returns
returns c = differs_by c.args.map.now c.args.logical c.args.page c.next_number.result c.committed.result c.next_number.ensures c.committed.ensures

use Rattle.std.proofs.Common.{sym, ◌∙◌}
use Rattle.paged_volume.proofs.Changed.{next_below, next_past}
use Rattle.paged_volume.proofs.changing.next_number.Goals as goal

pub returns-then-page-logical : goal.returns-then-page-logical
returns-then-page-logical c = c.staged.ensures ∙ sym (next_below c.args.map.now c.args.logical c.args.page c.if-page-logical.true)

pub returns-else-page-logical : goal.returns-else-page-logical
returns-else-page-logical c = sym (next_past c.args.map.now c.args.logical c.args.page c.if-page-logical.false)

use Rattle.std.proofs.Common.{sym, ◌∙◌, arith}
use Rattle.paged_volume.proofs.Reading.{at_index}
use Rattle.paged_volume.proofs.Selecting.{names_there, first_none, first_some}
use Rattle.paged_volume.proofs.rooting.first_name.Goals as goal

pub returns-then-next-eq0 : goal.returns-then-next-eq0
returns-then-next-eq0 c = at_index c.args.table.now.next.items 1 _ (omega (arith, names_there c.args.table.now c.args.next c.requires)) c.index.ensures ∙ sym (first_none c.args.table.now c.args.next c.if-next-eq0.true)

pub returns-else-next-eq0 : goal.returns-else-next-eq0
returns-else-next-eq0 c = at_index c.args.table.now.next.items 0 _ (omega (arith, names_there c.args.table.now c.args.next c.requires)) c.index-else-next-eq0.ensures ∙ sym (first_some c.args.table.now c.args.next c.if-next-eq0.false)

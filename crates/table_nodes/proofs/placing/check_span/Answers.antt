use Rattle.table_nodes.proofs.SpanLaws.{end_held}
use Rattle.table_nodes.proofs.placing.check_span.Goals as goal

pub check_side-requires-clause-edge : goal.check_side-requires-clause-edge
check_side-requires-clause-edge c = end_held c.args.sw.now c.args.span.high c.requires.span.high_is

pub check_side-requires-else-eq-clause-edge : goal.check_side-requires-else-eq-clause-edge
check_side-requires-else-eq-clause-edge c = end_held c.args.sw.now c.args.span.low c.requires.span.low_is

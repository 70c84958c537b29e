use Rattle.std.proofs.Common.{ap, sym}
use Rattle.table_nodes.specs.Spans.{narrow}
use Rattle.table_nodes.proofs.placing.narrowed.Goals as goal

pub returns-in-Less : goal.returns-in-Less
returns-in-Less c = sym (ap (λ o. narrow o c.args.own c.args.span) c.in-Less.is)

pub returns-in-Equal : goal.returns-in-Equal
returns-in-Equal c = sym (ap (λ o. narrow o c.args.own c.args.span) c.in-Equal.is)

pub returns-in-Greater : goal.returns-in-Greater
returns-in-Greater c = sym (ap (λ o. narrow o c.args.own c.args.span) c.in-Greater.is)

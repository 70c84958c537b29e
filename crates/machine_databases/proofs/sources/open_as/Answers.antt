use Rattle.std.proofs.Common.{sym, ◌∙◌}
use Rattle.machine_databases.proofs.Pushing.{opened-again, opened-first}
use Rattle.machine_databases.proofs.sources.open_as.Goals as goal

pub returns-then-is_open : goal.returns-then-is_open
returns-then-is_open c = opened-again c.args.number c.args.for_writing c.if-not-for_writing.false c.args.databases.now (sym c.is_open.ensures ∙ c.if-is_open.true)

pub returns : goal.returns
returns c =
    opened-first c.args.number c.args.for_writing c.if-not-for_writing.false c.args.databases.now c.open_for_writing.new.databases c.open_for_writing.result
    (sym c.is_open.ensures ∙ c.if-is_open.false) c.open_for_writing.ensures

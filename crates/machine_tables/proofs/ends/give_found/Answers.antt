use Rattle.std.proofs.Common.{subst}
use Rattle.machine_operands.specs.Giving.{GivesReference}
use Rattle.machine_tables.proofs.Endings.{found-given}
use Rattle.machine_tables.proofs.ends.give_found.Goals as goal

pub returns : goal.returns
returns g c v w =
    let before = g.V.Vault.outside v in
    let after = g.V.Vault.outside w in
    let m = c.args.m.now in
    let give = c.give_reference in
    found-given before after m give.new.m give.result c.args.line c.args.got
    (subst (GivesReference before after m give.new.m give.result c.args.line) c.reference-value.ensures (give.ensures v w))

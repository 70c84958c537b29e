use Rattle.machine_operands.proofs.Parts.{making-fails}
use Rattle.machine_tables.proofs.Uses.{table-given}
use Rattle.machine_tables.proofs.tables.make_table.Goals as goal

pub returns-clause-takes : goal.returns-clause-takes
returns-clause-takes g c =
    let v = c.args.vault.now in
    let made = c.make_table-made in
    let give = c.give_object in
    table-given (g.V.Vault.outside v) c.args.m.now give.new.m made.new.self give.result c.args.line made.result c.requires.names made.ensures.keeps made.ensures.held
    made.ensures.made (give.ensures v)

pub returns-clause-fails : goal.returns-clause-fails
returns-clause-fails g c =
    let v = c.args.vault.now in
    let made = c.make_table-made in
    let give = c.give_object in
    making-fails (g.V.Vault.outside v) c.args.m.now.objects made.new.self give.new.m give.result made.result (give.ensures v).ends.breaks made.ensures.fails

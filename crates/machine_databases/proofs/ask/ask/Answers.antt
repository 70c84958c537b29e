use Rattle.machine_databases.proofs.Asking.{asks-failed, asks-known}
use Rattle.machine_databases.proofs.ask.ask.Goals as goal

pub returns-in-Err-clause-asks : goal.returns-in-Err-clause-asks
returns-in-Err-clause-asks g c =
    asks-failed (g.V.Vault.outside c.args.vault.now) (g.V.Vault.outside c.know.new.vault) c.args.m.now c.know.new.sw c.if-m.false c.area.result.now c.area.ensures.same c.in-Err.fault c.in-Err.ensures.run

pub returns-clause-asks : goal.returns-clause-asks
returns-clause-asks g c =
    asks-known (g.V.Vault.outside c.args.vault.now) (g.V.Vault.outside c.know.new.vault) c.args.m.now c.know.new.sw c.if-m.false c.area.result.now c.area.ensures.same c.in-Ok.directory c.requires.names
    c.in-Ok.ensures.shaped c.in-Ok.ensures.stands c.in-Ok.ensures.size c.in-Ok.ensures.run

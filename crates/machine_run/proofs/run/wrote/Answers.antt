use Rattle.machine_run.proofs.Telling.{but-sends, fails-sends, leaves-sends}
use Rattle.machine_run.proofs.run.wrote.Goals as goal

pub returns-in-Ok-clause-sends : goal.returns-in-Ok-clause-sends
returns-in-Ok-clause-sends g c =
    let outside = g.V.Vault.outside in
    but-sends (outside c.args.vault.now) (outside c.writing.new.vault) _ c.writing.new.output _ c.in-Ok.ensures.sends

pub returns-in-Err-clause-sends : goal.returns-in-Err-clause-sends
returns-in-Err-clause-sends g c =
    let outside = g.V.Vault.outside in
    fails-sends (outside c.args.vault.now) (outside c.writing.new.vault) _ c.writing.new.output c.in-Err.field-0 c.in-Err.ensures.fault c.in-Err.ensures.sends

pub returns-in-Ok-clause-leaves : goal.returns-in-Ok-clause-leaves
returns-in-Ok-clause-leaves g c =
    let outside = g.V.Vault.outside in
    leaves-sends (outside c.args.vault.now) (outside c.writing.new.vault) _ c.writing.new.output _ c.in-Ok.ensures.sends

pub returns-in-Err-clause-leaves : goal.returns-in-Err-clause-leaves
returns-in-Err-clause-leaves g c =
    let outside = g.V.Vault.outside in
    leaves-sends (outside c.args.vault.now) (outside c.writing.new.vault) _ c.writing.new.output _ c.in-Err.ensures.sends

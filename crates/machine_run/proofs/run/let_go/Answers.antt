use Rattle.machine_run.proofs.Telling.{but-puts, fails-puts, leaves-puts}
use Rattle.machine_run.proofs.run.let_go.Goals as goal

pub returns-in-Ok-clause-sends : goal.returns-in-Ok-clause-sends
returns-in-Ok-clause-sends g c =
    let outside = g.V.Vault.outside in
    but-puts (outside c.args.vault.now) (outside c.flush.new.vault) c.args.output.now c.flush.new.self _ c.in-Ok.ensures.puts c.in-Ok.ensures.emptied

pub returns-in-Err-clause-sends : goal.returns-in-Err-clause-sends
returns-in-Err-clause-sends g c =
    let outside = g.V.Vault.outside in
    fails-puts (outside c.args.vault.now) (outside c.flush.new.vault) c.args.output.now c.in-Err.field-0 c.in-Err.ensures.fault c.in-Err.ensures.puts

pub returns-in-Ok-clause-leaves : goal.returns-in-Ok-clause-leaves
returns-in-Ok-clause-leaves g c =
    let outside = g.V.Vault.outside in
    leaves-puts (outside c.args.vault.now) (outside c.flush.new.vault) c.args.output.now _ c.in-Ok.ensures.puts

pub returns-in-Err-clause-leaves : goal.returns-in-Err-clause-leaves
returns-in-Err-clause-leaves g c =
    let outside = g.V.Vault.outside in
    leaves-puts (outside c.args.vault.now) (outside c.flush.new.vault) c.args.output.now _ c.in-Err.ensures.puts

use Rattle.machine_run.proofs.Telling.{but-none, leaves-none}
use Rattle.machine_run.proofs.run.turned.Goals as goal

pub returns-then-is_empty-clause-sends : goal.returns-then-is_empty-clause-sends
returns-then-is_empty-clause-sends g c = but-none (g.V.Vault.outside c.args.vault.now) c.args.output.now

pub returns-then-is_empty-clause-leaves : goal.returns-then-is_empty-clause-leaves
returns-then-is_empty-clause-leaves g c = leaves-none (g.V.Vault.outside c.args.vault.now)

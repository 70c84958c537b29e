use Rattle.vault_output.proofs.SendingLaws.{sends-kept}
use Rattle.vault_output.proofs.output.Output.blanks.Goals as goal

pub returns-then-count-room-clause-sends : goal.returns-then-count-room-clause-sends
returns-then-count-room-clause-sends g c = sends-kept (g.V.Vault.outside c.args.vault.now) _ _ c.fill.ensures

use Rattle.vault_output.proofs.SendingLaws.{sends-kept}
use Rattle.vault_output.proofs.output.Output.write.Goals as goal

pub returns-then-bytes-room-clause-sends : goal.returns-then-bytes-room-clause-sends
returns-then-bytes-room-clause-sends g c = sends-kept (g.V.Vault.outside c.args.vault.now) _ _ c.keep.ensures

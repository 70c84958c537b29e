use Rattle.vault_output.proofs.SendingLaws.{sends-front}
use Rattle.vault_output.proofs.laws.what_is_told_is_a_front.Goals as goal

pub returns : goal.returns
returns g c = λ a b due owed result. sends-front (g.V.Vault.outside a) (g.V.Vault.outside b) due owed result

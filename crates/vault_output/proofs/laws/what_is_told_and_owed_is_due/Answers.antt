use Rattle.vault_output.proofs.SendingLaws.{sends-all}
use Rattle.vault_output.proofs.laws.what_is_told_and_owed_is_due.Goals as goal

pub returns : goal.returns
returns g c = λ a b due owed bytes. sends-all (g.V.Vault.outside a) (g.V.Vault.outside b) due owed bytes

use Rattle.vault_output.proofs.SendingLaws.{sends-then}
use Rattle.vault_output.proofs.laws.two_sends_are_one.Goals as goal

pub returns : goal.returns
returns g c = λ a b d due owed more left result.
    sends-then (g.V.Vault.outside a) (g.V.Vault.outside b) (g.V.Vault.outside d) due owed more left result

use Rattle.vault_output.proofs.SendingLaws.{flush-then}
use Rattle.vault_output.proofs.laws.what_is_flushed_is_told.Goals as goal

pub returns : goal.returns
returns g c = λ a b d due owed result.
    flush-then (g.V.Vault.outside a) (g.V.Vault.outside b) (g.V.Vault.outside d) due owed result

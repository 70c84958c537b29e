use Rattle.joint_held.proofs.ValueLaws.{counted-run}
use Rattle.joint_held.proofs.laws.counts_are_nothing_to_what_is_held.Goals as goal

pub returns : goal.returns
returns g c = λ vault here names writing directory h touched counted run. counted-run here (g.V.Vault.outside vault) names writing directory h touched counted run

use Rattle.joint_held.proofs.BelowLaws.{below-used}
use Rattle.joint_held.proofs.laws.pids_are_below_the_used_words.Goals as goal

pub returns : goal.returns
returns g c = λ vault here names writing directory h run.
    below-used here (g.V.Vault.outside vault) names writing directory h (g.V.Vault.used_words vault) (g.V.Vault.directory_at vault) (g.met.V.Vault.space vault) run

use Rattle.joint_held.proofs.ValueLaws.{alike-run}
use Rattle.joint_held.proofs.laws.runs_that_hold_alike_are_held_alike.Goals as goal

pub returns : goal.returns
returns g c = λ vault here names writing directory h k a run. alike-run here (g.V.Vault.outside vault) names writing directory h k a run

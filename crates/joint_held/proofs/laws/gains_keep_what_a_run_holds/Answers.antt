use Rattle.joint_held.proofs.GainLaws.{holds}
use Rattle.joint_held.proofs.laws.gains_keep_what_a_run_holds.Goals as goal

pub returns : goal.returns
returns g c = λ before after old new names writing directory h t run. holds old new (g.V.Vault.outside before) (g.V.Vault.outside after) names writing directory h t run

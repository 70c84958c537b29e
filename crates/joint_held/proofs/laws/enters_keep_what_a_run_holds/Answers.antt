use Rattle.joint_held.proofs.EnterLaws.{entered-run}
use Rattle.joint_held.proofs.laws.enters_keep_what_a_run_holds.Goals as goal

pub returns : goal.returns
returns g c = λ before after old new names writing directory h x place objects was_sound sound run w.
    entered-run old new (g.V.Vault.outside before) (g.V.Vault.outside after) names writing directory h x place objects was_sound sound run w

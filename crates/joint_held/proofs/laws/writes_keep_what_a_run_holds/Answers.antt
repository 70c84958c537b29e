use Rattle.joint_held.proofs.WriteLaws.{written}
use Rattle.joint_held.proofs.laws.writes_keep_what_a_run_holds.Goals as goal

pub returns : goal.returns
returns g c = λ vault old new names writing directory h x place objects was_sound sound w run. written old new (g.V.Vault.outside vault) names writing directory h x place objects was_sound sound w run

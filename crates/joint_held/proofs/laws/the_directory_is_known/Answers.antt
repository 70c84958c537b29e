use Rattle.joint_held.proofs.OpenLaws.{known-run}
use Rattle.joint_held.proofs.laws.the_directory_is_known.Goals as goal

pub returns : goal.returns
returns g c = λ vault here names writing directory now h d run. known-run here (g.V.Vault.outside vault) names writing h directory now d run

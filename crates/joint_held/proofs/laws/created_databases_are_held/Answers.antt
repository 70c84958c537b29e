use Rattle.joint_held.proofs.OpenLaws.{created-run}
use Rattle.joint_held.proofs.laws.created_databases_are_held.Goals as goal

pub returns : goal.returns
returns g c = λ vault here names writing directory now h d at k run. created-run here (g.V.Vault.outside vault) names writing h directory run now d at k

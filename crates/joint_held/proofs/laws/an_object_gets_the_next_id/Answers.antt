use Rattle.joint_held.proofs.IdLaws.{id-given}
use Rattle.joint_held.proofs.laws.an_object_gets_the_next_id.Goals as goal

pub returns : goal.returns
returns g c = λ vault here names writing directory h at object sound k run. id-given here (g.V.Vault.outside vault) names writing directory h at object sound k run

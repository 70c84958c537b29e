use Rattle.joint_held.proofs.NewTableLaws.{table-made}
use Rattle.joint_held.proofs.laws.a_new_table_is_held.Goals as goal

pub returns : goal.returns
returns g c = λ vault old new names writing directory h at was_sound sound m run. table-made old new (g.V.Vault.outside vault) names writing directory h at was_sound sound m run

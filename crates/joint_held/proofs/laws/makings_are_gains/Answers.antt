use Rattle.joint_held.proofs.MadeLaws.{made-gains}
use Rattle.joint_held.proofs.laws.makings_are_gains.Goals as goal

pub returns : goal.returns
returns g c = λ vault old new at object was_sound sound m. made-gains old new (g.V.Vault.outside vault) was_sound sound at object m

use Rattle.joint_held.proofs.MadeLaws.{touch-gains}
use Rattle.joint_held.proofs.laws.touches_are_gains.Goals as goal

pub returns : goal.returns
returns g c = λ before after old new reference was_sound sound may t. touch-gains old new (g.V.Vault.outside before) (g.V.Vault.outside after) was_sound sound reference may t

use Rattle.joint_entered.proofs.EnteredLaws.{answered-enter}
use Rattle.joint_entered.proofs.laws.answered_enters_are_held.Goals as goal

pub returns : goal.returns
returns g c = λ ks before after old new names writing directory h x table named v key to objects was_sound sound run d.
    answered-enter ks old new (g.V.Vault.outside before) (g.V.Vault.outside after) names writing directory h x table named v key to objects was_sound sound run d

use Rattle.joint_entered.proofs.EnteredLaws.{entered-table}
use Rattle.joint_entered.proofs.laws.entered_tables_are_held.Goals as goal

pub returns : goal.returns
returns g c = λ ks before after old new names writing directory h x id key to objects was_sound sound run w.
    entered-table ks old new (g.V.Vault.outside before) (g.V.Vault.outside after) names writing directory h x id key to objects was_sound sound run w

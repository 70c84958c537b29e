use Rattle.joint_ops.proofs.SeenLaws.{seen-one}
use Rattle.joint_reach.proofs.DecideLaws.{meets-decision, decides-as}
use Rattle.joint_reach.proofs.laws.a_commit_decides_as_is_meant.Goals as goal

pub returns-clause-tests : goal.returns-clause-tests
returns-clause-tests g c = λ vault here names writing directory h sound run.
    let outside = g.V.Vault.outside vault in
    meets-decision here outside names writing directory h sound (seen-one here outside sound (g.met.V.Vault.one vault)) run

pub returns-clause-answers : goal.returns-clause-answers
returns-clause-answers g c = λ vault here names writing directory h result sound run.
    let outside = g.V.Vault.outside vault in
    decides-as here outside names writing directory h sound (seen-one here outside sound (g.met.V.Vault.one vault)) run result

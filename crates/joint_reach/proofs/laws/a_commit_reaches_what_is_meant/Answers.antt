use Rattle.joint_ops.proofs.SeenLaws.{seen-one}
use Rattle.joint_reach.proofs.DecideLaws.{writable-code}
use Rattle.joint_reach.proofs.ReachLaws.{meets-reach}
use Rattle.joint_reach.proofs.laws.a_commit_reaches_what_is_meant.Goals as goal

pub returns : goal.returns
returns g c = λ vault here names writing directory h sound run e.
    let outside = g.V.Vault.outside vault in
    let one = seen-one here outside sound (g.met.V.Vault.one vault) in
    meets-reach here outside names writing directory h sound one run (writable-code here outside names writing directory h sound one run e)

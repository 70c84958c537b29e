use Rattle.joint_ops.proofs.SeenLaws.{seen-one}
use Rattle.joint_reach.proofs.DecideLaws.{writable-code}
use Rattle.joint_reach.proofs.HomeLaws.{meets-homes}
use Rattle.joint_reach.proofs.laws.a_commit_gives_homes_as_is_meant.Goals as goal

pub returns : goal.returns
returns g c = λ vault here new names writing directory h used fresh changed sound run e commits.
    let outside = g.V.Vault.outside vault in
    let one = seen-one here outside sound (g.met.V.Vault.one vault) in
    meets-homes here outside names writing directory h sound one run (writable-code here outside names writing directory h sound one run e) new used fresh changed commits

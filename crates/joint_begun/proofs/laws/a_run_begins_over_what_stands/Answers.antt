use Rattle.joint_held.proofs.StoreLaws.{one-store}
use Rattle.joint_begun.proofs.BeginLaws.{begins-over}
use Rattle.joint_begun.proofs.laws.a_run_begins_over_what_stands.Goals as goal

pub returns : goal.returns
returns g c = λ vault space heap size weigh replies counted is stands compact.
    let a = g.V.Vault.outside vault in
    begins-over a (one-store a (g.V.Vault.used_words vault) (g.V.Vault.directory_at vault) (g.met.V.Vault.one vault) (g.met.V.Vault.space vault)) space is heap stands compact size weigh replies counted

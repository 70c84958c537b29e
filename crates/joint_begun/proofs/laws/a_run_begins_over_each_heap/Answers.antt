use Rattle.joint_held.proofs.StoreLaws.{one-store}
use Rattle.joint_begun.proofs.BeginLaws.{begins-over_same}
use Rattle.joint_begun.proofs.laws.a_run_begins_over_each_heap.Goals as goal

pub returns : goal.returns
returns g c = λ vault space heap size weigh replies counted is stands.
    let a = g.V.Vault.outside vault in
    begins-over_same a (one-store a (g.V.Vault.used_words vault) (g.V.Vault.directory_at vault) (g.met.V.Vault.one vault) (g.met.V.Vault.space vault)) space is heap stands size weigh replies counted

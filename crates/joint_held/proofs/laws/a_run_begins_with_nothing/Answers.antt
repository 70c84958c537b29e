use Rattle.joint_held.proofs.StoreLaws.{one-store}
use Rattle.joint_held.proofs.EmptyLaws.{empty-run}
use Rattle.joint_held.proofs.laws.a_run_begins_with_nothing.Goals as goal

pub returns : goal.returns
returns g c = λ vault size h is e.
    let a = g.V.Vault.outside vault in
    empty-run a size h (one-store a (g.V.Vault.used_words vault) (g.V.Vault.directory_at vault) (g.met.V.Vault.one vault) (g.met.V.Vault.space vault)) is e

use Rattle.machine_structures.proofs.Comparing.{nil-pushed}
use Rattle.machine_structures.proofs.structures.push_nil.Goals as goal

pub returns-clause-takes : goal.returns-clause-takes
returns-clause-takes g c = λ v. nil-pushed (g.V.Vault.outside v) c.args.m.now c.push_ref.new.m c.push_ref.result (c.push_ref.ensures.takes v)

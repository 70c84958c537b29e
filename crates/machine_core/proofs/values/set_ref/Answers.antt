use Rattle.std.proofs.Common.{rules}
use Rattle.std.specs.Prelude.{if◌then◌else◌}
use Rattle.ps_stepping.specs.Machine.{pop_ref, on, with_ref, is_ref_slot, Stuck}
use Rattle.machine_core.specs.Holding.{object_in}
use Rattle.machine_core.specs.inside.Taking.{TakesRef}
use Rattle.machine_core.proofs.Between.{ref-then}
use Rattle.machine_core.proofs.values.set_ref.Goals as goal

pub returns-in-Some-clause-takes : goal.returns-in-Some-clause-takes
returns-in-Some-clause-takes g c = λ v.
    let out = g.V.Vault.outside v in
    let t : TakesRef out out (λ value d. if is_ref_slot d c.args.slot then on (with_ref d c.args.slot value) else Stuck) c.pop_ref.new.m (object_in c.in-Some.word) c.store_ref.new.m c.store_ref.result =
    search (rules, c.store_ref.ensures.takes v) in
    ref-then out out c.args.m.now c.pop_ref.new.m c.store_ref.new.m c.store_ref.result c.in-Some.ensures.leaves pop_ref c.in-Some.word
    (λ value d. if is_ref_slot d c.args.slot then on (with_ref d c.args.slot value) else Stuck) (c.in-Some.ensures.taken v) c.in-Some.ensures.named t

use Rattle.std.proofs.Common.{rules}
use Rattle.std.specs.Prelude.{if◌then◌else◌}
use Rattle.ps_stepping.specs.Machine.{pop_num, on, with_num, is_num_slot, Stuck}
use Rattle.machine_core.specs.Stepped.{Takes}
use Rattle.machine_core.proofs.Between.{taken-then}
use Rattle.machine_core.proofs.values.set_num.Goals as goal

pub returns-in-Some-clause-takes : goal.returns-in-Some-clause-takes
returns-in-Some-clause-takes g c = λ v.
    let out = g.V.Vault.outside v in
    let t : Takes out out (λ d. if is_num_slot d c.args.slot then on (with_num d c.args.slot c.in-Some.z) else Stuck) c.pop_num.new.m c.store_num.new.m c.store_num.result =
    search (rules, c.store_num.ensures.takes v) in
    taken-then out out c.args.m.now c.pop_num.new.m c.store_num.new.m c.store_num.result c.in-Some.ensures.leaves pop_num c.in-Some.z
    (λ z d. if is_num_slot d c.args.slot then on (with_num d c.args.slot z) else Stuck) (c.in-Some.ensures.taken v) t

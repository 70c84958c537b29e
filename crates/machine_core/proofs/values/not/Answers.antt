use Rattle.std.proofs.Common.{rules}
use Rattle.std.specs.Prelude.{not}
use Rattle.ps_stepping.specs.ps_heap.Values.{is_one, number_of}
use Rattle.ps_stepping.specs.Machine.{pop_num, put_num}
use Rattle.machine_core.specs.Stepped.{Takes}
use Rattle.machine_core.proofs.Between.{taken-then}
use Rattle.machine_core.proofs.values.not.Goals as goal

pub returns-in-Some-clause-takes : goal.returns-in-Some-clause-takes
returns-in-Some-clause-takes g c = λ v.
    let out = g.V.Vault.outside v in
    let t : Takes out out (put_num (number_of (not (is_one c.in-Some.z)))) c.pop_num.new.m c.put_num.new.m c.put_num.result = search (rules, c.put_num.ensures.takes v) in
    taken-then out out c.args.m.now c.pop_num.new.m c.put_num.new.m c.put_num.result c.in-Some.ensures.leaves pop_num c.in-Some.z (λ z d. put_num (number_of (not (is_one z))) d)
    (c.in-Some.ensures.taken v) t

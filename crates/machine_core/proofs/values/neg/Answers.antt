use Rattle.std.proofs.Common.{rules}
use Rattle.ps_stepping.specs.Machine.{pop_num, answered}
use Rattle.ps_stepping.specs.ps_heap.Operators.{neg_of}
use Rattle.machine_core.specs.Stepped.{Takes}
use Rattle.machine_core.proofs.Between.{taken-then}
use Rattle.machine_core.proofs.values.neg.Goals as goal

pub returns-in-Some-clause-takes : goal.returns-in-Some-clause-takes
returns-in-Some-clause-takes g c = λ v.
    let out = g.V.Vault.outside v in
    let t : Takes out out (answered c.args.line (neg_of c.in-Some.z)) c.pop_num.new.m c.answered.new.m c.answered.result = search (rules, c.answered.ensures.takes v) in
    taken-then out out c.args.m.now c.pop_num.new.m c.answered.new.m c.answered.result c.in-Some.ensures.leaves pop_num c.in-Some.z (λ a d. answered c.args.line (neg_of a) d) (c.in-Some.ensures.taken v) t

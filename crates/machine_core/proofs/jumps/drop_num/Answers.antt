use Rattle.ps_stepping.specs.Machine.{pop_num, on}
use Rattle.machine_core.proofs.Between.{taken-then}
use Rattle.machine_core.proofs.jumps.drop_num.Goals as goal

pub returns-in-Some-clause-takes : goal.returns-in-Some-clause-takes
returns-in-Some-clause-takes g c = λ v.
    let out = g.V.Vault.outside v in
    taken-then out out c.args.m.now c.pop_num.new.m c.pop_num.new.m c.quiet.result c.in-Some.ensures.leaves pop_num _ (λ z d. on d) (c.in-Some.ensures.taken v) (c.quiet.ensures.takes v)

use Rattle.std.proofs.Common.{refl, rules}
use Rattle.ps_stepping.specs.Machine.{push_num}
use Rattle.machine_core.specs.Stepped.{Takes}
use Rattle.machine_core.proofs.Between.{top-stays, no-top}
use Rattle.machine_core.proofs.values.dup_num.Goals as goal

pub returns-in-Some-clause-takes : goal.returns-in-Some-clause-takes
returns-in-Some-clause-takes g c = λ v.
    let out = g.V.Vault.outside v in
    let t : Takes out out (push_num c.in-Some.z) c.args.m.now c.push_num.new.m c.push_num.result = search (rules, c.push_num.ensures.takes v) in
    top-stays out out c.args.m.now c.push_num.new.m c.push_num.result c.in-Some.z (push_num c.in-Some.z) (λ conf z d. push_num z conf) (c.in-Some.ensures v) (λ conf d. refl) t

pub returns-in-None-clause-takes : goal.returns-in-None-clause-takes
returns-in-None-clause-takes g c = λ v. let out = g.V.Vault.outside v in no-top out out c.args.m.now c.requires (λ conf z d. push_num z conf) (c.in-None.ensures v)

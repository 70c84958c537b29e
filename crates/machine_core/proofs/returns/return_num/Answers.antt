use Rattle.std.proofs.Common.{rules}
use Rattle.ps_stepping.specs.Steps.{push_num}
use Rattle.machine_core.specs.Stepped.{Takes}
use Rattle.machine_core.proofs.Returning.{num-back, num-ends}
use Rattle.machine_core.proofs.returns.return_num.Goals as goal

pub returns-then-resume-clause-takes : goal.returns-then-resume-clause-takes
returns-then-resume-clause-takes g c = λ v.
    let out = g.V.Vault.outside v in
    let t : Takes out out (push_num c.in-Some.z) c.resume.new.m c.push_num.new.m c.push_num.result = search (rules, c.push_num.ensures.takes v) in
    num-back out c.args.m.now c.pop_num.new.m c.resume.new.m c.push_num.new.m c.push_num.result c.in-Some.ensures.leaves c.if-resume.ensures.leaves c.in-Some.z
    (c.in-Some.ensures.taken v) (c.if-resume.ensures.resumes v) t

pub returns-clause-takes : goal.returns-clause-takes
returns-clause-takes g c = λ v.
    num-ends (g.V.Vault.outside v) c.args.m.now c.pop_num.new.m c.resume.new.m c.halt.new.m c.halt.result c.in-Some.ensures.leaves c.if-resume.ensures.leaves c.in-Some.z
    (c.in-Some.ensures.taken v) (c.if-resume.ensures.resumes v) (c.halt.ensures.takes v)

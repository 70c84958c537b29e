use Rattle.std.proofs.Common.{rules}
use Rattle.ps_stepping.specs.Steps.{push_ref}
use Rattle.machine_core.specs.Holding.{object_in}
use Rattle.machine_core.specs.inside.Taking.{TakesRef}
use Rattle.machine_core.proofs.Returning.{ref-back, ref-ends}
use Rattle.machine_core.proofs.returns.return_ref.Goals as goal

pub returns-then-resume-clause-takes : goal.returns-then-resume-clause-takes
returns-then-resume-clause-takes g c = λ v.
    let out = g.V.Vault.outside v in
    let t : TakesRef out out push_ref c.resume.new.m (object_in c.in-Some.word) c.push_ref.new.m c.push_ref.result = search (rules, c.push_ref.ensures.takes v) in
    ref-back out c.args.m.now c.pop_ref.new.m c.resume.new.m c.push_ref.new.m c.push_ref.result c.in-Some.ensures.leaves c.if-resume.ensures.leaves c.in-Some.word
    (c.in-Some.ensures.taken v) c.in-Some.ensures.named (c.if-resume.ensures.resumes v) t

pub returns-clause-takes : goal.returns-clause-takes
returns-clause-takes g c = λ v.
    ref-ends (g.V.Vault.outside v) c.args.m.now c.pop_ref.new.m c.resume.new.m c.halt.new.m c.halt.result c.in-Some.ensures.leaves c.if-resume.ensures.leaves c.in-Some.word
    (c.in-Some.ensures.taken v) (c.if-resume.ensures.resumes v) (c.halt.ensures.takes v)

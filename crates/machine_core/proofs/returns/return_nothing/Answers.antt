use Rattle.machine_core.proofs.Returning.{nothing-back, nothing-ends}
use Rattle.machine_core.proofs.returns.return_nothing.Goals as goal

pub returns-then-resume-clause-takes : goal.returns-then-resume-clause-takes
returns-then-resume-clause-takes g c = λ v. nothing-back (g.V.Vault.outside v) c.args.m.now c.resume.new.m c.if-resume.ensures.leaves (c.if-resume.ensures.resumes v)

pub returns-clause-takes : goal.returns-clause-takes
returns-clause-takes g c = λ v.
    nothing-ends (g.V.Vault.outside v) c.args.m.now c.resume.new.m c.halt.new.m c.halt.result c.if-resume.ensures.leaves (c.if-resume.ensures.resumes v) (c.halt.ensures.takes v)

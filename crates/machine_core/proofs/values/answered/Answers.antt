use Rattle.std.proofs.Common.{rules, subst, sym}
use Rattle.ps_stepping.specs.Machine.{put_num, answered}
use Rattle.ps_stepping.specs.ps_heap.Answers.{answer_of}
use Rattle.machine_core.specs.Stepped.{Takes}
use Rattle.machine_core.proofs.values.answered.Goals as goal

pub returns-in-Ok-clause-takes : goal.returns-in-Ok-clause-takes
returns-in-Ok-clause-takes g c = λ v.
    let out = g.V.Vault.outside v in
    let t : Takes out out (put_num c.in-Ok.value) c.args.m.now c.put_num.new.m c.put_num.result = search (rules, c.put_num.ensures.takes v) in
    subst (λ x. Takes out out (answered c.args.line (answer_of x)) c.args.m.now c.put_num.new.m c.put_num.result) (sym c.in-Ok.is) t

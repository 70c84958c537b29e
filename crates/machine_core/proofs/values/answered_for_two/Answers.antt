use Rattle.std.proofs.Common.{rules, subst, sym}
use Rattle.ps_stepping.specs.Machine.{put_num, answered}
use Rattle.ps_stepping.specs.ps_heap.Answers.{answer_of}
use Rattle.machine_core.specs.inside.Taking.{TakesTwo}
use Rattle.machine_core.proofs.values.answered_for_two.Goals as goal

pub returns-in-Ok-clause-takes : goal.returns-in-Ok-clause-takes
returns-in-Ok-clause-takes g c = λ v.
    let out = g.V.Vault.outside v in
    let t : TakesTwo out out (put_num c.in-Ok.value) c.args.m.now c.put_for_two.new.m c.put_for_two.result = search (rules, c.put_for_two.ensures.takes v) in
    subst (λ x. TakesTwo out out (answered c.args.line (answer_of x)) c.args.m.now c.put_for_two.new.m c.put_for_two.result) (sym c.in-Ok.is) t

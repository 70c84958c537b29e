use Rattle.std.proofs.Common.{◌≡◌, rules}
use Rattle.ps_stepping.specs.ps_heap.Answers.{answer_of}
use Rattle.ps_stepping.specs.ps_heap.Operators.{arith_of}
use Rattle.ps_stepping.specs.Machine.{answered}
use Rattle.machine_core.proofs.Between.{no-operands}
use Rattle.machine_core.proofs.Popping.{takes_two}
use Rattle.machine_core.proofs.values.arith.Goals as goal

pub returns-in-Some-clause-takes : goal.returns-in-Some-clause-takes
returns-in-Some-clause-takes g c =
    let two = c.in-Some in
    let does = c.answered_for_two in
    let is : answer_of c.arith.result ≡ arith_of c.args.op two.a two.b = search rules in
    λ v.
    let out = g.V.Vault.outside v in
    takes_two out out c.args.m.now does.new.m two.a two.b does.result (two.ensures.tops v) c.args.line (arith_of c.args.op) (answer_of c.arith.result) is (does.ensures.takes v)

pub returns-in-None-clause-takes : goal.returns-in-None-clause-takes
returns-in-None-clause-takes g c = λ v.
    let out = g.V.Vault.outside v in
    no-operands out out c.args.m.now c.requires (λ a b d. answered c.args.line (arith_of c.args.op a b) d) (c.in-None.ensures.tops v)

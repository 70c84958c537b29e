use Rattle.std.proofs.Common.{sym, subst, rules}
use Rattle.machine_core.specs.ps_heap.Values.{number_of}
use Rattle.machine_core.specs.ps_stepping.Steps.{push_num}
use Rattle.machine_core.specs.Stepped.{Takes}
use Rattle.machine_operands.specs.Giving.{GivesFlag}
use Rattle.machine_operands.proofs.Giving.{flag-pushed, flag-broken}
use Rattle.machine_operands.proofs.gives.give_flag.Goals as goal

pub returns-in-Ok : goal.returns-in-Ok
returns-in-Ok g c =
    let m = c.args.m.now in
    λ v w.
    let before = g.V.Vault.outside v in
    let after = g.V.Vault.outside w in
    let pushed : Takes after after (push_num c.number.result) m c.push_num.new.m c.push_num.result = search (rules, c.push_num.ensures.takes w) in
    let push : Takes after after (push_num (number_of c.in-Ok.flag)) m c.push_num.new.m c.push_num.result =
    subst (λ z. Takes after after (push_num z) m c.push_num.new.m c.push_num.result) c.number.ensures pushed in
    subst (λ got. GivesFlag before after m c.push_num.new.m c.push_num.result got) (sym c.in-Ok.is)
    (flag-pushed before after m c.push_num.new.m c.push_num.result c.in-Ok.flag c.push_num.ensures.goes push)

pub returns-in-Err : goal.returns-in-Err
returns-in-Err g c =
    let m = c.args.m.now in
    let f = c.broken.ensures in
    λ v w.
    let before = g.V.Vault.outside v in
    let after = g.V.Vault.outside w in
    subst (λ got. GivesFlag before after m c.broken.new.m c.broken.result got) (sym c.in-Err.is)
    (flag-broken before after m c.broken.new.m c.broken.result c.in-Err.fault f.sound f.answer f.left)

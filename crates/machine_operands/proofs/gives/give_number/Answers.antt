use Rattle.std.proofs.Common.{◌≡◌, sym, subst, rules}
use Rattle.std.specs.Prelude.{Ok}
use Rattle.machine_core.specs.heap_places.declared.value.Value.TheVariants as held
use Rattle.machine_core.specs.ps_heap.Values.{number_of}
use Rattle.machine_core.specs.ps_stepping.Steps.{push_num}
use Rattle.machine_core.specs.Stepped.{Takes}
use Rattle.machine_operands.specs.Giving.{GivesNumber}
use Rattle.machine_operands.proofs.Giving.{number-pushed, number-failed, int-read, flag-read}
use Rattle.machine_operands.proofs.gives.give_number.Goals as goal

pub returns-in-Ok-Num : goal.returns-in-Ok-Num
returns-in-Ok-Num g c =
    let m = c.args.m.now in
    let is : c.args.got ≡ Ok (held.Num c.in-Ok-Num.z) = search rules in
    λ v w.
    let before = g.V.Vault.outside v in
    let after = g.V.Vault.outside w in
    let push : Takes after after (push_num c.in-Ok-Num.z) m c.push_num.new.m c.push_num.result = search (rules, c.push_num.ensures.takes w) in
    subst (λ got. GivesNumber before after m c.push_num.new.m c.push_num.result c.args.line got) (sym is)
    (number-pushed before after m c.push_num.new.m c.push_num.result c.args.line c.in-Ok-Num.z (held.Num c.in-Ok-Num.z) (λ names. int-read m.objects after names c.in-Ok-Num.z) c.push_num.ensures.goes push)

pub returns-in-Ok-Flag : goal.returns-in-Ok-Flag
returns-in-Ok-Flag g c =
    let m = c.args.m.now in
    let b = c.in-Ok-Flag.flag in
    let new = c.push_num-in-Ok-Flag.new.m in
    let r = c.push_num-in-Ok-Flag.result in
    let is : c.args.got ≡ Ok (held.Flag b) = search rules in
    λ v w.
    let before = g.V.Vault.outside v in
    let after = g.V.Vault.outside w in
    let pushed : Takes after after (push_num c.number.result) m new r = search (rules, c.push_num-in-Ok-Flag.ensures.takes w) in
    let push : Takes after after (push_num (number_of b)) m new r = subst (λ z. Takes after after (push_num z) m new r) c.number.ensures pushed in
    subst (λ got. GivesNumber before after m new r c.args.line got) (sym is)
    (number-pushed before after m new r c.args.line (number_of b) (held.Flag b) (λ names. flag-read m.objects after names b) c.push_num-in-Ok-Flag.ensures.goes push)

pub returns-in-Err : goal.returns-in-Err
returns-in-Err g c =
    let m = c.args.m.now in
    let f = c.failed.ensures in
    λ v w.
    let before = g.V.Vault.outside v in
    let after = g.V.Vault.outside w in
    subst (λ got. GivesNumber before after m c.failed.new.m c.failed.result c.args.line got) (sym c.in-Err.is)
    (number-failed before after m c.failed.new.m c.failed.result c.args.line c.in-Err.fault f.sound f.answer f.left)

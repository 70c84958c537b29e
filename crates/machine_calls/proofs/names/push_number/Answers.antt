use mir.Syntax.{w32}
use mir.Val.{to_z, of_z}
use Rattle.std.proofs.Common.{◌≡◌, ◌∙◌, ℤ, sym, rules, subst}
use Rattle.machine_core.specs.heap_places.declared.value.Value.{Value}
use Rattle.machine_core.specs.ps_heap.Values.{number_of}
use Rattle.machine_core.specs.ps_stepping.Steps.{push_num}
use Rattle.machine_core.specs.Stepped.{Takes}
use Rattle.machine_calls.specs.inside.Names.{number_pushed}
use Rattle.machine_calls.proofs.names.push_number.Goals as goal

pub returns-in-Num-clause-takes : goal.returns-in-Num-clause-takes
returns-in-Num-clause-takes g c =
    let m = c.args.m.now in
    let new = c.push_num.new.m in
    let same : to_z w32 (of_z w32 c.in-Num.z) ≡ c.in-Num.z = search rules in
    λ v.
    let out = g.V.Vault.outside v in
    subst (λ (k : Value). Takes out out (number_pushed k) m new c.push_num.result) (sym c.in-Num.is)
    (subst (λ (z : ℤ). Takes out out (push_num z) m new c.push_num.result) same (c.push_num.ensures.takes v))

pub returns-in-Flag-clause-takes : goal.returns-in-Flag-clause-takes
returns-in-Flag-clause-takes g c =
    let m = c.args.m.now in
    let new = c.push_num-in-Flag.new.m in
    let same : to_z w32 (of_z w32 c.number.result) ≡ c.number.result = search rules in
    let number : to_z w32 (of_z w32 c.number.result) ≡ number_of c.in-Flag.flag = same ∙ c.number.ensures in
    λ v.
    let out = g.V.Vault.outside v in
    subst (λ (k : Value). Takes out out (number_pushed k) m new c.push_num-in-Flag.result) (sym c.in-Flag.is)
    (subst (λ (z : ℤ). Takes out out (push_num z) m new c.push_num-in-Flag.result) number (c.push_num-in-Flag.ensures.takes v))

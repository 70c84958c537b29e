use mir.Syntax.{w32}
use mir.Val.{to_z, of_z}
use Rattle.std.proofs.Common.{◌≡◌, Bool, ℤ, rules, subst, ap, sym, ◌∙◌}
use Rattle.machine_core.specs.ps_heap.Texts.{is_at_end}
use Rattle.machine_core.specs.ps_heap.Values.{number_of}
use Rattle.machine_core.specs.ps_stepping.Steps.{push_num}
use Rattle.machine_core.specs.ps_stepping.Library.{at_end}
use Rattle.machine_core.specs.Stepped.{Takes}
use Rattle.machine_core.proofs.Between.{same-held}
use Rattle.machine_strings.proofs.inputs.at_end.Goals as goal

pub returns-clause-takes : goal.returns-clause-takes
returns-clause-takes g c =
    let m = c.args.m.now in
    let did = c.push_num in
    let ended = c.is_at_end-ended in
    let flag : c.number.result ≡ number_of ended.result = search rules in
    let same : to_z w32 (of_z w32 c.number.result) ≡ c.number.result = search rules in
    λ v.
    let out = g.V.Vault.outside v in
    same-held out out m did.new.m did.result (push_num c.number.result) at_end
    (λ conf h.
    ap (λ (b : Bool). push_num (number_of b) conf) (ap is_at_end (sym h.held.input_is) ∙ sym ended.ensures) ∙ ap (λ (z : ℤ). push_num z conf) (sym flag))
    (subst (λ (z : ℤ). Takes out out (push_num z) m did.new.m did.result) same (did.ensures.takes v))

use mir.Syntax.{w32}
use mir.Val.{to_z, of_z}
use Rattle.std.proofs.Common.{◌≡◌, ℕ, ℤ, pos, length, rules, arith, ap, sym, ◌∙◌, subst}
use Rattle.machine_core.specs.ps_stepping.Steps.{push_num}
use Rattle.machine_core.specs.ps_stepping.Library.{text_length}
use Rattle.machine_core.specs.Stepped.{Takes}
use Rattle.machine_strings.proofs.Parts.{after-parts}
use Rattle.machine_strings.proofs.texts.length.Goals as goal

pub returns-clause-takes : goal.returns-clause-takes
returns-clause-takes g c =
    let p = c.in-Some.ensures in
    let last = c.pop_text.new.m in
    let did = c.push_num in
    let count = c.text_length-count in
    let same : to_z w32 (of_z w32 c.cast_signed.result) ≡ pos count.result = search (rules, arith) in
    λ v.
    let out = g.V.Vault.outside v in
    after-parts out out text_length c.args.m.now last p.leaves (push_num (pos count.result)) did.new.m did.result
    (subst (λ (z : ℤ). Takes out out (push_num z) last did.new.m did.result) same (did.ensures.takes v))
    (λ names conf h.
    let a = (p.pops v).gives names conf h in
    (a.0, a.2 (λ bytes d. push_num (pos (length bytes)) d) ∙ ap (λ (n : ℕ). push_num (pos n) a.0) (sym (count.ensures.value v names a.1 a.4)), a.3))

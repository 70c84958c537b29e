use mir.Syntax.{w32}
use mir.Val.{to_z, of_z}
use Rattle.std.proofs.Common.{◌≡◌, Bool, ℤ, rules, subst, ap, sym, ◌∙◌}
use Rattle.machine_core.specs.ps_heap.Values.{number_of}
use Rattle.machine_core.specs.ps_meaning.Operations.{text_relation}
use Rattle.machine_core.specs.ps_stepping.Steps.{push_num}
use Rattle.machine_core.specs.ps_stepping.Objects.{compare_texts}
use Rattle.machine_core.specs.Stepped.{Takes}
use Rattle.machine_strings.proofs.Parts.{both-leave, after-parts, two-texts}
use Rattle.machine_strings.proofs.texts.compare_texts.Goals as goal

pub returns-clause-takes : goal.returns-clause-takes
returns-clause-takes g c =
    let op = c.args.relation in
    let m = c.args.m.now in
    let mid = c.pop_text.new.m in
    let last = c.pop_text-2.new.m in
    let p = c.in-Some.ensures in
    let q = c.in-Some-pop_text.ensures in
    let did = c.push_num in
    let stands = c.is_related-stands.result in
    let flag : c.number.result ≡ number_of stands = search rules in
    let same : to_z w32 (of_z w32 c.number.result) ≡ c.number.result = search rules in
    λ v.
    let out = g.V.Vault.outside v in
    after-parts out out (compare_texts op) m last (both-leave m mid last p.leaves q.leaves) (push_num c.number.result) did.new.m did.result
    (subst (λ (z : ℤ). Takes out out (push_num z) last did.new.m did.result) same (did.ensures.takes v))
    (λ names conf h.
    let t = two-texts out m mid last c.in-Some.b c.in-Some-pop_text.a (p.pops v) (q.pops v) q.leaves.objects names conf h in
    let related : text_relation op t.left t.right ≡ stands =
    c.is_related-stands.ensures t.left t.right (sym (c.compare-order.ensures v names t.left t.right t.left_is t.right_is)) in (
      t.next,
      t.pops (λ x y e. push_num (number_of (text_relation op x y)) e)
          ∙ ap (λ (b : Bool). push_num (number_of b) t.next) related ∙ ap (λ (z : ℤ). push_num z t.next) (sym flag),
      t.held,
    ))

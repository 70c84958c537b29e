use mir.Syntax.{w32}
use mir.Val.{to_z, of_z}
use Rattle.std.proofs.Common.{◌≡◌, ℤ, ◌∙◌, rules, subst}
use Rattle.machine_core.specs.ps_stepping.Steps.{push_num}
use Rattle.machine_core.specs.Stepped.{Takes}
use Rattle.machine_structures.proofs.Comparing.{objects-compared}
use Rattle.machine_structures.proofs.structures.compare_objects.Goals as goal

pub returns-clause-takes : goal.returns-clause-takes
returns-clause-takes g c =
    let m = c.args.m.now in
    let mid = c.pop_denoting.new.m in
    let last = c.pop_denoting-2.new.m in
    let p = c.in-Some.ensures in
    let q = c.in-Some-pop_denoting.ensures in
    let did = c.push_num in
    let stands = c.is_related-stands.result in
    let same : to_z w32 (of_z w32 c.number.result) ≡ c.number.result = search rules in
    λ v.
    let out = g.V.Vault.outside v in
    objects-compared out c.args.relation m mid last did.new.m c.in-Some.b c.in-Some-pop_denoting.a c.is_one-are_one.result stands did.result p.leaves q.leaves
    (p.pops v) (q.pops v) (c.is_one-are_one.ensures v) c.is_related-stands.ensures
    (subst (λ (z : ℤ). Takes out out (push_num z) last did.new.m did.result) (same ∙ c.number.ensures) (did.ensures.takes v))

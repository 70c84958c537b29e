use Rattle.std.proofs.Common.{◌≡◌, ℤ, w32, to_z, of_z, rules, subst}
use Rattle.machine_core.specs.ps_stepping.Steps.{pop_num}
use Rattle.machine_core.specs.ps_stepping.Objects.{pop_vector}
use Rattle.machine_core.proofs.Between.{taken-then}
use Rattle.machine_operands.specs.Popping.{anything}
use Rattle.machine_vectors.specs.inside.Elements.{TakesVector, number_put}
use Rattle.machine_vectors.proofs.ElementReads.{vector-then}
use Rattle.machine_vectors.proofs.puts.set_element_num.Goals as goal

pub returns-clause-takes : goal.returns-clause-takes
returns-clause-takes g c =
    let v = c.args.vault.now in
    let put = c.write_number in
    let before = g.V.Vault.outside v in
    let after = g.V.Vault.outside put.new.vault in
    let line = c.args.line in
    let one = c.pop_int.new.m in
    let two = c.pop_int-2.new.m in
    let three = c.pop_vector.new.m in
    let p = c.in-Some.ensures in
    let q = c.in-Some-pop_int.ensures in
    let x = c.in-Some-pop_vector.ensures in
    let z = c.in-Some.z in
    let at = c.in-Some-pop_int.at in
    let vector = c.in-Some-pop_vector.vector in
    let same_z : to_z w32 (of_z w32 z) ≡ z = search rules in
    let same_at : to_z w32 (of_z w32 at) ≡ at = search rules in
    taken-then before after c.args.m.now one put.new.m put.result p.leaves pop_num z (λ y d. pop_num d (λ i e. pop_vector e (λ ty u f. number_put line i y ty u f))) (p.pops v)
    (taken-then before after one two put.new.m put.result q.leaves pop_num at (λ i e. pop_vector e (λ ty u f. number_put line i z ty u f)) (q.pops v)
    (vector-then before two three x.leaves (number_put line at z) after put.new.m put.result vector (x.pops v)
    (subst (λ (i : ℤ). TakesVector before after anything (number_put line i z) vector three put.new.m put.result) same_at
    (subst (λ (y : ℤ). TakesVector before after anything (number_put line (to_z w32 (of_z w32 at)) y) vector three put.new.m put.result) same_z put.ensures.puts))))

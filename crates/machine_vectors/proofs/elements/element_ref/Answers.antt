use Rattle.std.proofs.Common.{◌≡◌, ℤ, w32, to_z, of_z, rules, subst}
use Rattle.machine_core.specs.ps_stepping.Steps.{pop_num}
use Rattle.machine_core.specs.ps_stepping.Objects.{pop_vector}
use Rattle.machine_core.proofs.Between.{taken-then}
use Rattle.machine_operands.specs.Popping.{anything}
use Rattle.machine_vectors.specs.inside.Elements.{TakesVector, reference_read}
use Rattle.machine_vectors.proofs.ElementReads.{vector-then}
use Rattle.machine_vectors.proofs.elements.element_ref.Goals as goal

pub returns-clause-takes : goal.returns-clause-takes
returns-clause-takes g c =
    let v = c.args.vault.now in
    let find = c.find_reference in
    let before = g.V.Vault.outside v in
    let after = g.V.Vault.outside find.new.vault in
    let line = c.args.line in
    let one = c.pop_int.new.m in
    let two = c.pop_vector.new.m in
    let p = c.in-Some.ensures in
    let q = c.in-Some-pop_vector.ensures in
    let at = c.in-Some.at in
    let vector = c.in-Some-pop_vector.vector in
    let same_at : to_z w32 (of_z w32 at) ≡ at = search rules in
    taken-then before after c.args.m.now one find.new.m find.result p.leaves pop_num at (λ i d. pop_vector d (λ ty u e. reference_read line i ty u e)) (p.pops v)
    (vector-then before one two q.leaves (reference_read line at) after find.new.m find.result vector (q.pops v)
    (subst (λ (i : ℤ). TakesVector before after anything (reference_read line i) vector two find.new.m find.result) same_at find.ensures.finds))

use Rattle.std.proofs.Common.{◌≡◌, ℤ, w32, to_z, of_z, rules, subst}
use Rattle.machine_core.specs.ps_stepping.Steps.{pop_num}
use Rattle.machine_core.specs.ps_stepping.Objects.{pop_vector}
use Rattle.machine_core.proofs.Between.{taken-then}
use Rattle.machine_operands.specs.Popping.{anything}
use Rattle.machine_vectors.specs.inside.Elements.{TakesVector, number_read}
use Rattle.machine_vectors.proofs.ElementReads.{number-known, vector-then}
use Rattle.machine_vectors.proofs.elements.element_num.Goals as goal

pub returns-in-Some-element_number-clause-takes : goal.returns-in-Some-element_number-clause-takes
returns-in-Some-element_number-clause-takes g c =
    let v = c.args.vault.now in
    let out = g.V.Vault.outside v in
    let line = c.args.line in
    let one = c.pop_int.new.m in
    let two = c.pop_vector.new.m in
    let push = c.push_num in
    let p = c.in-Some.ensures in
    let q = c.in-Some-pop_vector.ensures in
    let at = c.in-Some.at in
    let vector = c.in-Some-pop_vector.vector in
    let same_at : to_z w32 (of_z w32 at) ≡ at = search rules in
    let z = c.in-Some-element_number.z in
    let same_z : to_z w32 (of_z w32 z) ≡ z = search rules in
    taken-then out out c.args.m.now one push.new.m push.result p.leaves pop_num at (λ i d. pop_vector d (λ ty u e. number_read line i ty u e)) (p.pops v)
    (vector-then out one two q.leaves (number_read line at) out push.new.m push.result vector (q.pops v)
    (subst (λ (i : ℤ). TakesVector out out anything (number_read line i) vector two push.new.m push.result) same_at
    (number-known out two push.new.m push.result vector line at _ z _ same_at same_z q.names (c.in-Some-element_number.ensures v) (push.ensures.takes v))))

pub returns-in-None-clause-takes : goal.returns-in-None-clause-takes
returns-in-None-clause-takes g c =
    let v = c.args.vault.now in
    let find = c.find_number in
    let before = g.V.Vault.outside v in
    let after = g.V.Vault.outside find.new.vault in
    let line = c.args.line in
    let one = c.pop_int.new.m in
    let two = c.pop_vector.new.m in
    let p = c.in-Some.ensures in
    let q = c.in-Some-pop_vector.ensures in
    let at = c.in-Some.at in
    let vector = c.in-Some-pop_vector.vector in
    let same_at : to_z w32 (of_z w32 at) ≡ at = search rules in
    taken-then before after c.args.m.now one find.new.m find.result p.leaves pop_num at (λ i d. pop_vector d (λ ty u e. number_read line i ty u e)) (p.pops v)
    (vector-then before one two q.leaves (number_read line at) after find.new.m find.result vector (q.pops v)
    (subst (λ (i : ℤ). TakesVector before after anything (number_read line i) vector two find.new.m find.result) same_at find.ensures.finds))

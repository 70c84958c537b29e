use Rattle.std.proofs.Common.{◌≡◌, ℤ, true, w32, to_z, of_z, rules, subst}
use Rattle.std.proofs.lemmas.Int.{to_z-of_z}
use Rattle.machine_core.specs.ps_heap.Operators.{is_int}
use Rattle.machine_operands.proofs.Parts.{fails-after, so-after}
use Rattle.machine_vectors.specs.inside.Elements.{OfNumbers, TakesVector, number_put}
use Rattle.machine_vectors.proofs.ElementPuts.{number-written}
use Rattle.machine_vectors.proofs.puts.put_number.Goals as goal

pub returns-clause-puts : goal.returns-clause-puts
returns-clause-puts g c =
    let v = c.args.vault.now in
    let set = c.set_element-set in
    let w = set.new.vault in
    let before = g.V.Vault.outside v in
    let after = g.V.Vault.outside w in
    let m = c.args.m.now in
    let done = c.done in
    let z = to_z w32 (of_z w32 c.args.z) in
    let int : is_int z ≡ true = search rules in
    subst (λ (y : ℤ). TakesVector before after OfNumbers (number_put c.args.line c.args.at y) c.args.vector m done.new.m done.result) (to_z-of_z w32 c.args.z c.ranges.z)
    (subst (λ (i : ℤ). TakesVector before after OfNumbers (number_put c.args.line i z) c.args.vector m done.new.m done.result) (to_z-of_z w32 c.args.at c.ranges.at)
    (number-written before after m done.new.m set.new.self done.result c.args.vector c.args.line _ c.requires.names set.result set.ensures.stands set.ensures.size
    (done.ensures v w) z int set.ensures.kept))

pub returns-clause-fails : goal.returns-clause-fails
returns-clause-fails g c =
    let v = c.args.vault.now in
    let set = c.set_element-set in
    let w = set.new.vault in
    let done = c.done in
    fails-after done.result done.new.m (g.V.Vault.outside v) (g.V.Vault.outside w) set.result (done.ensures v w).ends.breaks set.ensures.fails

pub returns-clause-alive : goal.returns-clause-alive
returns-clause-alive g c =
    let set = c.set_element-set in
    let w = set.new.vault in
    let done = c.done in
    so-after done.result done.new.m set.result (g.V.Vault.alive w) (done.ensures w w).ends.breaks set.ensures.alive

use Rattle.std.proofs.Common.{ℤ, w32, subst}
use Rattle.std.proofs.lemmas.Int.{to_z-of_z}
use Rattle.machine_operands.specs.Popping.{anything}
use Rattle.machine_operands.proofs.Parts.{fails-after, so-after}
use Rattle.machine_vectors.specs.inside.Elements.{TakesVector, reference_read}
use Rattle.machine_vectors.proofs.ElementReads.{reference-found}
use Rattle.machine_vectors.proofs.elements.find_reference.Goals as goal

pub returns-clause-finds : goal.returns-clause-finds
returns-clause-finds g c =
    let v = c.args.vault.now in
    let got = c.get_element-got in
    let w = got.new.vault in
    let before = g.V.Vault.outside v in
    let after = g.V.Vault.outside w in
    let m = c.args.m.now in
    let give = c.give_reference in
    subst (λ (i : ℤ). TakesVector before after anything (reference_read c.args.line i) c.args.vector m give.new.m give.result) (to_z-of_z w32 c.args.at c.ranges.at)
    (reference-found before after m give.new.m got.new.self give.result c.args.vector c.args.line _ c.requires.names got.ensures.leaves got.result got.ensures.keeps
    got.ensures.got got.ensures.near (give.ensures v w))

pub returns-clause-fails : goal.returns-clause-fails
returns-clause-fails g c =
    let v = c.args.vault.now in
    let got = c.get_element-got in
    let w = got.new.vault in
    let give = c.give_reference in
    fails-after give.result give.new.m (g.V.Vault.outside v) (g.V.Vault.outside w) got.result (give.ensures v w).ends.breaks got.ensures.fails

pub returns-clause-alive : goal.returns-clause-alive
returns-clause-alive g c =
    let got = c.get_element-got in
    let w = got.new.vault in
    let give = c.give_reference in
    so-after give.result give.new.m got.result (g.V.Vault.alive w) (give.ensures w w).ends.breaks got.ensures.alive

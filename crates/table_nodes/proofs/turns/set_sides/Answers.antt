use Rattle.std.proofs.Common.{arith}
use Rattle.table_nodes.specs.Steps.{place}
use Rattle.table_nodes.proofs.StepLaws.{height_is, sides_set}
use Rattle.table_nodes.proofs.turns.set_sides.Goals as goal

pub returns-clause-set : goal.returns-clause-set
returns-clause-set g c =
    let p = place c.args.sw.now (g.V.Vault.outside c.args.vault.now) in
    sides_set c.args.sw.now c.link.new.sw (g.V.Vault.outside c.args.vault.now) c.args.at c.args.left c.args.right _ c.link.ensures.linked (λ ks l a r s.
    let el = height_is ks p c.args.left c.height.result c.height.ensures.none (c.height.ensures.some ks) l s.given.left s.left_is in
    let er = height_is ks p c.args.right c.height-2.result c.height-2.ensures.none (c.height-2.ensures.some ks) r s.given.right s.right_is in
    omega (arith, s.left_low, s.right_low))

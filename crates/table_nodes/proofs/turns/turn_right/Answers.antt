use Rattle.std.proofs.Common.{◌<◌, arith}
use Rattle.avl_trees.specs.Trees.{leaf, node, height}
use Rattle.table_nodes.specs.Steps.{place}
use Rattle.table_nodes.proofs.StepLaws.{height_is, touches_none}
use Rattle.table_nodes.proofs.WingLaws.{no_ends, the_ends}
use Rattle.table_nodes.proofs.TurnLaws.{single_right, via_inner}
use Rattle.table_nodes.proofs.Sparing.{spares_then}
use Rattle.table_nodes.proofs.turns.turn_right.Goals as goal

pub returns-in_default-clause-turned : goal.returns-in_default-clause-turned
returns-in_default-clause-turned g c ks leaf a r s tall w = absurd s.left_is
returns-in_default-clause-turned g c ks (node x b y) a r s tall w = absurd (no_ends c.args.sw.now c.args.wing.sides x b y c.in_default.is w.0)

pub returns-then-height-clause-turned : goal.returns-then-height-clause-turned
returns-then-height-clause-turned g c ks leaf a r s tall w = absurd s.left_is
returns-then-height-clause-turned g c ks (node x b y) a r s tall w =
    let p = place c.args.sw.now (g.V.Vault.outside c.args.vault.now) in
    let known = the_ends c.args.sw.now c.args.wing.sides c.in-Some.sides (node x b y) c.in-Some.is w.0 in
    let hx = height_is ks p c.in-Some.sides.left c.height.result c.height.ensures.none (c.height.ensures.some ks) x s.given.left.1 known.0 in
    let hy = height_is ks p c.in-Some.sides.right c.height-2.result c.height-2.ensures.none (c.height-2.ensures.some ks) y s.given.left.2 known.1 in
    let lower : height x < height y = omega (arith, hx, hy, c.if-height.true) in
    via_inner ks p (place c.turn_inner.new.sw (g.V.Vault.outside c.args.vault.now)) c.args.at c.args.left c.args.right c.in-Some.sides c.args.wing.right c.turn_inner.result c.turn_inner.ensures.turned x b y a r s tall lower known (w.1 lower)

pub returns-clause-turned : goal.returns-clause-turned
returns-clause-turned g c ks leaf a r s tall w = absurd s.left_is
returns-clause-turned g c ks (node x b y) a r s tall w =
    let p = place c.args.sw.now (g.V.Vault.outside c.args.vault.now) in
    let known = the_ends c.args.sw.now c.args.wing.sides c.in-Some.sides (node x b y) c.in-Some.is w.0 in
    let hx = height_is ks p c.in-Some.sides.left c.height.result c.height.ensures.none (c.height.ensures.some ks) x s.given.left.1 known.0 in
    let hy = height_is ks p c.in-Some.sides.right c.height-2.result c.height-2.ensures.none (c.height-2.ensures.some ks) y s.given.left.2 known.1 in
    single_right ks p p (place c.set_sides-2.new.sw (g.V.Vault.outside c.args.vault.now)) (place c.set_sides-3.new.sw (g.V.Vault.outside c.args.vault.now)) c.args.at c.args.left c.in-Some.sides.left c.in-Some.sides.right c.args.right (touches_none p s.here.heap) c.set_sides-2.ensures.set c.set_sides-3.ensures.set x b y a r s tall
    (omega (arith, hx, hy, c.if-height.false)) known.0 known.1

pub returns-clause-spares : goal.returns-clause-spares
returns-clause-spares g c = spares_then _ _ _ _ _ _ c.set_sides-2.ensures.spares c.set_sides-3.ensures.spares

pub returns-clause-held : goal.returns-clause-held
returns-clause-held g c = record {
  nodes = λ at h. c.set_sides-3.ensures.held.nodes at (c.set_sides-2.ensures.held.nodes at h);
  named = λ at n h. c.set_sides-3.ensures.held.named at n (c.set_sides-2.ensures.held.named at n h);
}

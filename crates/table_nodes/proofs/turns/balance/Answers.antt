use Rattle.std.proofs.Common.{◌+◌, ◌<◌, subst, arith}
use Rattle.avl_trees.specs.Trees.{height}
use Rattle.table_nodes.specs.Steps.{AreSides, place}
use Rattle.table_nodes.proofs.StepLaws.{height_is}
use Rattle.table_nodes.proofs.TurnLaws.{balanced_right, balanced_left, balanced_plain}
use Rattle.table_nodes.proofs.turns.balance.Goals as goal

pub returns-in-Some-clause-balanced : goal.returns-in-Some-clause-balanced
returns-in-Some-clause-balanced g c ks l a r s wl wr =
    let p = place c.args.sw.now (g.V.Vault.outside c.args.vault.now) in
    let hl = height_is ks p c.args.left c.height-before.result c.height-before.ensures.none (c.height-before.ensures.some ks) l s.given.left s.left_is in
    let hr = height_is ks p c.args.right c.height-after.result c.height-after.ensures.none (c.height-after.ensures.some ks) r s.given.right s.right_is in
    let tall : height r + 1 < height l = omega (arith, hl, hr, c.saturating_sub.ensures, c.if-saturating_sub-gt1.true) in
    balanced_right ks p (place c.turn_right.new.sw (g.V.Vault.outside c.args.vault.now)) c.args.at c.in-Some.left c.args.right c.args.wing c.turn_right.result c.turn_right.ensures.turned l a r
    (subst (λ i. AreSides ks p c.args.at i c.args.right l a r) c.in-Some.is s) tall (wl tall)

pub returns-in-Some-right-clause-balanced : goal.returns-in-Some-right-clause-balanced
returns-in-Some-right-clause-balanced g c ks l a r s wl wr =
    let p = place c.args.sw.now (g.V.Vault.outside c.args.vault.now) in
    let hl = height_is ks p c.args.left c.height-before.result c.height-before.ensures.none (c.height-before.ensures.some ks) l s.given.left s.left_is in
    let hr = height_is ks p c.args.right c.height-after.result c.height-after.ensures.none (c.height-after.ensures.some ks) r s.given.right s.right_is in
    let tall : height l + 1 < height r = omega (arith, hl, hr, c.saturating_sub-2.ensures, c.if-saturating_sub-gt1-2.true) in
    balanced_left ks p (place c.turn_left.new.sw (g.V.Vault.outside c.args.vault.now)) c.args.at c.in-Some-right.right c.args.left c.args.wing c.turn_left.result c.turn_left.ensures.turned l a r
    (subst (λ i. AreSides ks p c.args.at c.args.left i l a r) c.in-Some-right.is s) tall (wr tall)

pub returns-clause-balanced : goal.returns-clause-balanced
returns-clause-balanced g c ks l a r s wl wr =
    let p = place c.args.sw.now (g.V.Vault.outside c.args.vault.now) in
    let hl = height_is ks p c.args.left c.height-before.result c.height-before.ensures.none (c.height-before.ensures.some ks) l s.given.left s.left_is in
    let hr = height_is ks p c.args.right c.height-after.result c.height-after.ensures.none (c.height-after.ensures.some ks) r s.given.right s.right_is in
    balanced_plain ks p (place c.set_sides.new.sw (g.V.Vault.outside c.args.vault.now)) c.args.at c.args.left c.args.right c.set_sides.ensures.set l a r s (omega arith) (omega arith)

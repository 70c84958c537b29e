use Rattle.std.proofs.Common.{ℕ, Option, Some, subst, arith}
use Rattle.avl_trees.specs.Trees.{leaf, node}
use Rattle.table_nodes.specs.Nodes.{IsLinked}
use Rattle.table_nodes.specs.Steps.{place, AreTurnedOut}
use Rattle.table_nodes.proofs.StepLaws.{touches_none}
use Rattle.table_nodes.proofs.WingLaws.{no_ends, the_ends}
use Rattle.table_nodes.proofs.TurnLaws.{double_outer}
use Rattle.table_nodes.proofs.Sparing.{spares_then}
use Rattle.table_nodes.proofs.turns.turn_outer.Goals as goal

pub returns-in_default-clause-turned : goal.returns-in_default-clause-turned
returns-in_default-clause-turned g c ks l a leaf b y s w = absurd (omega (arith, s.lower))
returns-in_default-clause-turned g c ks l a (node u d v) b y s w = absurd (subst (λ (i : Option ℕ). IsLinked c.args.sw.now i (Some d.name)) c.in_default.is s.inner_is)

pub returns-in_default-ends-clause-turned : goal.returns-in_default-ends-clause-turned
returns-in_default-ends-clause-turned g c ks l a leaf b y s w = absurd (omega (arith, s.lower))
returns-in_default-ends-clause-turned g c ks l a (node u d v) b y s w = absurd (no_ends c.args.sw.now c.args.ends u d v c.in_default-ends.is w)

pub returns-clause-turned : goal.returns-clause-turned
returns-clause-turned g c ks l a leaf b y s w = absurd (omega (arith, s.lower))
returns-clause-turned g c ks l a (node u d v) b y s w =
    let p = place c.args.sw.now (g.V.Vault.outside c.args.vault.now) in
    let t = subst (λ (i : Option ℕ). AreTurnedOut ks p c.args.at c.args.right c.args.left i c.args.sides.right l a (node u d v) b y) c.in-Some.is s in
    let known = the_ends c.args.sw.now c.args.ends c.in-Some-ends.ends (node u d v) c.in-Some-ends.is w in
    double_outer ks p p (place c.set_sides-2.new.sw (g.V.Vault.outside c.args.vault.now)) (place c.set_sides-3.new.sw (g.V.Vault.outside c.args.vault.now)) (place c.set_sides-4.new.sw (g.V.Vault.outside c.args.vault.now)) c.args.at c.args.right c.in-Some.middle c.args.left c.in-Some-ends.ends.left c.in-Some-ends.ends.right c.args.sides.right
    (touches_none p s.here.heap) c.set_sides-2.ensures.set c.set_sides-3.ensures.set c.set_sides-4.ensures.set l a u d v b y t known.0 known.1

pub returns-clause-spares : goal.returns-clause-spares
returns-clause-spares g c = spares_then _ _ _ _ _ _ c.set_sides-2.ensures.spares (spares_then _ _ _ _ _ _ c.set_sides-3.ensures.spares c.set_sides-4.ensures.spares)

pub returns-clause-held : goal.returns-clause-held
returns-clause-held g c = record {
  nodes = λ at h. c.set_sides-4.ensures.held.nodes at (c.set_sides-3.ensures.held.nodes at (c.set_sides-2.ensures.held.nodes at h));
  named = λ at n h. c.set_sides-4.ensures.held.named at n (c.set_sides-3.ensures.held.named at n (c.set_sides-2.ensures.held.named at n h));
}

use Rattle.std.proofs.Common.{◌+◌, ◌*◌, ◌-◌, Some, subst, arith}
use Rattle.avl_trees.specs.Trees.{leaf, node, merge}
use Rattle.table_nodes.specs.Steps.{place}
use Rattle.table_nodes.specs.Removing.{Leaves}
use Rattle.table_nodes.proofs.BringLaws.{brings_more, brings_none, brings_then, brings_written, keeps_lasts}
use Rattle.table_nodes.proofs.SeenLaws.{fetch_back}
use Rattle.table_nodes.proofs.StepLaws.{place_touched}
use Rattle.table_nodes.proofs.Putting.{no_root, root_named, tree_right}
use Rattle.table_nodes.proofs.Removal.{leaves_touched, tree_grown, merge_left, merge_right, merge_sides_of, merge_known, merge_done}
use Rattle.table_nodes.proofs.Sparing.{spares_none, spares_then, spares_touched}
use Rattle.table_nodes.proofs.WingLaws.{wing_held_kept}
use Rattle.table_nodes.proofs.FaultLaws.{node_fault_back, the_node}
use Rattle.table_nodes.proofs.NodeLaws.{grows_then}
use Rattle.table_nodes.proofs.remove.merge_sides.Goals as goal

pub returns-in_default-clause-merged : goal.returns-in_default-clause-merged
returns-in_default-clause-merged g c ks at l a r p h e f lower =
    merge_left ks (place c.args.sw.now (g.V.Vault.outside c.args.vault.now)) c.args.left c.args.right at c.in_default.is l a r p h e f

pub returns-in_default-left-clause-merged : goal.returns-in_default-left-clause-merged
returns-in_default-left-clause-merged g c ks at l a r p h e f lower =
    let old = place c.args.sw.now (g.V.Vault.outside c.args.vault.now) in
    subst (λ i. Leaves ks old old (node l a r) (merge l r) i) c.in-Some.is
    (merge_right ks old c.args.left c.args.right at c.in-Some.above c.in_default-left.is c.in-Some.is l a r p h e f)

pub returns-in-Err-clause-merged : goal.returns-in-Err-clause-merged
returns-in-Err-clause-merged g c ks at l a leaf p h e f lower = absurd (no_root c.args.sw.now c.args.right c.in-Some.above c.in-Some.is f)
returns-in-Err-clause-merged g c ks at leaf a (node x b y) p h e f lower = absurd (no_root c.args.sw.now c.args.left c.in-Some-left.below c.in-Some-left.is e)
returns-in-Err-clause-merged g c ks at (node u d v) a (node x b y) p h e f lower =
    let old = place c.args.sw.now (g.V.Vault.outside c.args.vault.now) in
    let l = node u d v in
    let r = node x b y in
    let above = root_named old.heap c.args.right c.in-Some.above b.name c.in-Some.is f in
    let below = root_named old.heap c.args.left c.in-Some-left.below d.name c.in-Some-left.is e in
    let ready = c.in-Err.ensures.wing ks r l h.stands.2 h.stands.1 above below (omega (arith, lower)) (omega (arith, lower)) in
    ready

pub returns-in-Err-take_least-clause-merged : goal.returns-in-Err-take_least-clause-merged
returns-in-Err-take_least-clause-merged g c ks at l a leaf p h e f lower = absurd (no_root c.args.sw.now c.args.right c.in-Some.above c.in-Some.is f)
returns-in-Err-take_least-clause-merged g c ks at leaf a (node x b y) p h e f lower = absurd (no_root c.args.sw.now c.args.left c.in-Some-left.below c.in-Some-left.is e)
returns-in-Err-take_least-clause-merged g c ks at (node u d v) a (node x b y) p h e f lower =
    let old = place c.args.sw.now (g.V.Vault.outside c.args.vault.now) in
    let l = node u d v in
    let r = node x b y in
    let above = root_named old.heap c.args.right c.in-Some.above b.name c.in-Some.is f in
    let below = root_named old.heap c.args.left c.in-Some-left.below d.name c.in-Some-left.is e in
    let ready = c.in-Ok.ensures.wing ks r l h.stands.2 h.stands.1 above below (omega (arith, lower)) (omega (arith, lower)) in
    let m = place c.open_left.new.sw (g.V.Vault.outside c.open_left.new.vault) in
    let grows = c.in-Ok.ensures.grows in
    let t = tree_grown ks old m at (Some at) grows l a r h.root_is h in
    let side = tree_right ks old m (Some at) (Some c.in-Some.above) grows l a r h (grows.named c.in-Some.above b.name above) in
    fetch_back old.heap m.heap old.outside m.outside c.in-Err-take_least.fault grows (c.in-Err-take_least.ensures.taken ks x b y (place_touched old m grows p) side ready.1)

pub returns-clause-merged : goal.returns-clause-merged
returns-clause-merged g c ks at l a leaf p h e f lower = absurd (no_root c.args.sw.now c.args.right c.in-Some.above c.in-Some.is f)
returns-clause-merged g c ks at leaf a (node x b y) p h e f lower = absurd (no_root c.args.sw.now c.args.left c.in-Some-left.below c.in-Some-left.is e)
returns-clause-merged g c ks at (node u d v) a (node x b y) p h e f lower =
    let old = place c.args.sw.now (g.V.Vault.outside c.args.vault.now) in
    let l = node u d v in
    let r = node x b y in
    let above = root_named old.heap c.args.right c.in-Some.above b.name c.in-Some.is f in
    let below = root_named old.heap c.args.left c.in-Some-left.below d.name c.in-Some-left.is e in
    let ready = c.in-Ok.ensures.wing ks r l h.stands.2 h.stands.1 above below (omega (arith, lower)) (omega (arith, lower)) in
    let m = place c.open_left.new.sw (g.V.Vault.outside c.open_left.new.vault) in
    let grows = c.in-Ok.ensures.grows in
    let t = tree_grown ks old m at (Some at) grows l a r h.root_is h in
    let side = tree_right ks old m (Some at) (Some c.in-Some.above) grows l a r h (grows.named c.in-Some.above b.name above) in
    let w = c.in-Ok-take_least.ensures.taken ks x b y (place_touched old m grows p) side ready.1 in
    let m1 = place c.take_least.new.sw (g.V.Vault.outside c.take_least.new.vault) in
    let m2 = place c.balance-root.new.sw (g.V.Vault.outside c.take_least.new.vault) in
    let there = grows.named c.in-Some-left.below d.name below in
    let sides = merge_sides_of ks m m1 at c.in-Some-left.below c.in-Ok-take_least.ensures.held u d v a x b y (place_touched old m grows p) t there c.in-Ok-take_least.least w (omega (arith, lower, c.requires.bound)) in
    let known = merge_known ks m m1 at c.in-Some-left.below c.in-Ok-take_least.ensures.held u d v a x b y (place_touched old m grows p) t there c.in-Ok-take_least.least w c.in-Ok.ready.wing ready.0 in
    leaves_touched ks old m m2 grows (c.in-Ok.ensures.fetched ks l h.stands.1 below) (spares_then _ _ _ _ _ _ c.in-Ok-take_least.ensures.spares c.balance-root.ensures.spares) p (node l a r) (merge l r) (Some c.balance-root.result) h.stands
    (merge_done ks m m1 at c.in-Some-left.below c.in-Ok-take_least.ensures.held u d v a x b y (place_touched old m grows p) t there c.in-Ok-take_least.least w m2 c.balance-root.result c.balance-root.ensures.spares c.balance-root.ensures.none c.in-Ok-take_least.ensures.spares.contents (c.balance-root.ensures.balanced ks _ _ _ sides known.0 known.1))

pub returns-in_default-clause-spares : goal.returns-in_default-clause-spares
returns-in_default-clause-spares g c = spares_none c.args.sw.now (g.V.Vault.outside c.args.vault.now)

pub returns-in_default-left-clause-spares : goal.returns-in_default-left-clause-spares
returns-in_default-left-clause-spares g c = spares_none c.args.sw.now (g.V.Vault.outside c.args.vault.now)

pub returns-clause-spares : goal.returns-clause-spares
returns-clause-spares g c = spares_then _ _ _ _ _ _ (spares_touched _ _ _ _ c.in-Ok.ensures.keeps c.in-Ok.ensures.grows) (spares_then _ _ _ _ _ _ c.in-Ok-take_least.ensures.spares c.balance-root.ensures.spares)

pub returns-clause-held : goal.returns-clause-held
returns-clause-held g c = record {
  nodes = λ at h. c.balance-root.ensures.held.nodes at (c.in-Ok-take_least.ensures.held.nodes at (c.in-Ok.ensures.grows.nodes at h));
  named = λ at n h. c.balance-root.ensures.held.named at n (c.in-Ok-take_least.ensures.held.named at n (c.in-Ok.ensures.grows.named at n h));
}

pub returns-in_default-clause-brings : goal.returns-in_default-clause-brings
returns-in_default-clause-brings g c = brings_none c.args.sw.now _

pub returns-in_default-left-clause-brings : goal.returns-in_default-left-clause-brings
returns-in_default-left-clause-brings g c = brings_none c.args.sw.now _

pub returns-in-Err-clause-brings : goal.returns-in-Err-clause-brings
returns-in-Err-clause-brings g c = brings_more _ _ 4 _ (omega (arith, c.requires.some)) c.in-Err.ensures.brings

pub returns-in-Err-take_least-clause-brings : goal.returns-in-Err-take_least-clause-brings
returns-in-Err-take_least-clause-brings g c = brings_then _ _ _ (3 * c.args.bound + 1 - 3 * c.in-Ok.ready.bound) (3 * c.in-Ok.ready.bound) _ (keeps_lasts _ _ c.in-Err-take_least.ensures.still.keeps) (omega (arith, c.in-Ok.ensures.bound)) c.in-Ok.ensures.brings c.take_least.ensures.brings

pub returns-clause-brings : goal.returns-clause-brings
returns-clause-brings g c = brings_written _ _ _ _ (3 * c.args.bound + 1 - 3 * c.in-Ok.ready.bound) (3 * c.in-Ok.ready.bound) _ c.in-Ok-take_least.ensures.spares.lasts c.balance-root.ensures.spares.lasts c.balance-root.ensures.none (omega (arith, c.in-Ok.ensures.bound)) c.in-Ok.ensures.brings c.take_least.ensures.brings

pub returns-in-Err-take_least-clause-still : goal.returns-in-Err-take_least-clause-still
returns-in-Err-take_least-clause-still g c = grows_then _ _ _ _ _ _ c.in-Ok.ensures.grows c.in-Err-take_least.ensures.still

pub balance-root-requires-clause-wing : goal.balance-root-requires-clause-wing
balance-root-requires-clause-wing g c = wing_held_kept c.open_left.new.sw c.take_least.new.sw c.in-Ok-take_least.ensures.held.nodes c.in-Ok.ready.wing c.in-Ok.ensures.held

pub returns-in-Err-take_least-clause-fault : goal.returns-in-Err-take_least-clause-fault
returns-in-Err-take_least-clause-fault g c = node_fault_back (g.V.Vault.outside c.args.vault.now) (g.V.Vault.outside c.open_left.new.vault) _ _ c.in-Err-take_least.fault c.in-Ok.ensures.grows.leaves c.in-Err-take_least.ensures.fault

pub balance-root-requires-clause-left : goal.balance-root-requires-clause-left
balance-root-requires-clause-left g c = c.in-Ok-take_least.ensures.held.nodes _ (c.in-Ok.ensures.grows.nodes _ (the_node c.args.sw.now c.args.left c.in-Some-left.below c.in-Some-left.is c.requires.left))

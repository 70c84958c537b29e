use Rattle.std.proofs.Common.{◌+◌, ◌*◌, ◌-◌, Some, refl, subst, arith}
use Rattle.avl_trees.specs.Trees.{leaf, node}
use Rattle.avl_trees.specs.Standing.{row_of, root_of}
use Rattle.avl_trees.proofs.Standing.{stands_grown}
use Rattle.heap_places.proofs.of_swizzle.ReadingLaws.{leaves-then}
use Rattle.table_nodes.specs.Nodes.{IsLinked, IsNode}
use Rattle.table_nodes.specs.Steps.{place, rows_of}
use Rattle.table_nodes.proofs.FetchLaws.{fetches_read}
use Rattle.table_nodes.proofs.BringLaws.{brings_more, brings_none, brings_then, brings_touched, brings_written, keeps_lasts}
use Rattle.table_nodes.proofs.SeenLaws.{fetch_back}
use Rattle.table_nodes.proofs.StepLaws.{linked_kept, place_touched, side_map, touches_then}
use Rattle.table_nodes.proofs.Putting.{no_root, tree_left}
use Rattle.table_nodes.proofs.Removal.{least_here, least_sides, least_known, least_above}
use Rattle.table_nodes.proofs.Sparing.{spares_then, spares_touched}
use Rattle.table_nodes.proofs.WingLaws.{wing_held_kept}
use Rattle.table_nodes.proofs.FaultLaws.{node_fault_back, height_tested}
use Rattle.table_nodes.proofs.NodeLaws.{grows_none, grows_then}
use Rattle.table_nodes.proofs.remove.+take_least.Goals as goal

pub returns-then-height-eq0-clause-taken : goal.returns-then-height-eq0-clause-taken
returns-then-height-eq0-clause-taken g t c ks x b y p h lower =
    let e = c.height-height.ensures.some ks c.args.at b.name (row_of x b y) refl h.root_is h.stands.0 in
    absurd (grind (arith, e, lower, c.then-height-eq0.either))

pub returns-in-Err-clause-taken : goal.returns-in-Err-clause-taken
returns-in-Err-clause-taken g t c ks x b y p h lower = c.in-Err.ensures.ends ks x b y h.stands h.root_is

pub returns-in_default-clause-taken : goal.returns-in_default-clause-taken
returns-in_default-clause-taken g t c ks (node u d v) b y p h lower =
    let ends = c.in-Ok.ensures.ends ks (node u d v) b y h.stands h.root_is in
    absurd (subst (λ s. IsLinked c.open_sides.new.sw s (Some d.name)) c.in_default.is ends.0)
returns-in_default-clause-taken g t c ks leaf b y p h lower =
    let ends = c.in-Ok.ensures.ends ks leaf b y h.stands h.root_is in
    least_here ks (place c.args.sw.now (g.V.Vault.outside c.args.vault.now)) (place c.open_sides.new.sw (g.V.Vault.outside c.open_sides.new.vault)) c.args.at (Some c.args.at) c.in-Ok.sides.right c.in-Ok.ensures.grows (c.in-Ok.ensures.fetched ks leaf b y h.stands h.root_is) b y p h h.root_is ends.1

pub returns-in-Err-open_right-clause-taken : goal.returns-in-Err-open_right-clause-taken
returns-in-Err-open_right-clause-taken g t c ks leaf b y p h lower =
    let ends = c.in-Ok.ensures.ends ks leaf b y h.stands h.root_is in
    absurd (no_root c.open_sides.new.sw c.in-Ok.sides.left c.in-Some.below c.in-Some.is ends.0)
returns-in-Err-open_right-clause-taken g t c ks (node u d v) b y p h lower =
    let x = node u d v in
    let old = place c.args.sw.now (g.V.Vault.outside c.args.vault.now) in
    let m0 = place c.open_sides.new.sw (g.V.Vault.outside c.open_sides.new.vault) in
    let ends = c.in-Ok.ensures.ends ks x b y h.stands h.root_is in
    let hh = c.height-height.ensures.some ks c.args.at b.name (row_of x b y) refl h.root_is h.stands.0 in
    let s = stands_grown (rows_of ks old) (rows_of ks m0) (c.in-Ok.ensures.grows.rows ks) (node x b y) h.stands in
    fetch_back old.heap m0.heap old.outside m0.outside c.in-Err-open_right.fault c.in-Ok.ensures.grows (c.in-Err-open_right.ensures.wing ks x y s.1 s.2 ends.0 ends.1 (omega (arith, hh)) (omega (arith, hh)))

pub returns-in-Err-take_least-clause-taken : goal.returns-in-Err-take_least-clause-taken
returns-in-Err-take_least-clause-taken g t c ks leaf b y p h lower =
    let ends = c.in-Ok.ensures.ends ks leaf b y h.stands h.root_is in
    absurd (no_root c.open_sides.new.sw c.in-Ok.sides.left c.in-Some.below c.in-Some.is ends.0)
returns-in-Err-take_least-clause-taken g t c ks (node u d v) b y p h lower =
    let x = node u d v in
    let old = place c.args.sw.now (g.V.Vault.outside c.args.vault.now) in
    let m0 = place c.open_sides.new.sw (g.V.Vault.outside c.open_sides.new.vault) in
    let ends = c.in-Ok.ensures.ends ks x b y h.stands h.root_is in
    let hh = c.height-height.ensures.some ks c.args.at b.name (row_of x b y) refl h.root_is h.stands.0 in
    let s = stands_grown (rows_of ks old) (rows_of ks m0) (c.in-Ok.ensures.grows.rows ks) (node x b y) h.stands in
    let m = place c.open_right.new.sw (g.V.Vault.outside c.open_right.new.vault) in
    let grows = touches_then old m0 m c.in-Ok.ensures.grows c.in-Ok-open_right.ensures.grows in
    let ready = c.in-Ok-open_right.ensures.wing ks x y s.1 s.2 ends.0 ends.1 (omega (arith, hh)) (omega (arith, hh)) in
    let left_now = linked_kept m0.heap m.heap c.in-Ok-open_right.ensures.grows.named c.in-Ok.sides.left (root_of x) ends.0 in
    let right_is = linked_kept m0.heap m.heap c.in-Ok-open_right.ensures.grows.named c.in-Ok.sides.right (root_of y) ends.1 in
    let below = tree_left ks old m (Some c.args.at) (Some c.in-Some.below) grows x b y h (subst (λ s. IsLinked m.heap s (Some d.name)) c.in-Some.is left_now) in
    fetch_back old.heap m.heap old.outside m.outside c.in-Err-take_least.fault grows (c.in-Err-take_least.ensures.taken ks u d v (place_touched old m grows p) below ready.1)

pub returns-clause-taken : goal.returns-clause-taken
returns-clause-taken g t c ks leaf b y p h lower =
    let ends = c.in-Ok.ensures.ends ks leaf b y h.stands h.root_is in
    absurd (no_root c.open_sides.new.sw c.in-Ok.sides.left c.in-Some.below c.in-Some.is ends.0)
returns-clause-taken g t c ks (node u d v) b y p h lower =
    let x = node u d v in
    let old = place c.args.sw.now (g.V.Vault.outside c.args.vault.now) in
    let m0 = place c.open_sides.new.sw (g.V.Vault.outside c.open_sides.new.vault) in
    let ends = c.in-Ok.ensures.ends ks x b y h.stands h.root_is in
    let hh = c.height-height.ensures.some ks c.args.at b.name (row_of x b y) refl h.root_is h.stands.0 in
    let s = stands_grown (rows_of ks old) (rows_of ks m0) (c.in-Ok.ensures.grows.rows ks) (node x b y) h.stands in
    let m = place c.open_right.new.sw (g.V.Vault.outside c.open_right.new.vault) in
    let grows = touches_then old m0 m c.in-Ok.ensures.grows c.in-Ok-open_right.ensures.grows in
    let ready = c.in-Ok-open_right.ensures.wing ks x y s.1 s.2 ends.0 ends.1 (omega (arith, hh)) (omega (arith, hh)) in
    let left_now = linked_kept m0.heap m.heap c.in-Ok-open_right.ensures.grows.named c.in-Ok.sides.left (root_of x) ends.0 in
    let right_is = linked_kept m0.heap m.heap c.in-Ok-open_right.ensures.grows.named c.in-Ok.sides.right (root_of y) ends.1 in
    let below = tree_left ks old m (Some c.args.at) (Some c.in-Some.below) grows x b y h (subst (λ s. IsLinked m.heap s (Some d.name)) c.in-Some.is left_now) in
    let w = c.in-Ok-take_least.ensures.taken ks u d v (place_touched old m grows p) below ready.1 in
    let m1 = place c.take_least.new.sw (g.V.Vault.outside c.take_least.new.vault) in
    let m2 = place c.balance-root.new.sw (g.V.Vault.outside c.take_least.new.vault) in
    let sides = least_sides ks old m m1 c.args.at (Some c.args.at) c.in-Ok.sides.right grows c.in-Ok-take_least.ensures.held u d v b y p h h.root_is right_is c.in-Ok-take_least.least w (omega (arith, hh, lower, c.requires.bound)) in
    let known = least_known ks old m m1 c.args.at (Some c.args.at) c.in-Ok.sides.right grows c.in-Ok-take_least.ensures.held u d v b y p h h.root_is right_is c.in-Ok-take_least.least w c.in-Ok-open_right.ready.wing ready.0 in
    least_above ks old m m1 c.args.at (Some c.args.at) c.in-Ok.sides.right grows c.in-Ok-take_least.ensures.held u d v b y p h h.root_is right_is c.in-Ok-take_least.least w
    m2 c.balance-root.result
    (fetches_read ks old.heap m0.heap m.heap old.outside m0.outside m.outside c.in-Ok.ensures.grows c.in-Ok-open_right.ensures.grows (c.in-Ok.ensures.fetched ks x b y h.stands h.root_is) (c.in-Ok-open_right.ensures.fetched ks y s.2 ends.1))
    c.in-Ok-take_least.ensures.spares c.balance-root.ensures.spares c.balance-root.ensures.none c.balance-root.ensures.held (c.balance-root.ensures.balanced ks _ b y sides known.0 known.1)

pub returns-clause-held : goal.returns-clause-held
returns-clause-held g t c = record {
  nodes = λ at h. c.balance-root.ensures.held.nodes at (c.in-Ok-take_least.ensures.held.nodes at (c.in-Ok-open_right.ensures.grows.nodes at (c.in-Ok.ensures.grows.nodes at h)));
  named = λ at n h. c.balance-root.ensures.held.named at n (c.in-Ok-take_least.ensures.held.named at n (c.in-Ok-open_right.ensures.grows.named at n (c.in-Ok.ensures.grows.named at n h)));
}

pub returns-in_default-clause-spares : goal.returns-in_default-clause-spares
returns-in_default-clause-spares g t c = spares_touched _ _ _ _ c.in-Ok.ensures.keeps c.in-Ok.ensures.grows

pub returns-clause-spares : goal.returns-clause-spares
returns-clause-spares g t c = spares_then _ _ _ _ _ _ (spares_then _ _ _ _ _ _ (spares_touched _ _ _ _ c.in-Ok.ensures.keeps c.in-Ok.ensures.grows) (spares_touched _ _ _ _ c.in-Ok-open_right.ensures.keeps c.in-Ok-open_right.ensures.grows)) (spares_then _ _ _ _ _ _ c.in-Ok-take_least.ensures.spares c.balance-root.ensures.spares)

pub returns-clause-node : goal.returns-clause-node
returns-clause-node g t c = c.balance-root.ensures.held.nodes _ c.in-Ok-take_least.ensures.node

pub returns-then-height-eq0-clause-brings : goal.returns-then-height-eq0-clause-brings
returns-then-height-eq0-clause-brings g t c = brings_none c.args.sw.now _

pub returns-then-height-eq0-clause-still : goal.returns-then-height-eq0-clause-still
returns-then-height-eq0-clause-still g t c = grows_none c.args.sw.now (g.V.Vault.outside c.args.vault.now) c.sound.ensures

pub returns-in-Err-clause-brings : goal.returns-in-Err-clause-brings
returns-in-Err-clause-brings g t c = brings_more _ _ 2 _ (omega (arith, c.if-height-bound.false)) c.open_sides.ensures.brings

pub returns-in_default-clause-brings : goal.returns-in_default-clause-brings
returns-in_default-clause-brings g t c = brings_more _ _ 2 _ (omega (arith, c.if-height-bound.false)) c.open_sides.ensures.brings

pub returns-in-Err-open_right-clause-brings : goal.returns-in-Err-open_right-clause-brings
returns-in-Err-open_right-clause-brings g t c = brings_touched _ _ _ 2 4 _ c.in-Err-open_right.ensures.still.keeps (omega (arith, c.if-height-eq0.false, c.if-height-bound.false)) c.open_sides.ensures.brings c.in-Err-open_right.ensures.brings

pub returns-in-Err-take_least-clause-brings : goal.returns-in-Err-take_least-clause-brings
returns-in-Err-take_least-clause-brings g t c =
    brings_then _ _ _ (2 + (3 * c.height-height.result + 1 - 3 * c.in-Ok-open_right.ready.bound)) (3 * c.in-Ok-open_right.ready.bound) _ (keeps_lasts _ _ c.in-Err-take_least.ensures.still.keeps) (omega (arith, c.if-height-bound.false, c.in-Ok-open_right.ensures.bound))
    (brings_touched _ _ _ 2 (3 * c.height-height.result + 1 - 3 * c.in-Ok-open_right.ready.bound) _ c.in-Ok-open_right.ensures.keeps (omega arith) c.open_sides.ensures.brings c.in-Ok-open_right.ensures.brings) c.take_least.ensures.brings

pub returns-clause-brings : goal.returns-clause-brings
returns-clause-brings g t c =
    brings_written _ _ _ _ (2 + (3 * c.height-height.result + 1 - 3 * c.in-Ok-open_right.ready.bound)) (3 * c.in-Ok-open_right.ready.bound) _ c.in-Ok-take_least.ensures.spares.lasts c.balance-root.ensures.spares.lasts c.balance-root.ensures.none (omega (arith, c.if-height-bound.false, c.in-Ok-open_right.ensures.bound))
    (brings_touched _ _ _ 2 (3 * c.height-height.result + 1 - 3 * c.in-Ok-open_right.ready.bound) _ c.in-Ok-open_right.ensures.keeps (omega arith) c.open_sides.ensures.brings c.in-Ok-open_right.ensures.brings) c.take_least.ensures.brings

pub returns-in-Err-open_right-clause-still : goal.returns-in-Err-open_right-clause-still
returns-in-Err-open_right-clause-still g t c = grows_then _ _ _ _ _ _ c.in-Ok.ensures.grows c.in-Err-open_right.ensures.still

pub returns-in-Err-take_least-clause-still : goal.returns-in-Err-take_least-clause-still
returns-in-Err-take_least-clause-still g t c = grows_then _ _ _ _ _ _ (grows_then _ _ _ _ _ _ c.in-Ok.ensures.grows c.in-Ok-open_right.ensures.grows) c.in-Err-take_least.ensures.still

pub balance-root-requires-clause-at : goal.balance-root-requires-clause-at
balance-root-requires-clause-at g t c = c.in-Ok-take_least.ensures.held.nodes _ (c.in-Ok-open_right.ensures.grows.nodes _ (c.in-Ok.ensures.grows.nodes _ c.requires.node))

pub balance-root-requires-clause-right : goal.balance-root-requires-clause-right
balance-root-requires-clause-right g t c = side_map (IsNode c.open_sides.new.sw) (IsNode c.take_least.new.sw) (λ n h. c.in-Ok-take_least.ensures.held.nodes n (c.in-Ok-open_right.ensures.grows.nodes n h)) c.in-Ok.sides.right c.in-Ok.ensures.held.1

pub balance-root-requires-clause-wing : goal.balance-root-requires-clause-wing
balance-root-requires-clause-wing g t c = wing_held_kept c.open_right.new.sw c.take_least.new.sw c.in-Ok-take_least.ensures.held.nodes c.in-Ok-open_right.ready.wing c.in-Ok-open_right.ensures.held

pub returns-then-height-eq0-clause-fault : goal.returns-then-height-eq0-clause-fault
returns-then-height-eq0-clause-fault g t c = height_tested (g.V.Vault.outside c.args.vault.now) _ c.args.sw.now c.args.at _ _ _ c.requires.node (c.height-height.ensures.word c.args.at refl) c.then-height-eq0.either c.damaged.ensures

pub returns-in-Err-open_right-clause-fault : goal.returns-in-Err-open_right-clause-fault
returns-in-Err-open_right-clause-fault g t c = node_fault_back (g.V.Vault.outside c.args.vault.now) (g.V.Vault.outside c.open_sides.new.vault) _ _ c.in-Err-open_right.fault c.in-Ok.ensures.grows.leaves c.in-Err-open_right.ensures.fault

pub returns-in-Err-take_least-clause-fault : goal.returns-in-Err-take_least-clause-fault
returns-in-Err-take_least-clause-fault g t c =
    node_fault_back (g.V.Vault.outside c.args.vault.now) (g.V.Vault.outside c.open_sides.new.vault) _ _ c.in-Err-take_least.fault c.in-Ok.ensures.grows.leaves (node_fault_back (g.V.Vault.outside c.open_sides.new.vault) (g.V.Vault.outside c.open_right.new.vault) _ _ c.in-Err-take_least.fault c.in-Ok-open_right.ensures.grows.leaves c.in-Err-take_least.ensures.fault)

pub returns-clause-leaves : goal.returns-clause-leaves
returns-clause-leaves g t c = leaves-then _ _ _ (leaves-then _ _ _ c.in-Ok.ensures.grows.leaves c.in-Ok-open_right.ensures.grows.leaves) c.in-Ok-take_least.ensures.leaves

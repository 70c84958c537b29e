use Rattle.std.proofs.Common.{refl, ℕ, Option, Some, arith, subst, inr}
use Rattle.avl_trees.specs.Trees.{leaf, node}
use Rattle.avl_trees.proofs.Standing.{stands_grown}
use Rattle.heap_places.proofs.of_swizzle.TouchLaws.{keeps-refl, keeps-trans}
use Rattle.table_nodes.specs.Nodes.{IsLinked}
use Rattle.table_nodes.specs.Steps.{place, rows_of}
use Rattle.table_nodes.proofs.BringLaws.{brings_more, brings_none, brings_touched}
use Rattle.table_nodes.proofs.SeenLaws.{fetch_back}
use Rattle.table_nodes.proofs.Putting.{root_named, no_root}
use Rattle.table_nodes.proofs.StepLaws.{height_is, touches_none, touches_then}
use Rattle.table_nodes.proofs.WingLaws.{ends_kept, held_kept}
use Rattle.table_nodes.proofs.FaultLaws.{node_fault_back, height_failed, the_node}
use Rattle.table_nodes.proofs.NodeLaws.{grows_none, grows_then}
use Rattle.table_nodes.proofs.FetchLaws.{fetches_read, fetches_same}
use Rattle.table_nodes.proofs.wings.open_right.Goals as goal

pub returns-then-above-height-clause-wing : goal.returns-then-above-height-clause-wing
returns-then-above-height-clause-wing g c ks l r s t e f low high =
    let p = place c.args.sw.now (g.V.Vault.outside c.args.vault.now) in
    let hl = height_is ks p c.args.low c.height.result c.height.ensures.none (c.height.ensures.some ks) l s e in
    let hr = height_is ks p c.args.high c.height-above.result c.height-above.ensures.none (c.height-above.ensures.some ks) r t f in
    (λ lower. absurd (omega (arith, hl, hr, lower, c.if-above-height.true)), low)

pub returns-in_default-clause-wing : goal.returns-in_default-clause-wing
returns-in_default-clause-wing g c ks l leaf s t e f low high = (λ lower. tt, low)
returns-in_default-clause-wing g c ks l (node u d v) s t e f low high = absurd (subst (λ (i : Option ℕ). IsLinked c.args.sw.now i (Some d.name)) c.in_default.is f)

pub returns-then-above-bound-clause-wing : goal.returns-then-above-bound-clause-wing
returns-then-above-bound-clause-wing g c ks l r s t e f low high =
    let p = place c.args.sw.now (g.V.Vault.outside c.args.vault.now) in
    let hr = height_is ks p c.args.high c.height-above.result c.height-above.ensures.none (c.height-above.ensures.some ks) r t f in
    absurd (omega (arith, hr, high, c.if-above-bound.true))

pub returns-in-Err-clause-wing : goal.returns-in-Err-clause-wing
returns-in-Err-clause-wing g c ks l leaf s t e f low high = absurd (no_root c.args.sw.now c.args.high c.in-Some.at c.in-Some.is f)
returns-in-Err-clause-wing g c ks l (node x b y) s t e f low high = c.in-Err.ensures.ends ks x b y t (root_named c.args.sw.now c.args.high c.in-Some.at b.name c.in-Some.is f)

pub returns-in-Err-open_inner-clause-wing : goal.returns-in-Err-open_inner-clause-wing
returns-in-Err-open_inner-clause-wing g c ks l leaf s t e f low high = absurd (no_root c.args.sw.now c.args.high c.in-Some.at c.in-Some.is f)
returns-in-Err-open_inner-clause-wing g c ks l (node x b y) s t e f low high =
    let p = place c.args.sw.now (g.V.Vault.outside c.args.vault.now) in
    let m = place c.open_sides.new.sw (g.V.Vault.outside c.open_sides.new.vault) in
    let ends = c.in-Ok.ensures.ends ks x b y t (root_named c.args.sw.now c.args.high c.in-Some.at b.name c.in-Some.is f) in
    let s2 = stands_grown (rows_of ks p) (rows_of ks m) (c.in-Ok.ensures.grows.rows ks) (node x b y) t in
    fetch_back p.heap m.heap p.outside m.outside c.in-Err-open_inner.fault c.in-Ok.ensures.grows (c.in-Err-open_inner.ensures.ends ks y x s2.2 s2.1 ends.1 ends.0)

pub returns-in-Ok-open_inner-clause-wing : goal.returns-in-Ok-open_inner-clause-wing
returns-in-Ok-open_inner-clause-wing g c ks l leaf s t e f low high = absurd (no_root c.args.sw.now c.args.high c.in-Some.at c.in-Some.is f)
returns-in-Ok-open_inner-clause-wing g c ks l (node x b y) s t e f low high =
    let p = place c.args.sw.now (g.V.Vault.outside c.args.vault.now) in
    let m = place c.open_sides.new.sw (g.V.Vault.outside c.open_sides.new.vault) in
    let ends = c.in-Ok.ensures.ends ks x b y t (root_named c.args.sw.now c.args.high c.in-Some.at b.name c.in-Some.is f) in
    let s2 = stands_grown (rows_of ks p) (rows_of ks m) (c.in-Ok.ensures.grows.rows ks) (node x b y) t in
    let hl = height_is ks p c.args.low c.height.result c.height.ensures.none (c.height.ensures.some ks) l s e in
    let hr = height_is ks p c.args.high c.height-above.result c.height-above.ensures.none (c.height-above.ensures.some ks) (node x b y) t f in
    (λ lower. (ends_kept m.heap c.open_inner.new.sw c.in-Ok-open_inner.ensures.grows.named (Some c.in-Ok.sides) (node x b y) ends, c.in-Ok-open_inner.ensures.ends ks y x s2.2 s2.1 ends.1 ends.0), omega (arith, hl, hr, c.if-above-height.false))

pub returns-in-Ok-open_inner-clause-held : goal.returns-in-Ok-open_inner-clause-held
returns-in-Ok-open_inner-clause-held g c = (held_kept c.open_sides.new.sw c.open_inner.new.sw c.in-Ok-open_inner.ensures.grows.nodes c.in-Ok.sides c.in-Ok.ensures.held, c.in-Ok-open_inner.ensures.held, tt)

pub returns-in-Ok-open_inner-clause-grows : goal.returns-in-Ok-open_inner-clause-grows
returns-in-Ok-open_inner-clause-grows g c = touches_then (place c.args.sw.now (g.V.Vault.outside c.args.vault.now)) (place c.open_sides.new.sw (g.V.Vault.outside c.open_sides.new.vault)) (place c.open_inner.new.sw (g.V.Vault.outside c.open_inner.new.vault)) c.in-Ok.ensures.grows c.in-Ok-open_inner.ensures.grows

pub returns-in-Ok-open_inner-clause-keeps : goal.returns-in-Ok-open_inner-clause-keeps
returns-in-Ok-open_inner-clause-keeps g c = keeps-trans _ _ _ c.in-Ok.ensures.keeps c.in-Ok-open_inner.ensures.keeps

pub returns-in-Err-open_inner-clause-still : goal.returns-in-Err-open_inner-clause-still
returns-in-Err-open_inner-clause-still g c = grows_then _ _ _ _ _ _ c.in-Ok.ensures.grows c.in-Err-open_inner.ensures.still

pub returns-then-above-height-clause-grows : goal.returns-then-above-height-clause-grows
returns-then-above-height-clause-grows g c = touches_none (place c.args.sw.now (g.V.Vault.outside c.args.vault.now)) c.sound.ensures

pub returns-in_default-clause-grows : goal.returns-in_default-clause-grows
returns-in_default-clause-grows g c = touches_none (place c.args.sw.now (g.V.Vault.outside c.args.vault.now)) c.sound.ensures

pub returns-then-above-height-clause-keeps : goal.returns-then-above-height-clause-keeps
returns-then-above-height-clause-keeps g c = keeps-refl c.args.sw.now

pub returns-in_default-clause-keeps : goal.returns-in_default-clause-keeps
returns-in_default-clause-keeps g c = keeps-refl c.args.sw.now

pub returns-then-above-bound-clause-still : goal.returns-then-above-bound-clause-still
returns-then-above-bound-clause-still g c = grows_none c.args.sw.now (g.V.Vault.outside c.args.vault.now) c.sound.ensures

pub returns-then-above-height-clause-brings : goal.returns-then-above-height-clause-brings
returns-then-above-height-clause-brings g c = brings_none c.args.sw.now _

pub returns-in_default-clause-brings : goal.returns-in_default-clause-brings
returns-in_default-clause-brings g c = brings_none c.args.sw.now _

pub returns-then-above-bound-clause-brings : goal.returns-then-above-bound-clause-brings
returns-then-above-bound-clause-brings g c = brings_none c.args.sw.now 4

pub returns-in-Err-clause-brings : goal.returns-in-Err-clause-brings
returns-in-Err-clause-brings g c = brings_more _ _ 2 4 (omega arith) c.open_sides.ensures.brings

pub returns-in-Err-open_inner-clause-brings : goal.returns-in-Err-open_inner-clause-brings
returns-in-Err-open_inner-clause-brings g c = brings_touched _ _ _ 2 2 4 c.in-Err-open_inner.ensures.still.keeps (omega arith) c.open_sides.ensures.brings c.open_inner.ensures.brings

pub returns-in-Ok-open_inner-clause-brings : goal.returns-in-Ok-open_inner-clause-brings
returns-in-Ok-open_inner-clause-brings g c = brings_touched _ _ _ 2 2 _ c.in-Ok-open_inner.ensures.keeps (omega (arith, c.if-above-bound.false)) c.open_sides.ensures.brings c.open_inner.ensures.brings

pub returns-then-above-bound-clause-fault : goal.returns-then-above-bound-clause-fault
returns-then-above-bound-clause-fault g c = height_failed (g.V.Vault.outside c.args.vault.now) _ c.args.sw.now c.in-Some.at _ _ _ (the_node c.args.sw.now c.args.high c.in-Some.at c.in-Some.is c.requires.high) (c.height-above.ensures.word c.in-Some.at c.in-Some.is) (inr c.if-above-bound.true) c.damaged.ensures

pub returns-in-Err-open_inner-clause-fault : goal.returns-in-Err-open_inner-clause-fault
returns-in-Err-open_inner-clause-fault g c = node_fault_back (g.V.Vault.outside c.args.vault.now) (g.V.Vault.outside c.open_sides.new.vault) _ _ c.in-Err-open_inner.fault c.in-Ok.ensures.grows.leaves c.in-Err-open_inner.ensures.fault

pub returns-then-above-height-clause-fetched : goal.returns-then-above-height-clause-fetched
returns-then-above-height-clause-fetched g c ks t s f = fetches_same ks c.args.sw.now c.args.sw.now (g.V.Vault.outside c.args.vault.now) refl

pub returns-in_default-clause-fetched : goal.returns-in_default-clause-fetched
returns-in_default-clause-fetched g c ks t s f = fetches_same ks c.args.sw.now c.args.sw.now (g.V.Vault.outside c.args.vault.now) refl

pub returns-in-Ok-open_inner-clause-fetched : goal.returns-in-Ok-open_inner-clause-fetched
returns-in-Ok-open_inner-clause-fetched g c ks leaf s f = absurd (no_root c.args.sw.now c.args.high c.in-Some.at c.in-Some.is f)
returns-in-Ok-open_inner-clause-fetched g c ks (node x b y) s f =
    let p = place c.args.sw.now (g.V.Vault.outside c.args.vault.now) in
    let m = place c.open_sides.new.sw (g.V.Vault.outside c.open_sides.new.vault) in
    let m1 = place c.open_inner.new.sw (g.V.Vault.outside c.open_inner.new.vault) in
    let named = root_named p.heap c.args.high c.in-Some.at b.name c.in-Some.is f in
    let t = stands_grown (rows_of ks p) (rows_of ks m) (c.in-Ok.ensures.grows.rows ks) (node x b y) s in
    let ends = c.in-Ok.ensures.ends ks x b y s named in
    fetches_read ks p.heap m.heap m1.heap p.outside m.outside m1.outside c.in-Ok.ensures.grows c.in-Ok-open_inner.ensures.grows (c.in-Ok.ensures.fetched ks x b y s named) (c.in-Ok-open_inner.ensures.fetched ks x t.1 ends.0)

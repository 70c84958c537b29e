use Rattle.std.proofs.Common.{arith}
use Rattle.avl_trees.specs.Trees.{items, node}
use Rattle.avl_trees.specs.Standing.{row_of}
use Rattle.avl_trees.proofs.Standing.{stands_grown}
use Rattle.heap_places.proofs.of_swizzle.TouchLaws.{keeps-trans}
use Rattle.table_nodes.specs.Sought.{keys_of}
use Rattle.table_nodes.specs.Steps.{place, rows_of}
use Rattle.table_nodes.proofs.BringLaws.{brings_touched}
use Rattle.table_nodes.proofs.FetchLaws.{arrives_then}
use Rattle.table_nodes.proofs.FaultLaws.{node_fault_back}
use Rattle.table_nodes.proofs.SeenLaws.{fetch_back}
use Rattle.table_nodes.proofs.SpanLaws.{span_kept, within_kept}
use Rattle.table_nodes.proofs.StepLaws.{is_side, touches_then}
use Rattle.table_nodes.proofs.NodeLaws.{grows_then}
use Rattle.table_nodes.proofs.follow.go_first.Goals as goal

pub returns-in-Err-clause-begins : goal.returns-in-Err-clause-begins
returns-in-Err-clause-begins g c x b y s named rising within = c.in-Err.ensures.narrowed x b y s named rising within

pub returns-in-Ok-side-clause-begins : goal.returns-in-Ok-side-clause-begins
returns-in-Ok-side-clause-begins g c x b y s named rising within =
    let ks = keys_of c.args.keys in (
      c.in-Ok-side.ensures.side ks b.name (row_of x b y) (c.in-Ok.ensures.grows.named c.args.at b.name named) (c.in-Ok.ensures.grows.rows ks b.name (row_of x b y) s.0),
      within_kept ks c.narrow_left.new.sw c.side.new.sw c.in-Ok.span (items x) c.in-Ok-side.ensures.keeps c.in-Ok.ensures.span (c.in-Ok.ensures.narrowed x b y s named rising within),
    )

pub returns-in-Err-side-clause-begins : goal.returns-in-Err-side-clause-begins
returns-in-Err-side-clause-begins g c x b y s named rising within =
    let ks = keys_of c.args.keys in
    let p = place c.args.sw.now (g.V.Vault.outside c.args.vault.now) in
    let m = place c.narrow_left.new.sw (g.V.Vault.outside c.narrow_left.new.vault) in
    let t = stands_grown (rows_of ks p) (rows_of ks m) (c.in-Ok.ensures.grows.rows ks) (node x b y) s in
    fetch_back p.heap m.heap p.outside m.outside c.in-Err-side.fault c.in-Ok.ensures.grows
    (c.in-Err-side.ensures.sound ks b.name (row_of x b y) (c.in-Ok.ensures.grows.named c.args.at b.name named) t.0 (is_side ks m x t.1))

pub returns-in-Ok-side-clause-span : goal.returns-in-Ok-side-clause-span
returns-in-Ok-side-clause-span g c = span_kept c.narrow_left.new.sw c.side.new.sw c.in-Ok.span c.in-Ok-side.ensures.keeps c.in-Ok.ensures.span

pub returns-in-Ok-side-clause-grows : goal.returns-in-Ok-side-clause-grows
returns-in-Ok-side-clause-grows g c =
    touches_then (place c.args.sw.now (g.V.Vault.outside c.args.vault.now)) (place c.narrow_left.new.sw (g.V.Vault.outside c.narrow_left.new.vault)) (place c.side.new.sw (g.V.Vault.outside c.side.new.vault)) c.in-Ok.ensures.grows c.in-Ok-side.ensures.grows

pub returns-in-Ok-side-clause-keeps : goal.returns-in-Ok-side-clause-keeps
returns-in-Ok-side-clause-keeps g c = keeps-trans _ _ _ c.in-Ok.ensures.keeps c.in-Ok-side.ensures.keeps

pub returns-in-Err-side-clause-still : goal.returns-in-Err-side-clause-still
returns-in-Err-side-clause-still g c = grows_then _ _ _ _ _ _ c.in-Ok.ensures.grows c.in-Err-side.ensures.still

pub returns-in-Ok-side-clause-brings : goal.returns-in-Ok-side-clause-brings
returns-in-Ok-side-clause-brings g c = brings_touched _ _ _ 0 1 1 c.in-Ok-side.ensures.keeps (omega arith) c.in-Ok.ensures.brings c.side.ensures.brings

pub returns-in-Err-side-clause-brings : goal.returns-in-Err-side-clause-brings
returns-in-Err-side-clause-brings g c = brings_touched _ _ _ 0 1 1 c.in-Err-side.ensures.still.keeps (omega arith) c.in-Ok.ensures.brings c.side.ensures.brings

pub returns-in-Err-side-clause-fault : goal.returns-in-Err-side-clause-fault
returns-in-Err-side-clause-fault g c = node_fault_back (g.V.Vault.outside c.args.vault.now) (g.V.Vault.outside c.narrow_left.new.vault) _ _ c.in-Err-side.fault c.in-Ok.ensures.grows.leaves c.in-Err-side.ensures.fault

pub returns-in-Ok-side-clause-fetched : goal.returns-in-Ok-side-clause-fetched
returns-in-Ok-side-clause-fetched g c x b y s named =
    let ks = keys_of c.args.keys in
    let p = place c.args.sw.now (g.V.Vault.outside c.args.vault.now) in
    let m = place c.narrow_left.new.sw (g.V.Vault.outside c.narrow_left.new.vault) in
    let t = stands_grown (rows_of ks p) (rows_of ks m) (c.in-Ok.ensures.grows.rows ks) (node x b y) s in
    arrives_then p.heap m.heap c.side.new.sw p.outside m.outside (g.V.Vault.outside c.side.new.vault) c.in-Ok.ensures.grows c.in-Ok-side.ensures.grows (c.in-Ok.ensures.fetched b.name (row_of x b y) named s.0)
    (c.in-Ok-side.ensures.fetched ks b.name (row_of x b y) (c.in-Ok.ensures.grows.named c.args.at b.name named) t.0 (is_side ks m x t.1))

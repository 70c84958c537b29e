use Rattle.std.proofs.Common.{arith}
use Rattle.avl_trees.specs.Trees.{node}
use Rattle.avl_trees.specs.Standing.{row_of, root_of}
use Rattle.avl_trees.proofs.Standing.{stands_grown}
use Rattle.table_nodes.specs.Nodes.{IsNode}
use Rattle.table_nodes.specs.Steps.{place, rows_of}
use Rattle.table_nodes.proofs.BringLaws.{brings_more, brings_touched}
use Rattle.table_nodes.proofs.SeenLaws.{fetch_back}
use Rattle.table_nodes.proofs.StepLaws.{is_side, linked_kept, side_map, touches_then}
use Rattle.table_nodes.proofs.FaultLaws.{node_fault_back}
use Rattle.table_nodes.proofs.NodeLaws.{grows_then}
use Rattle.table_nodes.proofs.FetchLaws.{arrives_fetches, arrives_then}
use Rattle.table_nodes.proofs.wings.open_sides.Goals as goal

pub returns-in-Err-clause-ends : goal.returns-in-Err-clause-ends
returns-in-Err-clause-ends g c ks x b y s named = c.in-Err.ensures.sound ks b.name (row_of x b y) named s.0 (is_side ks (place c.args.sw.now (g.V.Vault.outside c.args.vault.now)) x s.1)

pub returns-in-Err-side-clause-ends : goal.returns-in-Err-side-clause-ends
returns-in-Err-side-clause-ends g c ks x b y s named =
    let p = place c.args.sw.now (g.V.Vault.outside c.args.vault.now) in
    let m = place c.side.new.sw (g.V.Vault.outside c.side.new.vault) in
    let t = stands_grown (rows_of ks p) (rows_of ks m) (c.in-Ok.ensures.grows.rows ks) (node x b y) s in
    fetch_back p.heap m.heap p.outside m.outside c.in-Err-side.fault c.in-Ok.ensures.grows
    (c.in-Err-side.ensures.sound ks b.name (row_of x b y) (c.in-Ok.ensures.grows.named c.args.at b.name named) t.0 (is_side ks m y t.2))

pub returns-clause-ends : goal.returns-clause-ends
returns-clause-ends g c ks x b y s named = (
  linked_kept c.side.new.sw c.side-2.new.sw c.in-Ok-side.ensures.grows.named c.in-Ok.left (root_of x) (c.in-Ok.ensures.side ks b.name (row_of x b y) named s.0),
  c.in-Ok-side.ensures.side ks b.name (row_of x b y) (c.in-Ok.ensures.grows.named c.args.at b.name named) (c.in-Ok.ensures.grows.rows ks b.name (row_of x b y) s.0),
)

pub returns-clause-grows : goal.returns-clause-grows
returns-clause-grows g c = touches_then (place c.args.sw.now (g.V.Vault.outside c.args.vault.now)) (place c.side.new.sw (g.V.Vault.outside c.side.new.vault)) (place c.side-2.new.sw (g.V.Vault.outside c.side-2.new.vault)) c.in-Ok.ensures.grows c.in-Ok-side.ensures.grows

pub returns-clause-held : goal.returns-clause-held
returns-clause-held g c = (side_map (IsNode c.side.new.sw) (IsNode c.side-2.new.sw) c.in-Ok-side.ensures.grows.nodes c.in-Ok.left c.in-Ok.ensures.held, c.in-Ok-side.ensures.held)

pub returns-in-Err-clause-brings : goal.returns-in-Err-clause-brings
returns-in-Err-clause-brings g c = brings_more _ _ 1 2 (omega arith) c.side.ensures.brings

pub returns-in-Err-side-clause-brings : goal.returns-in-Err-side-clause-brings
returns-in-Err-side-clause-brings g c = brings_touched _ _ _ 1 1 2 c.in-Err-side.ensures.still.keeps (omega arith) c.side.ensures.brings c.side-2.ensures.brings

pub returns-clause-brings : goal.returns-clause-brings
returns-clause-brings g c = brings_touched _ _ _ 1 1 2 c.in-Ok-side.ensures.keeps (omega arith) c.side.ensures.brings c.side-2.ensures.brings

pub returns-in-Err-side-clause-still : goal.returns-in-Err-side-clause-still
returns-in-Err-side-clause-still g c = grows_then _ _ _ _ _ _ c.in-Ok.ensures.grows c.in-Err-side.ensures.still

pub returns-in-Err-side-clause-fault : goal.returns-in-Err-side-clause-fault
returns-in-Err-side-clause-fault g c = node_fault_back (g.V.Vault.outside c.args.vault.now) (g.V.Vault.outside c.side.new.vault) _ _ c.in-Err-side.fault c.in-Ok.ensures.grows.leaves c.in-Err-side.ensures.fault

pub returns-clause-fetched : goal.returns-clause-fetched
returns-clause-fetched g c ks x b y s named =
    let p = place c.args.sw.now (g.V.Vault.outside c.args.vault.now) in
    let m = place c.side.new.sw (g.V.Vault.outside c.side.new.vault) in
    let m1 = place c.side-2.new.sw (g.V.Vault.outside c.side-2.new.vault) in
    let t = stands_grown (rows_of ks p) (rows_of ks m) (c.in-Ok.ensures.grows.rows ks) (node x b y) s in
    let left = c.in-Ok.ensures.fetched ks b.name (row_of x b y) named s.0 (is_side ks p x s.1) in
    let right = c.in-Ok-side.ensures.fetched ks b.name (row_of x b y) (c.in-Ok.ensures.grows.named c.args.at b.name named) t.0 (is_side ks m y t.2) in
    arrives_fetches ks p.heap m1.heap p.outside c.in-Ok-side.ensures.grows.heap (arrives_then p.heap m.heap m1.heap p.outside m.outside m1.outside c.in-Ok.ensures.grows c.in-Ok-side.ensures.grows left right)

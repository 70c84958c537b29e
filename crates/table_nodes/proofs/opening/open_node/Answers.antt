use Rattle.std.proofs.Common.{arith, sym, ◌∙◌}
use Rattle.avl_trees.specs.Trees.{items, node}
use Rattle.avl_trees.specs.Standing.{row_of, root_of}
use Rattle.avl_trees.proofs.Standing.{stands_grown}
use Rattle.table_nodes.specs.Sought.{kind_of}
use Rattle.table_nodes.specs.Steps.{place, rows_of}
use Rattle.table_nodes.proofs.SeenLaws.{fetch_back}
use Rattle.table_nodes.proofs.StepLaws.{is_side, linked_kept, touches_then}
use Rattle.heap_places.proofs.of_swizzle.TouchLaws.{keeps-trans}
use Rattle.table_nodes.proofs.BringLaws.{brings_more, brings_touched}
use Rattle.table_nodes.proofs.FaultLaws.{node_fault_back}
use Rattle.table_nodes.proofs.SpanLaws.{span_kept, within_kept}
use Rattle.table_nodes.proofs.NodeLaws.{grows_then}
use Rattle.table_nodes.proofs.FetchLaws.{arrives_fetches, arrives_then}
use Rattle.table_nodes.proofs.opening.open_node.Goals as goal

pub returns-in-Err-clause-opens : goal.returns-in-Err-clause-opens
returns-in-Err-clause-opens g c x b y s named rising within = c.in-Err.ensures.placed x b y s named rising within

pub returns-in-Err-side-clause-opens : goal.returns-in-Err-side-clause-opens
returns-in-Err-side-clause-opens g c x b y s named rising within =
    let ks = kind_of c.args.key in
    let p = place c.args.sw.now (g.V.Vault.outside c.args.vault.now) in
    let m = place c.place_key.new.sw (g.V.Vault.outside c.place_key.new.vault) in
    let t = stands_grown (rows_of ks p) (rows_of ks m) (c.in-Ok.ensures.grows.rows ks) (node x b y) s in
    fetch_back p.heap m.heap p.outside m.outside c.in-Err-side.fault c.in-Ok.ensures.grows
    (c.in-Err-side.ensures.sound ks b.name (row_of x b y) (c.in-Ok.ensures.grows.named c.args.at b.name named) t.0 (is_side ks m x t.1))

pub returns-in-Err-side-2-clause-opens : goal.returns-in-Err-side-2-clause-opens
returns-in-Err-side-2-clause-opens g c x b y s named rising within =
    let ks = kind_of c.args.key in
    let p = place c.args.sw.now (g.V.Vault.outside c.args.vault.now) in
    let m = place c.place_key.new.sw (g.V.Vault.outside c.place_key.new.vault) in
    let m1 = place c.side.new.sw (g.V.Vault.outside c.side.new.vault) in
    let t = stands_grown (rows_of ks m) (rows_of ks m1) (c.in-Ok-side.ensures.grows.rows ks) (node x b y) (stands_grown (rows_of ks p) (rows_of ks m) (c.in-Ok.ensures.grows.rows ks) (node x b y) s) in
    fetch_back p.heap m.heap p.outside m.outside c.in-Err-side-2.fault c.in-Ok.ensures.grows
    (fetch_back m.heap m1.heap m.outside m1.outside c.in-Err-side-2.fault c.in-Ok-side.ensures.grows
    (c.in-Err-side-2.ensures.sound ks b.name (row_of x b y) (c.in-Ok-side.ensures.grows.named c.args.at b.name (c.in-Ok.ensures.grows.named c.args.at b.name named)) t.0 (is_side ks m1 y t.2)))

pub returns-clause-opens : goal.returns-clause-opens
returns-clause-opens g c x b y s named rising within =
    let ks = kind_of c.args.key in
    let p = place c.args.sw.now (g.V.Vault.outside c.args.vault.now) in
    let m = place c.place_key.new.sw (g.V.Vault.outside c.place_key.new.vault) in
    let m1 = place c.side.new.sw (g.V.Vault.outside c.side.new.vault) in
    let row = c.in-Ok.ensures.grows.rows ks b.name (row_of x b y) s.0 in
    let name = c.in-Ok.ensures.grows.named c.args.at b.name named in
    let placed = c.in-Ok.ensures.placed x b y s named rising within in
    let keeps = keeps-trans m.heap m1.heap c.side-2.new.sw c.in-Ok-side.ensures.keeps c.in-Ok-side-2.ensures.keeps in
    record {
      order = placed.order;
      left_keys = λ e. within_kept ks m.heap c.side-2.new.sw c.in-Ok.placed.span (items x) keeps c.in-Ok.ensures.span (placed.left e);
      right_keys = λ e. within_kept ks m.heap c.side-2.new.sw c.in-Ok.placed.span (items y) keeps c.in-Ok.ensures.span (placed.right (λ f. (let g = sym e ∙ f in absurd (cc))));
      left = linked_kept m1.heap c.side-2.new.sw c.in-Ok-side-2.ensures.grows.named c.in-Ok-side.left (root_of x) (c.in-Ok-side.ensures.side ks b.name (row_of x b y) name row);
      right = c.in-Ok-side-2.ensures.side ks b.name (row_of x b y) (c.in-Ok-side.ensures.grows.named c.args.at b.name name) (c.in-Ok-side.ensures.grows.rows ks b.name (row_of x b y) row);
    }

pub returns-clause-grows : goal.returns-clause-grows
returns-clause-grows g c =
    touches_then (place c.args.sw.now (g.V.Vault.outside c.args.vault.now)) (place c.side.new.sw (g.V.Vault.outside c.side.new.vault)) (place c.side-2.new.sw (g.V.Vault.outside c.side-2.new.vault)) (touches_then (place c.args.sw.now (g.V.Vault.outside c.args.vault.now)) (place c.place_key.new.sw (g.V.Vault.outside c.place_key.new.vault)) (place c.side.new.sw (g.V.Vault.outside c.side.new.vault)) c.in-Ok.ensures.grows c.in-Ok-side.ensures.grows) c.in-Ok-side-2.ensures.grows

pub returns-in-Err-clause-brings : goal.returns-in-Err-clause-brings
returns-in-Err-clause-brings g c = brings_more _ _ 1 2 (omega arith) c.in-Err.ensures.brings

pub returns-in-Err-side-clause-brings : goal.returns-in-Err-side-clause-brings
returns-in-Err-side-clause-brings g c = brings_touched _ _ _ 0 1 2 c.in-Err-side.ensures.still.keeps (omega arith) c.in-Ok.ensures.brings c.side.ensures.brings

pub returns-in-Err-side-2-clause-brings : goal.returns-in-Err-side-2-clause-brings
returns-in-Err-side-2-clause-brings g c = brings_touched _ _ _ 1 1 2 c.in-Err-side-2.ensures.still.keeps (omega arith) (brings_touched _ _ _ 0 1 1 c.in-Ok-side.ensures.keeps (omega arith) c.in-Ok.ensures.brings c.side.ensures.brings) c.side-2.ensures.brings

pub returns-clause-brings : goal.returns-clause-brings
returns-clause-brings g c = brings_touched _ _ _ 1 1 2 c.in-Ok-side-2.ensures.keeps (omega arith) (brings_touched _ _ _ 0 1 1 c.in-Ok-side.ensures.keeps (omega arith) c.in-Ok.ensures.brings c.side.ensures.brings) c.side-2.ensures.brings

pub returns-in-Err-side-clause-still : goal.returns-in-Err-side-clause-still
returns-in-Err-side-clause-still g c = grows_then _ _ _ _ _ _ c.in-Ok.ensures.grows c.in-Err-side.ensures.still

pub returns-in-Err-side-2-clause-still : goal.returns-in-Err-side-2-clause-still
returns-in-Err-side-2-clause-still g c = grows_then _ _ _ _ _ _ (grows_then _ _ _ _ _ _ c.in-Ok.ensures.grows c.in-Ok-side.ensures.grows) c.in-Err-side-2.ensures.still

pub returns-in-Err-side-clause-fault : goal.returns-in-Err-side-clause-fault
returns-in-Err-side-clause-fault g c = node_fault_back (g.V.Vault.outside c.args.vault.now) (g.V.Vault.outside c.place_key.new.vault) _ _ c.in-Err-side.fault c.in-Ok.ensures.grows.leaves c.in-Err-side.ensures.fault

pub returns-in-Err-side-2-clause-fault : goal.returns-in-Err-side-2-clause-fault
returns-in-Err-side-2-clause-fault g c =
    node_fault_back (g.V.Vault.outside c.args.vault.now) (g.V.Vault.outside c.place_key.new.vault) _ _ c.in-Err-side-2.fault c.in-Ok.ensures.grows.leaves (node_fault_back (g.V.Vault.outside c.place_key.new.vault) (g.V.Vault.outside c.side.new.vault) _ _ c.in-Err-side-2.fault c.in-Ok-side.ensures.grows.leaves c.in-Err-side-2.ensures.fault)

pub returns-clause-span : goal.returns-clause-span
returns-clause-span g c = span_kept c.place_key.new.sw c.side-2.new.sw c.in-Ok.placed.span (keeps-trans _ _ _ c.in-Ok-side.ensures.keeps c.in-Ok-side-2.ensures.keeps) c.in-Ok.ensures.span

pub returns-clause-fetched : goal.returns-clause-fetched
returns-clause-fetched g c x b y s named =
    let ks = kind_of c.args.key in
    let p = place c.args.sw.now (g.V.Vault.outside c.args.vault.now) in
    let m = place c.place_key.new.sw (g.V.Vault.outside c.place_key.new.vault) in
    let m1 = place c.side.new.sw (g.V.Vault.outside c.side.new.vault) in
    let m2 = place c.side-2.new.sw (g.V.Vault.outside c.side-2.new.vault) in
    let t = stands_grown (rows_of ks p) (rows_of ks m) (c.in-Ok.ensures.grows.rows ks) (node x b y) s in
    let t1 = stands_grown (rows_of ks m) (rows_of ks m1) (c.in-Ok-side.ensures.grows.rows ks) (node x b y) t in
    let name = c.in-Ok.ensures.grows.named c.args.at b.name named in
    let first = c.in-Ok.ensures.fetched b.name (row_of x b y) named s.0 in
    let left = c.in-Ok-side.ensures.fetched ks b.name (row_of x b y) name t.0 (is_side ks m x t.1) in
    let right = c.in-Ok-side-2.ensures.fetched ks b.name (row_of x b y) (c.in-Ok-side.ensures.grows.named c.args.at b.name name) t1.0 (is_side ks m1 y t1.2) in
    arrives_fetches ks p.heap m2.heap p.outside c.in-Ok-side-2.ensures.grows.heap
    (arrives_then p.heap m.heap m2.heap p.outside m.outside m2.outside c.in-Ok.ensures.grows (touches_then m m1 m2 c.in-Ok-side.ensures.grows c.in-Ok-side-2.ensures.grows) first
    (arrives_then m.heap m1.heap m2.heap m.outside m1.outside m2.outside c.in-Ok-side.ensures.grows c.in-Ok-side-2.ensures.grows left right))

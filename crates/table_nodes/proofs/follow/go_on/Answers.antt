use Rattle.std.proofs.Common.{◌≡◌, ◌≢◌, refl, sym, ◌∙◌, arith, inl, inr}
use Rattle.std.proofs.lemmas.Grind.{common_steps}
use Rattle.std.specs.declared.cmp.Ordering.TheVariants.{Less}
use Rattle.avl_trees.specs.Trees.{items, node}
use Rattle.avl_trees.specs.Standing.{row_of}
use Rattle.avl_trees.proofs.Standing.{stands_grown}
use Rattle.table_nodes.specs.Sought.{kind_of}
use Rattle.table_nodes.specs.Steps.{place, rows_of}
use Rattle.table_nodes.proofs.SeenLaws.{fetch_back}
use Rattle.table_nodes.proofs.StepLaws.{is_side, touches_then}
use Rattle.table_nodes.proofs.BringLaws.{brings_touched}
use Rattle.table_nodes.proofs.FetchLaws.{arrives_then}
use Rattle.table_nodes.proofs.FaultLaws.{node_fault_back}
use Rattle.table_nodes.proofs.SpanLaws.{span_kept, within_kept}
use Rattle.table_nodes.proofs.NodeLaws.{grows_then}
use Rattle.table_nodes.proofs.follow.go_on.Goals as goal

pub returns-in-Err-clause-turns : goal.returns-in-Err-clause-turns
returns-in-Err-clause-turns g c x b y s named rising within = c.in-Err.ensures.placed x b y s named rising within

pub returns-in-Ok-side-clause-turns : goal.returns-in-Ok-side-clause-turns
returns-in-Ok-side-clause-turns g c x b y s named rising within =
    let less : c.in-Ok.placed.order ≡ Less = grind (arith, common_steps) in
    inl (
      sym (c.in-Ok.ensures.placed x b y s named rising within).order ∙ less,
      refl,
      c.in-Ok-side.ensures.side (kind_of c.args.key) b.name (row_of x b y) (c.in-Ok.ensures.grows.named c.args.at b.name named) (c.in-Ok.ensures.grows.rows (kind_of c.args.key) b.name (row_of x b y) s.0),
      within_kept (kind_of c.args.key) c.place_key.new.sw c.side.new.sw c.in-Ok.placed.span (items x) c.in-Ok-side.ensures.keeps c.in-Ok.ensures.span ((c.in-Ok.ensures.placed x b y s named rising within).left less),
    )

pub returns-in-Err-side-clause-turns : goal.returns-in-Err-side-clause-turns
returns-in-Err-side-clause-turns g c x b y s named rising within =
    let ks = kind_of c.args.key in
    let p = place c.args.sw.now (g.V.Vault.outside c.args.vault.now) in
    let m = place c.place_key.new.sw (g.V.Vault.outside c.place_key.new.vault) in
    let t = stands_grown (rows_of ks p) (rows_of ks m) (c.in-Ok.ensures.grows.rows ks) (node x b y) s in
    fetch_back p.heap m.heap p.outside m.outside c.in-Err-side.fault c.in-Ok.ensures.grows
    (c.in-Err-side.ensures.sound ks b.name (row_of x b y) (c.in-Ok.ensures.grows.named c.args.at b.name named) t.0 (is_side ks m x t.1))

pub returns-in-Ok-side-2-clause-turns : goal.returns-in-Ok-side-2-clause-turns
returns-in-Ok-side-2-clause-turns g c x b y s named rising within =
    let not : c.in-Ok.placed.order ≢ Less = λ e. absurd (grind (arith, common_steps, e)) in
    inr (
      (λ e. not ((c.in-Ok.ensures.placed x b y s named rising within).order ∙ e)),
      refl,
      c.in-Ok-side-2.ensures.side (kind_of c.args.key) b.name (row_of x b y) (c.in-Ok.ensures.grows.named c.args.at b.name named) (c.in-Ok.ensures.grows.rows (kind_of c.args.key) b.name (row_of x b y) s.0),
      within_kept (kind_of c.args.key) c.place_key.new.sw c.side-2.new.sw c.in-Ok.placed.span (items y) c.in-Ok-side-2.ensures.keeps c.in-Ok.ensures.span ((c.in-Ok.ensures.placed x b y s named rising within).right not),
    )

pub returns-in-Err-side-2-clause-turns : goal.returns-in-Err-side-2-clause-turns
returns-in-Err-side-2-clause-turns g c x b y s named rising within =
    let ks = kind_of c.args.key in
    let p = place c.args.sw.now (g.V.Vault.outside c.args.vault.now) in
    let m = place c.place_key.new.sw (g.V.Vault.outside c.place_key.new.vault) in
    let t = stands_grown (rows_of ks p) (rows_of ks m) (c.in-Ok.ensures.grows.rows ks) (node x b y) s in
    fetch_back p.heap m.heap p.outside m.outside c.in-Err-side-2.fault c.in-Ok.ensures.grows
    (c.in-Err-side-2.ensures.sound ks b.name (row_of x b y) (c.in-Ok.ensures.grows.named c.args.at b.name named) t.0 (is_side ks m y t.2))

pub returns-in-Ok-side-clause-grows : goal.returns-in-Ok-side-clause-grows
returns-in-Ok-side-clause-grows g c = touches_then (place c.args.sw.now (g.V.Vault.outside c.args.vault.now)) (place c.place_key.new.sw (g.V.Vault.outside c.place_key.new.vault)) (place c.side.new.sw (g.V.Vault.outside c.side.new.vault)) c.in-Ok.ensures.grows c.in-Ok-side.ensures.grows

pub returns-in-Ok-side-2-clause-grows : goal.returns-in-Ok-side-2-clause-grows
returns-in-Ok-side-2-clause-grows g c = touches_then (place c.args.sw.now (g.V.Vault.outside c.args.vault.now)) (place c.place_key.new.sw (g.V.Vault.outside c.place_key.new.vault)) (place c.side-2.new.sw (g.V.Vault.outside c.side-2.new.vault)) c.in-Ok.ensures.grows c.in-Ok-side-2.ensures.grows

pub returns-in-Ok-side-clause-brings : goal.returns-in-Ok-side-clause-brings
returns-in-Ok-side-clause-brings g c = brings_touched _ _ _ 0 1 1 c.in-Ok-side.ensures.keeps (omega arith) c.in-Ok.ensures.brings c.side.ensures.brings

pub returns-in-Err-side-clause-brings : goal.returns-in-Err-side-clause-brings
returns-in-Err-side-clause-brings g c = brings_touched _ _ _ 0 1 1 c.in-Err-side.ensures.still.keeps (omega arith) c.in-Ok.ensures.brings c.side.ensures.brings

pub returns-in-Err-side-clause-still : goal.returns-in-Err-side-clause-still
returns-in-Err-side-clause-still g c = grows_then _ _ _ _ _ _ c.in-Ok.ensures.grows c.in-Err-side.ensures.still

pub returns-in-Ok-side-2-clause-brings : goal.returns-in-Ok-side-2-clause-brings
returns-in-Ok-side-2-clause-brings g c = brings_touched _ _ _ 0 1 1 c.in-Ok-side-2.ensures.keeps (omega arith) c.in-Ok.ensures.brings c.side-2.ensures.brings

pub returns-in-Err-side-2-clause-brings : goal.returns-in-Err-side-2-clause-brings
returns-in-Err-side-2-clause-brings g c = brings_touched _ _ _ 0 1 1 c.in-Err-side-2.ensures.still.keeps (omega arith) c.in-Ok.ensures.brings c.side-2.ensures.brings

pub returns-in-Err-side-2-clause-still : goal.returns-in-Err-side-2-clause-still
returns-in-Err-side-2-clause-still g c = grows_then _ _ _ _ _ _ c.in-Ok.ensures.grows c.in-Err-side-2.ensures.still

pub returns-in-Err-side-clause-fault : goal.returns-in-Err-side-clause-fault
returns-in-Err-side-clause-fault g c = node_fault_back (g.V.Vault.outside c.args.vault.now) (g.V.Vault.outside c.place_key.new.vault) _ _ c.in-Err-side.fault c.in-Ok.ensures.grows.leaves c.in-Err-side.ensures.fault

pub returns-in-Err-side-2-clause-fault : goal.returns-in-Err-side-2-clause-fault
returns-in-Err-side-2-clause-fault g c = node_fault_back (g.V.Vault.outside c.args.vault.now) (g.V.Vault.outside c.place_key.new.vault) _ _ c.in-Err-side-2.fault c.in-Ok.ensures.grows.leaves c.in-Err-side-2.ensures.fault

pub returns-in-Ok-side-clause-span : goal.returns-in-Ok-side-clause-span
returns-in-Ok-side-clause-span g c = span_kept c.place_key.new.sw c.side.new.sw c.in-Ok.placed.span c.in-Ok-side.ensures.keeps c.in-Ok.ensures.span

pub returns-in-Ok-side-2-clause-span : goal.returns-in-Ok-side-2-clause-span
returns-in-Ok-side-2-clause-span g c = span_kept c.place_key.new.sw c.side-2.new.sw c.in-Ok.placed.span c.in-Ok-side-2.ensures.keeps c.in-Ok.ensures.span

pub returns-in-Ok-side-clause-fetched : goal.returns-in-Ok-side-clause-fetched
returns-in-Ok-side-clause-fetched g c x b y s named =
    let ks = kind_of c.args.key in
    let p = place c.args.sw.now (g.V.Vault.outside c.args.vault.now) in
    let m = place c.place_key.new.sw (g.V.Vault.outside c.place_key.new.vault) in
    let t = stands_grown (rows_of ks p) (rows_of ks m) (c.in-Ok.ensures.grows.rows ks) (node x b y) s in
    arrives_then p.heap m.heap c.side.new.sw p.outside m.outside (g.V.Vault.outside c.side.new.vault) c.in-Ok.ensures.grows c.in-Ok-side.ensures.grows (c.in-Ok.ensures.fetched b.name (row_of x b y) named s.0)
    (c.in-Ok-side.ensures.fetched ks b.name (row_of x b y) (c.in-Ok.ensures.grows.named c.args.at b.name named) t.0 (is_side ks m x t.1))

pub returns-in-Ok-side-2-clause-fetched : goal.returns-in-Ok-side-2-clause-fetched
returns-in-Ok-side-2-clause-fetched g c x b y s named =
    let ks = kind_of c.args.key in
    let p = place c.args.sw.now (g.V.Vault.outside c.args.vault.now) in
    let m = place c.place_key.new.sw (g.V.Vault.outside c.place_key.new.vault) in
    let t = stands_grown (rows_of ks p) (rows_of ks m) (c.in-Ok.ensures.grows.rows ks) (node x b y) s in
    arrives_then p.heap m.heap c.side-2.new.sw p.outside m.outside (g.V.Vault.outside c.side-2.new.vault) c.in-Ok.ensures.grows c.in-Ok-side-2.ensures.grows (c.in-Ok.ensures.fetched b.name (row_of x b y) named s.0)
    (c.in-Ok-side-2.ensures.fetched ks b.name (row_of x b y) (c.in-Ok.ensures.grows.named c.args.at b.name named) t.0 (is_side ks m y t.2))

use Rattle.std.proofs.Common.{arith, ◌+◌, ◌*◌, ◌≢◌, None, Ok, refl, ap, subst, inr}
use Rattle.table_nodes.specs.avl_trees.Trees.{items, lookup}
use Rattle.table_nodes.specs.avl_trees.Standing.{seek}
use Rattle.table_nodes.specs.node_rows.Keys.{order_by}
use Rattle.table_nodes.specs.Sought.{kind_of, key_in}
use Rattle.table_nodes.specs.Steps.{place}
use Rattle.table_nodes.specs.Entering.{is_missing}
use Rattle.table_nodes.proofs.FetchLaws.{arrives_fetches}
use Rattle.table_nodes.proofs.SeenLaws.{fetch_back}
use Rattle.table_nodes.proofs.Removal.{removed_as}
use Rattle.table_nodes.proofs.SoughtLaws.{key_in_kept}
use Rattle.table_nodes.proofs.Sparing.{spares_then, spares_touched}
use Rattle.table_nodes.proofs.StepLaws.{place_touched}
use Rattle.table_lib.specs.Entries.{WritesTable}
use Rattle.table_lib.proofs.RootLaws.{pairs_low, tree_from}
use Rattle.table_lib.proofs.WriteLaws.{but_then}
use Rattle.table_lib.proofs.EnterLaws.{key_taken}
use Rattle.table_nodes.specs.avl_trees.Trees.{bits as digits}
use Rattle.table_nodes.proofs.of_heap_places.of_swizzle.ReadingLaws.{leaves-then}
use Rattle.table_nodes.proofs.BringLaws.{brings_more, brings_touched, brings_written}
use Rattle.table_nodes.proofs.FaultLaws.{node_fault_back}
use Rattle.table_nodes.proofs.SpanLaws.{within_all}
use Rattle.table_nodes.proofs.NodeLaws.{grows_then}
use Rattle.table_lib.proofs.enter.take_key.Goals as goal

pub returns-in-Err-remove-clause-taken : goal.returns-in-Err-remove-clause-taken
returns-in-Err-remove-clause-taken g c t p h =
    let ks = kind_of c.args.key in
    let old = (place c.args.sw.now (g.V.Vault.outside c.args.vault.now)) in
    let m = (place c.counted_root.new.sw (g.V.Vault.outside c.counted_root.new.vault)) in
    let tree = tree_from ks old m c.args.at t c.in-Ok.root c.in-Ok.ensures.grows h (c.in-Ok.ensures.root ks t h) in
    let lower = pairs_low ks old c.args.at t c.num-count.result (2 * c.bits.result + 1) h c.num-count.ensures c.num-count.type_inv (ap (λ b. 2 * b + 1) c.bits.ensures.value) in
    let here = place_touched old m c.in-Ok.ensures.grows p in
    fetch_back old.heap m.heap old.outside m.outside c.in-Err-remove.fault c.in-Ok.ensures.grows (c.in-Err-remove.ensures.removed t here tree (within_all ks m.heap (items t)) lower)

pub returns-clause-taken : goal.returns-clause-taken
returns-clause-taken g c t p h =
    let ks = kind_of c.args.key in
    let old = (place c.args.sw.now (g.V.Vault.outside c.args.vault.now)) in
    let m = (place c.counted_root.new.sw (g.V.Vault.outside c.counted_root.new.vault)) in
    let m1 = (place c.remove.new.sw (g.V.Vault.outside c.remove.new.vault)) in
    let m2 = place c.write_table.new.sw (g.V.Vault.outside c.remove.new.vault) in
    let key = key_in old.heap c.args.key in
    let tree = tree_from ks old m c.args.at t c.in-Ok.root c.in-Ok.ensures.grows h (c.in-Ok.ensures.root ks t h) in
    let lower = pairs_low ks old c.args.at t c.num-count.result (2 * c.bits.result + 1) h c.num-count.ensures c.num-count.type_inv (ap (λ b. 2 * b + 1) c.bits.ensures.value) in
    let here = place_touched old m c.in-Ok.ensures.grows p in
    let same_key = key_in_kept old.heap m.heap c.args.key c.in-Ok.ensures.keeps c.requires.key in
    let w = removed_as ks m m1 c.in-Ok.root (2 * c.bits.result + 1) (key_in m.heap c.args.key) key (record { low = None; high = None }) (Ok c.in-Ok-remove.removed) same_key c.in-Ok-remove.ensures.removed t here tree (within_all ks m.heap (items t)) lower in
    let is_gone : c.in-Ok-remove.removed.gone ≢ is_missing (lookup (seek (order_by ks) key) t) =
    subst (λ k. c.in-Ok-remove.removed.gone ≢ is_missing (lookup (seek (order_by ks) k) t)) same_key (c.in-Ok-remove.ensures.counted t tree (within_all ks m.heap (items t)) lower) in
    let wrote = subst (λ k. WritesTable k m1.heap m2.heap m1.outside c.args.at c.in-Ok-remove.removed.root c.count_without-count.result) c.kind_of_key.ensures c.write_table.ensures.written in
    key_taken ks old m m1 m2 c.args.at c.in-Ok-remove.removed.root c.count_without-count.result c.requires.table c.in-Ok.ensures.keeps c.in-Ok.ensures.grows c.in-Ok-remove.ensures.spares wrote refl p (arrives_fetches ks old.heap m.heap old.outside c.in-Ok.ensures.grows.heap (c.in-Ok.ensures.fetched ks t h)) c.write_table.ensures.spares c.write_table.ensures.none
    key t h c.num-count.result c.in-Ok-remove.removed.gone w is_gone c.num-count.ensures c.count_without-count.ensures.fewer c.count_without-count.ensures.same

pub returns-clause-spares : goal.returns-clause-spares
returns-clause-spares g c =
    but_then c.args.at _ _ _ _ _ _ c.requires.table.held (spares_then _ _ _ _ _ _ (spares_touched _ _ _ _ c.in-Ok.ensures.keeps c.in-Ok.ensures.grows) c.in-Ok-remove.ensures.spares) c.write_table.ensures.spares

pub returns-in-Err-clause-brings : goal.returns-in-Err-clause-brings
returns-in-Err-clause-brings g c = brings_more _ _ 1 _ (omega arith) c.counted_root.ensures.brings

pub returns-in-Err-remove-clause-brings : goal.returns-in-Err-remove-clause-brings
returns-in-Err-remove-clause-brings g c = brings_touched _ _ _ 1 (3 * (2 * c.bits.result + 1)) _ c.in-Err-remove.ensures.still.keeps (omega (arith, c.bits.ensures.value, ap digits c.num-count.ensures)) c.counted_root.ensures.brings c.remove.ensures.brings

pub returns-clause-brings : goal.returns-clause-brings
returns-clause-brings g c = brings_written _ _ _ _ 1 (3 * (2 * c.bits.result + 1)) _ c.in-Ok-remove.ensures.spares.lasts c.write_table.ensures.spares.lasts c.write_table.ensures.none (omega (arith, c.bits.ensures.value, ap digits c.num-count.ensures)) c.counted_root.ensures.brings c.remove.ensures.brings

pub returns-in-Err-remove-clause-still : goal.returns-in-Err-remove-clause-still
returns-in-Err-remove-clause-still g c = grows_then _ _ _ _ _ _ c.in-Ok.ensures.grows c.in-Err-remove.ensures.still

pub returns-in-Err-remove-clause-fault : goal.returns-in-Err-remove-clause-fault
returns-in-Err-remove-clause-fault g c = inr (node_fault_back (g.V.Vault.outside c.args.vault.now) (g.V.Vault.outside c.counted_root.new.vault) _ _ c.in-Err-remove.fault c.in-Ok.ensures.grows.leaves c.in-Err-remove.ensures.fault)

pub returns-clause-leaves : goal.returns-clause-leaves
returns-clause-leaves g c = leaves-then _ _ _ c.in-Ok.ensures.grows.leaves c.in-Ok-remove.ensures.leaves

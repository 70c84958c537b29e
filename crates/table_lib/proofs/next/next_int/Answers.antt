use Rattle.std.proofs.Common.{◌*◌, ◌+◌, arith, Option, Ok, subst, inr, Some}
use Rattle.std.specs.Prelude.{ℕ}
use Rattle.table_nodes.specs.node_rows.Keys.{by_ints}
use Rattle.table_nodes.specs.Steps.{place}
use Rattle.table_lib.specs.Nexts.{IsIntPair, FindsNode, after_key}
use Rattle.table_lib.proofs.NextLaws.{pairs_refused, pair_fetches, pairs_none, pairs_some, pairs_fault}
use Rattle.table_lib.proofs.FetchLaws.{fetches_as, fetches_failed}
use Rattle.table_nodes.specs.heap_places.heap_texts.declared.fault.OpFault.TheVariants.{Swizzle}
use Rattle.table_nodes.proofs.StepLaws.{touches_then}
use Rattle.table_nodes.proofs.of_heap_places.of_swizzle.TouchLaws.{keeps-trans}
use Rattle.table_nodes.specs.heap_places.swizzle.Heap.{num_at}
use Rattle.table_nodes.specs.avl_trees.Trees.{bits as digits}
use Rattle.table_nodes.proofs.BringLaws.{brings_more, brings_touched}
use Rattle.table_nodes.proofs.FaultLaws.{node_fault_back}
use Rattle.table_nodes.proofs.NodeLaws.{grows_then}
use Rattle.table_lib.proofs.next.next_int.Goals as goal

pub returns-in-Err-clause-next : goal.returns-in-Err-clause-next
returns-in-Err-clause-next g c =
    pairs_refused by_ints (IsIntPair c.int_node.new.sw) (place c.args.sw.now (g.V.Vault.outside c.args.vault.now)) (place c.int_node.new.sw (g.V.Vault.outside c.int_node.new.vault)) c.args.table c.args.after c.in-Err.fault c.in-Err.ensures.found

pub returns-in_default-clause-next : goal.returns-in_default-clause-next
returns-in_default-clause-next g c =
    let old = place c.args.sw.now (g.V.Vault.outside c.args.vault.now) in
    let m = place c.int_node.new.sw (g.V.Vault.outside c.int_node.new.vault) in
    pairs_none by_ints (IsIntPair m.heap) old m c.args.table c.args.after
    (subst (λ (f : Option ℕ). FindsNode by_ints old m c.args.table (after_key by_ints c.args.after) (Ok f)) c.in_default.is c.in-Ok.ensures.found)

pub returns-in-Ok-int_pair-clause-next : goal.returns-in-Ok-int_pair-clause-next
returns-in-Ok-int_pair-clause-next g c =
    let old = place c.args.sw.now (g.V.Vault.outside c.args.vault.now) in
    let m = place c.int_node.new.sw (g.V.Vault.outside c.int_node.new.vault) in
    pairs_some by_ints (IsIntPair c.int_pair.new.sw) old m c.args.table c.args.after c.in-Some.node
    (subst (λ (f : Option ℕ). FindsNode by_ints old m c.args.table (after_key by_ints c.args.after) (Ok f)) c.in-Some.is c.in-Ok.ensures.found)
    c.in-Ok-int_pair.pair c.in-Ok-int_pair.ensures.read

pub returns-in-Err-int_pair-clause-next : goal.returns-in-Err-int_pair-clause-next
returns-in-Err-int_pair-clause-next g c =
    let old = place c.args.sw.now (g.V.Vault.outside c.args.vault.now) in
    let m = place c.int_node.new.sw (g.V.Vault.outside c.int_node.new.vault) in
    pairs_fault by_ints (IsIntPair c.int_pair.new.sw) old m c.args.table c.args.after c.in-Some.node c.in-Ok.ensures.grows
    (subst (λ (f : Option ℕ). FindsNode by_ints old m c.args.table (after_key by_ints c.args.after) (Ok f)) c.in-Some.is c.in-Ok.ensures.found)
    c.in-Err-int_pair.fault c.in-Err-int_pair.ensures.read

pub returns-in-Ok-int_pair-clause-grows : goal.returns-in-Ok-int_pair-clause-grows
returns-in-Ok-int_pair-clause-grows g c =
    touches_then (place c.args.sw.now (g.V.Vault.outside c.args.vault.now)) (place c.int_node.new.sw (g.V.Vault.outside c.int_node.new.vault)) (place c.int_pair.new.sw (g.V.Vault.outside c.int_pair.new.vault)) c.in-Ok.ensures.grows c.in-Ok-int_pair.ensures.grows

pub returns-in-Ok-int_pair-clause-keeps : goal.returns-in-Ok-int_pair-clause-keeps
returns-in-Ok-int_pair-clause-keeps g c = keeps-trans c.args.sw.now c.int_node.new.sw c.int_pair.new.sw c.in-Ok.ensures.keeps c.in-Ok-int_pair.ensures.keeps

pub returns-in-Err-clause-brings : goal.returns-in-Err-clause-brings
returns-in-Err-clause-brings g c at e = brings_more _ _ _ _ (omega arith) (c.int_node.ensures.brings at e)

pub returns-in_default-clause-brings : goal.returns-in_default-clause-brings
returns-in_default-clause-brings g c at e = brings_more _ _ _ _ (omega arith) (c.int_node.ensures.brings at e)

pub returns-in-Ok-int_pair-clause-brings : goal.returns-in-Ok-int_pair-clause-brings
returns-in-Ok-int_pair-clause-brings g c at e = brings_touched _ _ _ (2 * digits (num_at c.args.sw.now at 2) + 1) 1 _ c.in-Ok-int_pair.ensures.keeps (omega arith) (c.int_node.ensures.brings at e) c.int_pair.ensures.brings

pub returns-in-Err-int_pair-clause-brings : goal.returns-in-Err-int_pair-clause-brings
returns-in-Err-int_pair-clause-brings g c at e = brings_touched _ _ _ (2 * digits (num_at c.args.sw.now at 2) + 1) 1 _ c.in-Err-int_pair.ensures.still.keeps (omega arith) (c.int_node.ensures.brings at e) c.int_pair.ensures.brings

pub returns-in-Err-int_pair-clause-still : goal.returns-in-Err-int_pair-clause-still
returns-in-Err-int_pair-clause-still g c = grows_then _ _ _ _ _ _ c.in-Ok.ensures.grows c.in-Err-int_pair.ensures.still

pub returns-in-Err-int_pair-clause-fault : goal.returns-in-Err-int_pair-clause-fault
returns-in-Err-int_pair-clause-fault g c = inr (node_fault_back (g.V.Vault.outside c.args.vault.now) (g.V.Vault.outside c.int_node.new.vault) _ _ c.in-Err-int_pair.fault c.in-Ok.ensures.grows.leaves c.in-Err-int_pair.ensures.fault)

pub returns-in-Err-clause-fetched : goal.returns-in-Err-clause-fetched
returns-in-Err-clause-fetched g c = fetches_failed by_ints (place c.args.sw.now (g.V.Vault.outside c.args.vault.now)) c.args.table c.int_node.new.sw c.in-Err.fault

pub returns-in_default-clause-fetched : goal.returns-in_default-clause-fetched
returns-in_default-clause-fetched g c = fetches_as by_ints (place c.args.sw.now (g.V.Vault.outside c.args.vault.now)) c.int_node.new.sw c.args.table c.in-Ok.found _ c.in-Ok.ensures.fetched

pub returns-in-Err-int_pair-clause-fetched : goal.returns-in-Err-int_pair-clause-fetched
returns-in-Err-int_pair-clause-fetched g c = fetches_failed by_ints (place c.args.sw.now (g.V.Vault.outside c.args.vault.now)) c.args.table c.int_pair.new.sw (Swizzle c.in-Err-int_pair.fault)

pub returns-in-Ok-int_pair-clause-fetched : goal.returns-in-Ok-int_pair-clause-fetched
returns-in-Ok-int_pair-clause-fetched g c =
    let old = place c.args.sw.now (g.V.Vault.outside c.args.vault.now) in
    let m = place c.int_node.new.sw (g.V.Vault.outside c.int_node.new.vault) in
    let new = place c.int_pair.new.sw (g.V.Vault.outside c.int_pair.new.vault) in
    pair_fetches by_ints old m new c.args.table (after_key by_ints c.args.after) c.in-Some.node c.in-Ok-int_pair.pair c.in-Ok.ensures.grows c.in-Ok-int_pair.ensures.grows
    (subst (λ (f : Option ℕ). FindsNode by_ints old m c.args.table (after_key by_ints c.args.after) (Ok f)) c.in-Some.is c.in-Ok.ensures.found)
    (fetches_as by_ints old m.heap c.args.table c.in-Ok.found (Some c.in-Some.node) c.in-Ok.ensures.fetched) c.in-Ok-int_pair.ensures.fetched

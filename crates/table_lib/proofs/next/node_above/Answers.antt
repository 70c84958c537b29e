use Rattle.std.proofs.Common.{◌∙◌, ◌-◌, ◌≡◌, ◌+◌, ◌*◌, true, false, None, Ok, Err, refl, ap, subst, arith, inr}
use Rattle.table_nodes.specs.heap_places.heap_texts.declared.fault.OpFault.TheVariants.{Swizzle}
use Rattle.table_nodes.specs.avl_trees.Trees.{next}
use Rattle.table_nodes.specs.avl_trees.Standing.{seek}
use Rattle.table_nodes.specs.node_rows.Keys.{order_by}
use Rattle.table_nodes.specs.Nodes.{IsLinked}
use Rattle.table_nodes.specs.Following.{item_name}
use Rattle.table_nodes.specs.Sought.{kind_of, key_in}
use Rattle.table_nodes.specs.Steps.{place}
use Rattle.table_nodes.proofs.SeenLaws.{fetch_back}
use Rattle.table_nodes.proofs.SoughtLaws.{key_in_kept}
use Rattle.table_nodes.proofs.StepLaws.{touches_then}
use Rattle.table_lib.specs.Operations.{Opens}
use Rattle.table_lib.proofs.NextLaws.{node_found, seek_parts}
use Rattle.table_nodes.proofs.FetchLaws.{arrives_then}
use Rattle.table_lib.proofs.FetchLaws.{fetches_failed, fetches_none, fetches_used}
use Rattle.table_lib.proofs.RootLaws.{pairs_of, tree_of, tree_low}
use Rattle.table_lib.proofs.UseLaws.{uses_refused, uses_unused, uses_used}
use Rattle.table_nodes.specs.heap_places.swizzle.Heap.{num_at}
use Rattle.table_nodes.specs.avl_trees.Trees.{bits as digits}
use Rattle.table_nodes.proofs.BringLaws.{brings_more, brings_none, brings_touched}
use Rattle.table_lib.proofs.RootLaws.{one_table}
use Rattle.table_lib.proofs.FaultLaws.{not_opened, opened_failed}
use Rattle.table_nodes.proofs.FaultLaws.{node_fault_back}
use Rattle.table_nodes.specs.Faults.{IsNodeFault}
use Rattle.table_nodes.proofs.NodeLaws.{grows_none, grows_then}
use Rattle.table_lib.proofs.next.node_above.Goals as goal

pub returns-in-Err-clause-found : goal.returns-in-Err-clause-found
returns-in-Err-clause-found g c = uses_refused (kind_of c.args.key) (place c.args.sw.now (g.V.Vault.outside c.args.vault.now)) c.args.table _ _ c.in-Err.fault (subst (λ ks. Opens ks c.args.sw.now c.args.table (Err c.in-Err.fault)) c.kind_of_key.ensures c.in-Err.ensures.opens)

pub returns-then-not-opened-clause-found : goal.returns-then-not-opened-clause-found
returns-then-not-opened-clause-found g c =
    let never : c.in-Ok.opened.used ≡ false = grind (arith, c.if-not-opened.true) in
    uses_unused (kind_of c.args.key) (place c.args.sw.now (g.V.Vault.outside c.args.vault.now)) c.args.table _ _ c.in-Ok.opened never (subst (λ ks. Opens ks c.args.sw.now c.args.table (Ok c.in-Ok.opened)) c.kind_of_key.ensures c.in-Ok.ensures.opens) _ refl

pub returns-in-Err-counted_root-clause-found : goal.returns-in-Err-counted_root-clause-found
returns-in-Err-counted_root-clause-found g c =
    let has : c.in-Ok.opened.used ≡ true = grind (arith, c.if-not-opened.false) in
    uses_used (kind_of c.args.key) (place c.args.sw.now (g.V.Vault.outside c.args.vault.now)) c.args.table _ _ c.in-Ok.opened has (subst (λ ks. Opens ks c.args.sw.now c.args.table (Ok c.in-Ok.opened)) c.kind_of_key.ensures c.in-Ok.ensures.opens) (Err (Swizzle c.in-Err-counted_root.fault))
    (λ t h. c.in-Err-counted_root.ensures.root (kind_of c.args.key) t (pairs_of (kind_of c.args.key) (place c.args.sw.now (g.V.Vault.outside c.args.vault.now)) c.in-Ok.opened.at t h))

pub returns-in-Ok-next-clause-found : goal.returns-in-Ok-next-clause-found
returns-in-Ok-next-clause-found g c =
    let ks = kind_of c.args.key in
    let old = place c.args.sw.now (g.V.Vault.outside c.args.vault.now) in
    let m = place c.counted_root.new.sw (g.V.Vault.outside c.counted_root.new.vault) in
    let has : c.in-Ok.opened.used ≡ true = grind (arith, c.if-not-opened.false) in
    let key = key_in old.heap c.args.key in
    let new = place c.next.new.sw (g.V.Vault.outside c.next.new.vault) in
    uses_used ks old c.args.table _ _ c.in-Ok.opened has (subst (λ ks. Opens ks c.args.sw.now c.args.table (Ok c.in-Ok.opened)) c.kind_of_key.ensures c.in-Ok.ensures.opens) (Ok c.in-Ok-next.found) (λ t h.
    let tree = tree_of ks old m c.in-Ok.opened.at t c.in-Ok-counted_root.root c.in-Ok-counted_root.ensures.grows h (c.in-Ok-counted_root.ensures.root ks t (pairs_of ks old c.in-Ok.opened.at t h)) in
    let low = tree_low ks old c.in-Ok.opened.at t c.num.result (2 * c.bits.result + 1) h c.num.ensures c.num.type_inv (ap (λ b. 2 * b + 1) c.bits.ensures.value) in
    let same = key_in_kept old.heap m.heap c.args.key c.in-Ok-counted_root.ensures.keeps c.requires.key in
    node_found ks m new c.in-Ok-counted_root.root t (seek (order_by ks) key) c.in-Ok-next.found (seek_parts ks key) tree c.in-Ok-next.ensures.grows
    (subst (λ k. IsLinked new.heap c.in-Ok-next.found (item_name (next (seek (order_by ks) k) t None))) same (c.in-Ok-next.ensures.follows t tree low)))

pub returns-in-Err-next-clause-found : goal.returns-in-Err-next-clause-found
returns-in-Err-next-clause-found g c =
    let ks = kind_of c.args.key in
    let old = place c.args.sw.now (g.V.Vault.outside c.args.vault.now) in
    let m = place c.counted_root.new.sw (g.V.Vault.outside c.counted_root.new.vault) in
    let has : c.in-Ok.opened.used ≡ true = grind (arith, c.if-not-opened.false) in
    uses_used ks old c.args.table _ _ c.in-Ok.opened has (subst (λ ks. Opens ks c.args.sw.now c.args.table (Ok c.in-Ok.opened)) c.kind_of_key.ensures c.in-Ok.ensures.opens) (Err (Swizzle c.in-Err-next.fault)) (λ t h.
    let tree = tree_of ks old m c.in-Ok.opened.at t c.in-Ok-counted_root.root c.in-Ok-counted_root.ensures.grows h (c.in-Ok-counted_root.ensures.root ks t (pairs_of ks old c.in-Ok.opened.at t h)) in
    let low = tree_low ks old c.in-Ok.opened.at t c.num.result (2 * c.bits.result + 1) h c.num.ensures c.num.type_inv (ap (λ b. 2 * b + 1) c.bits.ensures.value) in
    fetch_back old.heap m.heap old.outside m.outside c.in-Err-next.fault c.in-Ok-counted_root.ensures.grows (c.in-Err-next.ensures.follows t tree low))

pub returns-in-Ok-next-clause-grows : goal.returns-in-Ok-next-clause-grows
returns-in-Ok-next-clause-grows g c = touches_then (place c.args.sw.now (g.V.Vault.outside c.args.vault.now)) (place c.counted_root.new.sw (g.V.Vault.outside c.counted_root.new.vault)) (place c.next.new.sw (g.V.Vault.outside c.next.new.vault)) c.in-Ok-counted_root.ensures.grows c.in-Ok-next.ensures.grows

pub returns-in-Err-clause-brings : goal.returns-in-Err-clause-brings
returns-in-Err-clause-brings g c at e = brings_none c.args.sw.now _

pub returns-then-not-opened-clause-brings : goal.returns-then-not-opened-clause-brings
returns-then-not-opened-clause-brings g c at e = brings_none c.args.sw.now _

pub returns-in-Err-counted_root-clause-brings : goal.returns-in-Err-counted_root-clause-brings
returns-in-Err-counted_root-clause-brings g c at e = brings_more _ _ 1 _ (omega arith) c.counted_root.ensures.brings

pub returns-in-Ok-next-clause-brings : goal.returns-in-Ok-next-clause-brings
returns-in-Ok-next-clause-brings g c at e =
    let here : c.in-Ok.opened.at ≡ at = one_table c.args.table c.in-Ok.opened.at at c.in-Ok.ensures.opens.at_is e in
    brings_touched _ _ _ 1 (2 * c.bits.result + 1 - 1) _ c.in-Ok-next.ensures.keeps (omega (arith, c.bits.ensures.value, ap digits (c.num.ensures ∙ ap (λ i. num_at c.args.sw.now i 2) here))) c.counted_root.ensures.brings c.next.ensures.brings

pub returns-in-Err-next-clause-brings : goal.returns-in-Err-next-clause-brings
returns-in-Err-next-clause-brings g c at e =
    let here : c.in-Ok.opened.at ≡ at = one_table c.args.table c.in-Ok.opened.at at c.in-Ok.ensures.opens.at_is e in
    brings_touched _ _ _ 1 (2 * c.bits.result + 1 - 1) _ c.in-Err-next.ensures.still.keeps (omega (arith, c.bits.ensures.value, ap digits (c.num.ensures ∙ ap (λ i. num_at c.args.sw.now i 2) here))) c.counted_root.ensures.brings c.next.ensures.brings

pub returns-in-Err-clause-still : goal.returns-in-Err-clause-still
returns-in-Err-clause-still g c = grows_none c.args.sw.now (g.V.Vault.outside c.args.vault.now) c.sound.ensures

pub returns-in-Err-next-clause-still : goal.returns-in-Err-next-clause-still
returns-in-Err-next-clause-still g c = grows_then _ _ _ _ _ _ c.in-Ok-counted_root.ensures.grows c.in-Err-next.ensures.still

pub returns-in-Err-clause-fault : goal.returns-in-Err-clause-fault
returns-in-Err-clause-fault g c = not_opened _ _ c.args.table c.in-Err.fault c.in-Err.ensures.fault

pub returns-in-Err-counted_root-clause-fault : goal.returns-in-Err-counted_root-clause-fault
returns-in-Err-counted_root-clause-fault g c = opened_failed (IsNodeFault (g.V.Vault.outside c.args.vault.now) (g.V.Vault.outside c.counted_root.new.vault) c.counted_root.new.sw) _ c.args.table c.in-Ok.opened.at c.in-Err-counted_root.fault c.in-Ok.ensures.opens.at_is c.in-Err-counted_root.ensures.fault

pub returns-in-Err-next-clause-fault : goal.returns-in-Err-next-clause-fault
returns-in-Err-next-clause-fault g c = inr (node_fault_back (g.V.Vault.outside c.args.vault.now) (g.V.Vault.outside c.counted_root.new.vault) _ _ c.in-Err-next.fault c.in-Ok-counted_root.ensures.grows.leaves c.in-Err-next.ensures.fault)

pub returns-in-Err-clause-fetched : goal.returns-in-Err-clause-fetched
returns-in-Err-clause-fetched g c = fetches_failed (kind_of c.args.key) (place c.args.sw.now (g.V.Vault.outside c.args.vault.now)) c.args.table c.args.sw.now c.in-Err.fault

pub returns-then-not-opened-clause-fetched : goal.returns-then-not-opened-clause-fetched
returns-then-not-opened-clause-fetched g c = fetches_none (kind_of c.args.key) (place c.args.sw.now (g.V.Vault.outside c.args.vault.now)) c.args.table _

pub returns-in-Err-counted_root-clause-fetched : goal.returns-in-Err-counted_root-clause-fetched
returns-in-Err-counted_root-clause-fetched g c = fetches_failed (kind_of c.args.key) (place c.args.sw.now (g.V.Vault.outside c.args.vault.now)) c.args.table c.counted_root.new.sw (Swizzle c.in-Err-counted_root.fault)

pub returns-in-Err-next-clause-fetched : goal.returns-in-Err-next-clause-fetched
returns-in-Err-next-clause-fetched g c = fetches_failed (kind_of c.args.key) (place c.args.sw.now (g.V.Vault.outside c.args.vault.now)) c.args.table c.next.new.sw (Swizzle c.in-Err-next.fault)

pub returns-in-Ok-next-clause-fetched : goal.returns-in-Ok-next-clause-fetched
returns-in-Ok-next-clause-fetched g c =
    let ks = kind_of c.args.key in
    let old = place c.args.sw.now (g.V.Vault.outside c.args.vault.now) in
    let m = place c.counted_root.new.sw (g.V.Vault.outside c.counted_root.new.vault) in
    let new = place c.next.new.sw (g.V.Vault.outside c.next.new.vault) in
    let has : c.in-Ok.opened.used ≡ true = grind (arith, c.if-not-opened.false) in
    fetches_used ks old c.args.table new.heap _ c.in-Ok.opened has c.in-Ok.ensures.opens c.in-Ok-next.found (λ t h all.
    let tree = tree_of ks old m c.in-Ok.opened.at t c.in-Ok-counted_root.root c.in-Ok-counted_root.ensures.grows h (c.in-Ok-counted_root.ensures.root ks t (pairs_of ks old c.in-Ok.opened.at t h)) in
    let low = tree_low ks old c.in-Ok.opened.at t c.num.result (2 * c.bits.result + 1) h c.num.ensures c.num.type_inv (ap (λ b. 2 * b + 1) c.bits.ensures.value) in
    arrives_then old.heap m.heap new.heap old.outside m.outside new.outside c.in-Ok-counted_root.ensures.grows c.in-Ok-next.ensures.grows (c.in-Ok-counted_root.ensures.fetched ks t (pairs_of ks old c.in-Ok.opened.at t h))
    (c.in-Ok-next.ensures.fetched t tree low))

use Rattle.std.proofs.Common.{◌∙◌, ◌-◌, ◌≡◌, ◌+◌, ◌*◌, true, false, Ok, Err, refl, ap, arith, inr}
use Rattle.std.specs.declared.cmp.Ordering.TheVariants.{Less}
use Rattle.table_nodes.specs.heap_places.heap_texts.declared.fault.OpFault.TheVariants.{Swizzle}
use Rattle.table_nodes.specs.Steps.{place}
use Rattle.table_nodes.proofs.SeenLaws.{fetch_back}
use Rattle.table_nodes.proofs.StepLaws.{touches_then}
use Rattle.table_nodes.specs.Sought.{keys_of}
use Rattle.table_lib.proofs.NextLaws.{node_found, least_parts}
use Rattle.table_nodes.proofs.FetchLaws.{arrives_then}
use Rattle.table_lib.proofs.FetchLaws.{fetches_failed, fetches_none, fetches_used}
use Rattle.table_lib.proofs.RootLaws.{pairs_of, tree_of, tree_low}
use Rattle.table_lib.proofs.UseLaws.{uses_refused, uses_unused, uses_used}
use Rattle.table_nodes.specs.heap_places.swizzle.Heap.{num_at}
use Rattle.table_nodes.specs.avl_trees.Trees.{bits as digits}
use Rattle.table_nodes.proofs.BringLaws.{brings_more, brings_none, brings_touched}
use Rattle.table_lib.proofs.RootLaws.{one_table}
use Rattle.table_lib.proofs.FaultLaws.{not_opened, opened_failed}
use Rattle.table_nodes.proofs.FaultLaws.{node_fault_back}
use Rattle.table_nodes.specs.Faults.{IsNodeFault}
use Rattle.table_nodes.proofs.NodeLaws.{grows_none, grows_then}
use Rattle.table_lib.proofs.next.least_node.Goals as goal

pub returns-in-Err-clause-found : goal.returns-in-Err-clause-found
returns-in-Err-clause-found g c = uses_refused (keys_of c.args.keys) (place c.args.sw.now (g.V.Vault.outside c.args.vault.now)) c.args.table _ _ c.in-Err.fault c.in-Err.ensures.opens

pub returns-then-not-opened-clause-found : goal.returns-then-not-opened-clause-found
returns-then-not-opened-clause-found g c =
    let never : c.in-Ok.opened.used ≡ false = grind (arith, c.if-not-opened.true) in
    uses_unused (keys_of c.args.keys) (place c.args.sw.now (g.V.Vault.outside c.args.vault.now)) c.args.table _ _ c.in-Ok.opened never c.in-Ok.ensures.opens _ refl

pub returns-in-Err-counted_root-clause-found : goal.returns-in-Err-counted_root-clause-found
returns-in-Err-counted_root-clause-found g c =
    let has : c.in-Ok.opened.used ≡ true = grind (arith, c.if-not-opened.false) in
    uses_used (keys_of c.args.keys) (place c.args.sw.now (g.V.Vault.outside c.args.vault.now)) c.args.table _ _ c.in-Ok.opened has c.in-Ok.ensures.opens (Err (Swizzle c.in-Err-counted_root.fault))
    (λ t h. c.in-Err-counted_root.ensures.root (keys_of c.args.keys) t (pairs_of (keys_of c.args.keys) (place c.args.sw.now (g.V.Vault.outside c.args.vault.now)) c.in-Ok.opened.at t h))

pub returns-in-Ok-first-clause-found : goal.returns-in-Ok-first-clause-found
returns-in-Ok-first-clause-found g c =
    let ks = keys_of c.args.keys in
    let old = place c.args.sw.now (g.V.Vault.outside c.args.vault.now) in
    let m = place c.counted_root.new.sw (g.V.Vault.outside c.counted_root.new.vault) in
    let has : c.in-Ok.opened.used ≡ true = grind (arith, c.if-not-opened.false) in
    let new = place c.first.new.sw (g.V.Vault.outside c.first.new.vault) in
    uses_used ks old c.args.table _ _ c.in-Ok.opened has c.in-Ok.ensures.opens (Ok c.in-Ok-first.found) (λ t h.
    let tree = tree_of ks old m c.in-Ok.opened.at t c.in-Ok-counted_root.root c.in-Ok-counted_root.ensures.grows h (c.in-Ok-counted_root.ensures.root ks t (pairs_of ks old c.in-Ok.opened.at t h)) in
    let low = tree_low ks old c.in-Ok.opened.at t c.num.result (2 * c.bits.result + 1) h c.num.ensures c.num.type_inv (ap (λ b. 2 * b + 1) c.bits.ensures.value) in
    node_found ks m new c.in-Ok-counted_root.root t (λ a. Less) c.in-Ok-first.found (least_parts ks) tree c.in-Ok-first.ensures.grows (c.in-Ok-first.ensures.begins t tree low))

pub returns-in-Err-first-clause-found : goal.returns-in-Err-first-clause-found
returns-in-Err-first-clause-found g c =
    let ks = keys_of c.args.keys in
    let old = place c.args.sw.now (g.V.Vault.outside c.args.vault.now) in
    let m = place c.counted_root.new.sw (g.V.Vault.outside c.counted_root.new.vault) in
    let has : c.in-Ok.opened.used ≡ true = grind (arith, c.if-not-opened.false) in
    uses_used ks old c.args.table _ _ c.in-Ok.opened has c.in-Ok.ensures.opens (Err (Swizzle c.in-Err-first.fault)) (λ t h.
    let tree = tree_of ks old m c.in-Ok.opened.at t c.in-Ok-counted_root.root c.in-Ok-counted_root.ensures.grows h (c.in-Ok-counted_root.ensures.root ks t (pairs_of ks old c.in-Ok.opened.at t h)) in
    let low = tree_low ks old c.in-Ok.opened.at t c.num.result (2 * c.bits.result + 1) h c.num.ensures c.num.type_inv (ap (λ b. 2 * b + 1) c.bits.ensures.value) in
    fetch_back old.heap m.heap old.outside m.outside c.in-Err-first.fault c.in-Ok-counted_root.ensures.grows (c.in-Err-first.ensures.begins t tree low))

pub returns-in-Ok-first-clause-grows : goal.returns-in-Ok-first-clause-grows
returns-in-Ok-first-clause-grows g c = touches_then (place c.args.sw.now (g.V.Vault.outside c.args.vault.now)) (place c.counted_root.new.sw (g.V.Vault.outside c.counted_root.new.vault)) (place c.first.new.sw (g.V.Vault.outside c.first.new.vault)) c.in-Ok-counted_root.ensures.grows c.in-Ok-first.ensures.grows

pub returns-in-Err-clause-brings : goal.returns-in-Err-clause-brings
returns-in-Err-clause-brings g c at e = brings_none c.args.sw.now _

pub returns-then-not-opened-clause-brings : goal.returns-then-not-opened-clause-brings
returns-then-not-opened-clause-brings g c at e = brings_none c.args.sw.now _

pub returns-in-Err-counted_root-clause-brings : goal.returns-in-Err-counted_root-clause-brings
returns-in-Err-counted_root-clause-brings g c at e = brings_more _ _ 1 _ (omega arith) c.counted_root.ensures.brings

pub returns-in-Ok-first-clause-brings : goal.returns-in-Ok-first-clause-brings
returns-in-Ok-first-clause-brings g c at e =
    let here : c.in-Ok.opened.at ≡ at = one_table c.args.table c.in-Ok.opened.at at c.in-Ok.ensures.opens.at_is e in
    brings_touched _ _ _ 1 (2 * c.bits.result + 1 - 1) _ c.in-Ok-first.ensures.keeps (omega (arith, c.bits.ensures.value, ap digits (c.num.ensures ∙ ap (λ i. num_at c.args.sw.now i 2) here))) c.counted_root.ensures.brings c.first.ensures.brings

pub returns-in-Err-first-clause-brings : goal.returns-in-Err-first-clause-brings
returns-in-Err-first-clause-brings g c at e =
    let here : c.in-Ok.opened.at ≡ at = one_table c.args.table c.in-Ok.opened.at at c.in-Ok.ensures.opens.at_is e in
    brings_touched _ _ _ 1 (2 * c.bits.result + 1 - 1) _ c.in-Err-first.ensures.still.keeps (omega (arith, c.bits.ensures.value, ap digits (c.num.ensures ∙ ap (λ i. num_at c.args.sw.now i 2) here))) c.counted_root.ensures.brings c.first.ensures.brings

pub returns-in-Err-clause-still : goal.returns-in-Err-clause-still
returns-in-Err-clause-still g c = grows_none c.args.sw.now (g.V.Vault.outside c.args.vault.now) c.sound.ensures

pub returns-in-Err-first-clause-still : goal.returns-in-Err-first-clause-still
returns-in-Err-first-clause-still g c = grows_then _ _ _ _ _ _ c.in-Ok-counted_root.ensures.grows c.in-Err-first.ensures.still

pub returns-in-Err-clause-fault : goal.returns-in-Err-clause-fault
returns-in-Err-clause-fault g c = not_opened _ _ c.args.table c.in-Err.fault c.in-Err.ensures.fault

pub returns-in-Err-counted_root-clause-fault : goal.returns-in-Err-counted_root-clause-fault
returns-in-Err-counted_root-clause-fault g c = opened_failed (IsNodeFault (g.V.Vault.outside c.args.vault.now) (g.V.Vault.outside c.counted_root.new.vault) c.counted_root.new.sw) _ c.args.table c.in-Ok.opened.at c.in-Err-counted_root.fault c.in-Ok.ensures.opens.at_is c.in-Err-counted_root.ensures.fault

pub returns-in-Err-first-clause-fault : goal.returns-in-Err-first-clause-fault
returns-in-Err-first-clause-fault g c = inr (node_fault_back (g.V.Vault.outside c.args.vault.now) (g.V.Vault.outside c.counted_root.new.vault) _ _ c.in-Err-first.fault c.in-Ok-counted_root.ensures.grows.leaves c.in-Err-first.ensures.fault)

pub returns-in-Err-clause-fetched : goal.returns-in-Err-clause-fetched
returns-in-Err-clause-fetched g c = fetches_failed (keys_of c.args.keys) (place c.args.sw.now (g.V.Vault.outside c.args.vault.now)) c.args.table c.args.sw.now c.in-Err.fault

pub returns-then-not-opened-clause-fetched : goal.returns-then-not-opened-clause-fetched
returns-then-not-opened-clause-fetched g c = fetches_none (keys_of c.args.keys) (place c.args.sw.now (g.V.Vault.outside c.args.vault.now)) c.args.table _

pub returns-in-Err-counted_root-clause-fetched : goal.returns-in-Err-counted_root-clause-fetched
returns-in-Err-counted_root-clause-fetched g c = fetches_failed (keys_of c.args.keys) (place c.args.sw.now (g.V.Vault.outside c.args.vault.now)) c.args.table c.counted_root.new.sw (Swizzle c.in-Err-counted_root.fault)

pub returns-in-Err-first-clause-fetched : goal.returns-in-Err-first-clause-fetched
returns-in-Err-first-clause-fetched g c = fetches_failed (keys_of c.args.keys) (place c.args.sw.now (g.V.Vault.outside c.args.vault.now)) c.args.table c.first.new.sw (Swizzle c.in-Err-first.fault)

pub returns-in-Ok-first-clause-fetched : goal.returns-in-Ok-first-clause-fetched
returns-in-Ok-first-clause-fetched g c =
    let ks = keys_of c.args.keys in
    let old = place c.args.sw.now (g.V.Vault.outside c.args.vault.now) in
    let m = place c.counted_root.new.sw (g.V.Vault.outside c.counted_root.new.vault) in
    let new = place c.first.new.sw (g.V.Vault.outside c.first.new.vault) in
    let has : c.in-Ok.opened.used ≡ true = grind (arith, c.if-not-opened.false) in
    fetches_used ks old c.args.table new.heap _ c.in-Ok.opened has c.in-Ok.ensures.opens c.in-Ok-first.found (λ t h all.
    let tree = tree_of ks old m c.in-Ok.opened.at t c.in-Ok-counted_root.root c.in-Ok-counted_root.ensures.grows h (c.in-Ok-counted_root.ensures.root ks t (pairs_of ks old c.in-Ok.opened.at t h)) in
    let low = tree_low ks old c.in-Ok.opened.at t c.num.result (2 * c.bits.result + 1) h c.num.ensures c.num.type_inv (ap (λ b. 2 * b + 1) c.bits.ensures.value) in
    arrives_then old.heap m.heap new.heap old.outside m.outside new.outside c.in-Ok-counted_root.ensures.grows c.in-Ok-first.ensures.grows (c.in-Ok-counted_root.ensures.fetched ks t (pairs_of ks old c.in-Ok.opened.at t h))
    (c.in-Ok-first.ensures.fetched t tree low))

use Rattle.std.proofs.Common.{arith, ℕ, Option, refl, subst}
use Rattle.heap_places.specs.swizzle.Heap.{ref_at}
use Rattle.heap_places.specs.swizzle.Joint.{name_of}
use Rattle.table_nodes.proofs.NodeLaws.{seat_at, side_seen, linked_some, linked_none, grows_touch, side_kind, side_known, side_row, grows_refused}
use Rattle.table_nodes.proofs.SeenLaws.{touch_failed_seen}
use Rattle.table_nodes.proofs.BringLaws.{brings_only, brings_same}
use Rattle.heap_places.specs.swizzle.Touch.{Denotes}
use Rattle.table_nodes.specs.Faults.{misfit, no_node}
use Rattle.table_nodes.proofs.FaultLaws.{touch_failed}
use Rattle.table_nodes.proofs.FetchLaws.{touch_arrives}
use Rattle.table_nodes.proofs.nodes.side.Goals as goal

pub returns-then-is_node-clause-side : goal.returns-then-is_node-clause-side
returns-then-is_node-clause-side g c ks n row named r =
    let s = seat_at ks c.args.sw.now (g.V.Vault.outside c.args.vault.now) c.args.at n row c.sound.ensures named r in
    linked_some c.touch_slot.new.self c.in-Ok-Some.to (name_of c.args.sw.now (ref_at c.args.sw.now c.args.at c.args.slot)) _ (c.is_node.ensures.yes c.if-is_node.true)
    (rw c.in-Ok-Some.field-0-is at c.in-Ok-Some.ensures.target)
    (side_seen ks c.args.sw.now (g.V.Vault.outside c.args.vault.now) c.args.at c.args.slot row c.requires.slot s)

pub returns-then-is_node-clause-grows : goal.returns-then-is_node-clause-grows
returns-then-is_node-clause-grows g c = grows_touch c.args.sw.now c.touch_slot.new.self (g.V.Vault.outside c.args.vault.now) (g.V.Vault.outside c.touch_slot.new.vault) _ c.sound.ensures c.sound-in-Ok-Some.ensures c.in-Ok-Some.ensures.call c.in-Ok-Some.ensures.keeps c.in-Ok-Some.ensures.joint

pub returns-in-Ok-None-clause-side : goal.returns-in-Ok-None-clause-side
returns-in-Ok-None-clause-side g c ks n row named r =
    let s = seat_at ks c.args.sw.now (g.V.Vault.outside c.args.vault.now) c.args.at n row c.sound.ensures named r in
    linked_none c.touch_slot.new.self (name_of c.args.sw.now (ref_at c.args.sw.now c.args.at c.args.slot)) _ (rw c.in-Ok-None.field-0-is at c.in-Ok-None.ensures.target)
    (side_seen ks c.args.sw.now (g.V.Vault.outside c.args.vault.now) c.args.at c.args.slot row c.requires.slot s)

pub returns-else-is_node-clause-sound : goal.returns-else-is_node-clause-sound
returns-else-is_node-clause-sound g c ks n row named r known =
    let a = g.V.Vault.outside c.args.vault.now in
    let b = g.V.Vault.outside c.touch_slot.new.vault in
    let s = seat_at ks c.args.sw.now a c.args.at n row c.sound.ensures named r in
    let grows = grows_touch c.args.sw.now c.touch_slot.new.self a b _ c.sound.ensures c.sound-in-Ok-Some.ensures c.in-Ok-Some.ensures.call c.in-Ok-Some.ensures.keeps c.in-Ok-Some.ensures.joint in
    let node = side_kind ks c.args.sw.now c.touch_slot.new.self a b c.in-Ok-Some.to (name_of c.args.sw.now (ref_at c.args.sw.now c.args.at c.args.slot)) _ c.sound-in-Ok-Some.ensures grows
    (side_row ks c.args.sw.now a _ known) (rw c.in-Ok-Some.field-0-is at c.in-Ok-Some.ensures.target) (side_seen ks c.args.sw.now (g.V.Vault.outside c.args.vault.now) c.args.at c.args.slot row c.requires.slot s) in
    let yes = c.is_node.ensures.no node in
    absurd (cc (yes, c.if-is_node.false))

pub returns-in-Ok-None-clause-grows : goal.returns-in-Ok-None-clause-grows
returns-in-Ok-None-clause-grows g c = grows_touch c.args.sw.now c.touch_slot.new.self (g.V.Vault.outside c.args.vault.now) (g.V.Vault.outside c.touch_slot.new.vault) _ c.sound.ensures c.sound-in-Ok-None.ensures c.in-Ok-None.ensures.call c.in-Ok-None.ensures.keeps c.in-Ok-None.ensures.joint

pub returns-then-is_node-clause-brings : goal.returns-then-is_node-clause-brings
returns-then-is_node-clause-brings g c = brings_only _ _ _ 1 (omega arith) c.in-Ok-Some.ensures.only

pub returns-else-is_node-clause-brings : goal.returns-else-is_node-clause-brings
returns-else-is_node-clause-brings g c = brings_only _ _ _ 1 (omega arith) c.in-Ok-Some.ensures.only

pub returns-in-Ok-None-clause-brings : goal.returns-in-Ok-None-clause-brings
returns-in-Ok-None-clause-brings g c = brings_only _ _ _ 1 (omega arith) c.in-Ok-None.ensures.only

pub returns-in-Err-clause-brings : goal.returns-in-Err-clause-brings
returns-in-Err-clause-brings g c = brings_same _ _ 1 c.in-Err.ensures.refused

pub returns-in-Err-clause-still : goal.returns-in-Err-clause-still
returns-in-Err-clause-still g c = grows_refused _ _ _ _ c.sound.ensures c.in-Err.ensures.call c.in-Err.ensures.refused

pub returns-else-is_node-clause-fault : goal.returns-else-is_node-clause-fault
returns-else-is_node-clause-fault g c = misfit c.in-Ok-Some.to _ _ (subst (λ (t : Option ℕ). Denotes c.touch_slot.new.self t (name_of c.args.sw.now (ref_at c.args.sw.now c.args.at c.args.slot))) c.in-Ok-Some.field-0-is c.in-Ok-Some.ensures.target).0 (no_node (λ n. absurd (cc (c.is_node.ensures.no n, c.if-is_node.false))) refl refl) c.damaged.ensures

pub returns-in-Err-clause-fault : goal.returns-in-Err-clause-fault
returns-in-Err-clause-fault g c = touch_failed (g.V.Vault.outside c.args.vault.now) (g.V.Vault.outside c.touch_slot.new.vault) c.args.sw.now c.touch_slot.new.self c.args.at c.args.slot c.in-Err.fault c.requires.node.held (omega (arith, c.requires.slot, c.requires.node.refs)) c.in-Err.ensures.refused c.in-Err.ensures.fault c.in-Err.ensures.call

pub returns-else-is_node-clause-still : goal.returns-else-is_node-clause-still
returns-else-is_node-clause-still g c = grows_touch c.args.sw.now c.touch_slot.new.self (g.V.Vault.outside c.args.vault.now) (g.V.Vault.outside c.touch_slot.new.vault) _ c.sound.ensures c.sound-in-Ok-Some.ensures c.in-Ok-Some.ensures.call c.in-Ok-Some.ensures.keeps c.in-Ok-Some.ensures.joint

pub returns-in-Err-clause-sound : goal.returns-in-Err-clause-sound
returns-in-Err-clause-sound g c ks n row named r known =
    let a = g.V.Vault.outside c.args.vault.now in
    let s = seat_at ks c.args.sw.now a c.args.at n row c.sound.ensures named r in
    touch_failed_seen c.args.sw.now c.touch_slot.new.self a (g.V.Vault.outside c.touch_slot.new.vault) (ref_at c.args.sw.now c.args.at c.args.slot) c.in-Err.fault c.sound.ensures
    (side_known ks c.args.sw.now a (name_of c.args.sw.now (ref_at c.args.sw.now c.args.at c.args.slot)) _ (side_seen ks c.args.sw.now a c.args.at c.args.slot row c.requires.slot s) known) c.in-Err.ensures.fault c.in-Err.ensures.call

pub returns-then-is_node-clause-fetched : goal.returns-then-is_node-clause-fetched
returns-then-is_node-clause-fetched g c ks n row named r known =
    let a = g.V.Vault.outside c.args.vault.now in
    let s = seat_at ks c.args.sw.now a c.args.at n row c.sound.ensures named r in
    touch_arrives c.args.sw.now c.touch_slot.new.self a (g.V.Vault.outside c.touch_slot.new.vault) (ref_at c.args.sw.now c.args.at c.args.slot) c.sound-in-Ok-Some.ensures c.in-Ok-Some.ensures.keeps c.in-Ok-Some.ensures.joint.grows c.in-Ok-Some.ensures.only
    (λ to e. (c.touch_slot.ensures.still to e).0) (side_known ks c.args.sw.now a (name_of c.args.sw.now (ref_at c.args.sw.now c.args.at c.args.slot)) _ (side_seen ks c.args.sw.now a c.args.at c.args.slot row c.requires.slot s) known)

pub returns-in-Ok-None-clause-fetched : goal.returns-in-Ok-None-clause-fetched
returns-in-Ok-None-clause-fetched g c ks n row named r known =
    let a = g.V.Vault.outside c.args.vault.now in
    let s = seat_at ks c.args.sw.now a c.args.at n row c.sound.ensures named r in
    touch_arrives c.args.sw.now c.touch_slot.new.self a (g.V.Vault.outside c.touch_slot.new.vault) (ref_at c.args.sw.now c.args.at c.args.slot) c.sound-in-Ok-None.ensures c.in-Ok-None.ensures.keeps c.in-Ok-None.ensures.joint.grows c.in-Ok-None.ensures.only
    (λ to e. (c.touch_slot.ensures.still to e).0) (side_known ks c.args.sw.now a (name_of c.args.sw.now (ref_at c.args.sw.now c.args.at c.args.slot)) _ (side_seen ks c.args.sw.now a c.args.at c.args.slot row c.requires.slot s) known)

use Rattle.std.proofs.Common.{◌≡◌, ℕ, Option, Some, subst, arith, refl}
use Rattle.std.proofs.lemmas.Grind.{common_steps}
use Rattle.heap_places.specs.obj_layout.declared.kind.Kind.TheVariants.{Text as TextKind}
use Rattle.heap_places.specs.swizzle.Heap.{header_at, ref_at, reference_to}
use Rattle.heap_places.specs.swizzle.Joint.{name_of}
use Rattle.heap_places.specs.swizzle.Touch.{Denotes}
use Rattle.table_nodes.proofs.NodeLaws.{seat_at, grows_touch, grows_refused}
use Rattle.table_nodes.proofs.SoughtLaws.{text_of_key, text_not_nil}
use Rattle.heap_places.specs.obj_layout.declared.reference.Reference.{Reference}
use Rattle.heap_places.proofs.PlaceLaws.{slot-name}
use Rattle.node_rows.specs.Keys.{by_texts}
use Rattle.table_nodes.specs.Nodes.{seen}
use Rattle.table_nodes.proofs.SeenLaws.{touch_failed_seen}
use Rattle.table_nodes.proofs.BringLaws.{brings_only, brings_other, brings_same}
use Rattle.table_nodes.specs.Faults.{misfit, no_key, no_text}
use Rattle.table_nodes.proofs.FaultLaws.{touch_failed}
use Rattle.table_nodes.proofs.SpanLaws.{slot_shown}
use Rattle.table_nodes.proofs.FetchLaws.{touch_arrives}
use Rattle.table_nodes.proofs.keys.text_key.Goals as goal

pub returns-then-eq-clause-read : goal.returns-then-eq-clause-read
returns-then-eq-clause-read g c n row named r =
    (text_of_key c.args.sw.now c.touch_slot.new.self (g.V.Vault.outside c.args.vault.now) (g.V.Vault.outside c.touch_slot.new.vault) c.args.at c.in-Ok-Some.text n row c.sound.ensures c.sound-in-Ok-Some.ensures c.in-Ok-Some.ensures.joint.grows
    (subst (λ (t : Option ℕ). Denotes c.touch_slot.new.self t (name_of c.args.sw.now (ref_at c.args.sw.now c.args.at 2))) c.in-Ok-Some.field-0-is c.in-Ok-Some.ensures.target) named r).1

pub returns-then-eq-clause-grows : goal.returns-then-eq-clause-grows
returns-then-eq-clause-grows g c = grows_touch c.args.sw.now c.touch_slot.new.self (g.V.Vault.outside c.args.vault.now) (g.V.Vault.outside c.touch_slot.new.vault) _ c.sound.ensures c.sound-in-Ok-Some.ensures c.in-Ok-Some.ensures.call c.in-Ok-Some.ensures.keeps c.in-Ok-Some.ensures.joint

pub returns-else-eq-clause-read : goal.returns-else-eq-clause-read
returns-else-eq-clause-read g c n row named r =
    let kind = (text_of_key c.args.sw.now c.touch_slot.new.self (g.V.Vault.outside c.args.vault.now) (g.V.Vault.outside c.touch_slot.new.vault) c.args.at c.in-Ok-Some.text n row c.sound.ensures c.sound-in-Ok-Some.ensures c.in-Ok-Some.ensures.joint.grows
    (subst (λ (t : Option ℕ). Denotes c.touch_slot.new.self t (name_of c.args.sw.now (ref_at c.args.sw.now c.args.at 2))) c.in-Ok-Some.field-0-is c.in-Ok-Some.ensures.target) named r).0 in
    absurd (grind (arith, common_steps, kind))

pub returns-in-Ok-None-clause-read : goal.returns-in-Ok-None-clause-read
returns-in-Ok-None-clause-read g c n row named r =
    let nil = subst (λ (t : Option ℕ). Denotes c.touch_slot.new.self t (name_of c.args.sw.now (ref_at c.args.sw.now c.args.at 2))) c.in-Ok-None.field-0-is c.in-Ok-None.ensures.target in
    absurd (text_not_nil c.args.sw.now (g.V.Vault.outside c.args.vault.now) c.args.at n row c.sound.ensures nil named r)

pub returns-then-eq-clause-brings : goal.returns-then-eq-clause-brings
returns-then-eq-clause-brings g c =
    let kind : (header_at c.touch_slot.new.self c.in-Ok-Some.text).kind ≡ TextKind = grind (arith, common_steps) in
    brings_other c.args.sw.now c.touch_slot.new.self (Some c.in-Ok-Some.text) (ref_at c.args.sw.now c.args.at 2) 0 c.sound-in-Ok-Some.ensures c.in-Ok-Some.ensures.only (λ near e. (c.touch_slot.ensures.still near e).0)
    (subst (λ (t : Option ℕ). Denotes c.touch_slot.new.self t (name_of c.args.sw.now (ref_at c.args.sw.now c.args.at 2))) c.in-Ok-Some.field-0-is c.in-Ok-Some.ensures.target) (λ at e k. absurd (cc (e, k, kind)))

pub returns-else-eq-clause-brings : goal.returns-else-eq-clause-brings
returns-else-eq-clause-brings g c = brings_only _ _ _ 1 (omega arith) c.in-Ok-Some.ensures.only

pub returns-in-Ok-None-clause-brings : goal.returns-in-Ok-None-clause-brings
returns-in-Ok-None-clause-brings g c = brings_only _ _ _ 1 (omega arith) c.in-Ok-None.ensures.only

pub returns-in-Err-clause-brings : goal.returns-in-Err-clause-brings
returns-in-Err-clause-brings g c = brings_same _ _ 1 c.in-Err.ensures.refused

pub returns-in-Err-clause-still : goal.returns-in-Err-clause-still
returns-in-Err-clause-still g c = grows_refused _ _ _ _ c.sound.ensures c.in-Err.ensures.call c.in-Err.ensures.refused

pub returns-else-eq-clause-fault : goal.returns-else-eq-clause-fault
returns-else-eq-clause-fault g c = misfit c.in-Ok-Some.text _ _ (subst (λ (t : Option ℕ). Denotes c.touch_slot.new.self t (name_of c.args.sw.now (ref_at c.args.sw.now c.args.at 2))) c.in-Ok-Some.field-0-is c.in-Ok-Some.ensures.target).0 (no_text (λ k. absurd (grind (arith, common_steps, k))) (grind (arith, common_steps)) refl) c.damaged.ensures

pub returns-in-Ok-None-clause-fault : goal.returns-in-Ok-None-clause-fault
returns-in-Ok-None-clause-fault g c =
    let node = (grows_touch c.args.sw.now c.touch_slot.new.self (g.V.Vault.outside c.args.vault.now) (g.V.Vault.outside c.touch_slot.new.vault) _ c.sound.ensures c.sound-in-Ok-None.ensures c.in-Ok-None.ensures.call c.in-Ok-None.ensures.keeps c.in-Ok-None.ensures.joint).nodes c.args.at c.requires.node in
    misfit c.args.at _ _ node.held (no_key node (subst (λ (t : Option ℕ). ref_at c.touch_slot.new.self c.args.at 2 ≡ reference_to t) c.in-Ok-None.field-0-is c.in-Ok-None.ensures.local) refl refl) c.damaged-in-Ok-None.ensures

pub returns-in-Err-clause-fault : goal.returns-in-Err-clause-fault
returns-in-Err-clause-fault g c = touch_failed (g.V.Vault.outside c.args.vault.now) (g.V.Vault.outside c.touch_slot.new.vault) c.args.sw.now c.touch_slot.new.self c.args.at 2 c.in-Err.fault c.requires.node.held (omega (arith, c.requires.node.refs)) c.in-Err.ensures.refused c.in-Err.ensures.fault c.in-Err.ensures.call

pub returns-then-eq-clause-slot : goal.returns-then-eq-clause-slot
returns-then-eq-clause-slot g c = slot_shown c.args.sw.now c.touch_slot.new.self c.args.at 2 c.in-Ok-Some.text c.in-Ok-Some.ensures.keeps c.requires.node.held
    (subst (λ (t : Option ℕ). Denotes c.touch_slot.new.self t (name_of c.args.sw.now (ref_at c.args.sw.now c.args.at 2))) c.in-Ok-Some.field-0-is c.in-Ok-Some.ensures.target)

pub returns-else-eq-clause-still : goal.returns-else-eq-clause-still
returns-else-eq-clause-still g c = grows_touch c.args.sw.now c.touch_slot.new.self (g.V.Vault.outside c.args.vault.now) (g.V.Vault.outside c.touch_slot.new.vault) _ c.sound.ensures c.sound-in-Ok-Some.ensures c.in-Ok-Some.ensures.call c.in-Ok-Some.ensures.keeps c.in-Ok-Some.ensures.joint

pub returns-in-Ok-None-clause-still : goal.returns-in-Ok-None-clause-still
returns-in-Ok-None-clause-still g c = grows_touch c.args.sw.now c.touch_slot.new.self (g.V.Vault.outside c.args.vault.now) (g.V.Vault.outside c.touch_slot.new.vault) _ c.sound.ensures c.sound-in-Ok-None.ensures c.in-Ok-None.ensures.call c.in-Ok-None.ensures.keeps c.in-Ok-None.ensures.joint

pub returns-in-Err-clause-read : goal.returns-in-Err-clause-read
returns-in-Err-clause-read g c n row named r =
    let a = g.V.Vault.outside c.args.vault.now in
    let k = (seat_at by_texts c.args.sw.now a c.args.at n row c.sound.ensures named r).key in
    touch_failed_seen c.args.sw.now c.touch_slot.new.self a (g.V.Vault.outside c.touch_slot.new.vault) (ref_at c.args.sw.now c.args.at 2) c.in-Err.fault c.sound.ensures
    (λ pid f. record { it = k.it; is = subst (λ (m : Reference). seen c.args.sw.now a m k.it) (slot-name c.args.sw.now c.args.at 2) k.there }) c.in-Err.ensures.fault c.in-Err.ensures.call

pub returns-then-eq-clause-fetched : goal.returns-then-eq-clause-fetched
returns-then-eq-clause-fetched g c n row named r =
    let a = g.V.Vault.outside c.args.vault.now in
    let k = (seat_at by_texts c.args.sw.now a c.args.at n row c.sound.ensures named r).key in
    touch_arrives c.args.sw.now c.touch_slot.new.self a (g.V.Vault.outside c.touch_slot.new.vault) (ref_at c.args.sw.now c.args.at 2) c.sound-in-Ok-Some.ensures c.in-Ok-Some.ensures.keeps c.in-Ok-Some.ensures.joint.grows c.in-Ok-Some.ensures.only
    (λ to e. (c.touch_slot.ensures.still to e).0) (λ pid f. record { it = k.it; is = subst (λ (m : Reference). seen c.args.sw.now a m k.it) (slot-name c.args.sw.now c.args.at 2) k.there })

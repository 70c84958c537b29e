use Rattle.std.proofs.Common.{arith, ℕ, Option, sym, ◌∙◌, subst, ◌≡◌, refl}
use Rattle.heap_places.specs.swizzle.Heap.{ref_at, reference_to}
use Rattle.heap_places.specs.swizzle.Joint.{name_of}
use Rattle.heap_places.specs.swizzle.Touch.{Denotes}
use Rattle.heap_places.proofs.PlaceLaws.{slot-name}
use Rattle.table_nodes.proofs.NodeLaws.{seat_at, grows_touch, grows_refused}
use Rattle.heap_places.specs.obj_layout.declared.reference.Reference.{Reference}
use Rattle.heap_places.specs.swizzle.Changes.{IsKnown}
use Rattle.table_nodes.specs.Nodes.{seen}
use Rattle.table_nodes.proofs.SeenLaws.{touch_failed_seen}
use Rattle.table_nodes.proofs.BringLaws.{brings_only, brings_same}
use Rattle.table_nodes.proofs.FetchLaws.{touch_arrives}
use Rattle.table_nodes.specs.Faults.{misfit, no_value}
use Rattle.table_nodes.proofs.FaultLaws.{touch_failed}
use Rattle.table_nodes.proofs.SpanLaws.{slot_shown}
use Rattle.table_nodes.proofs.nodes.value.Goals as goal

pub returns-in-Ok-Some-clause-read : goal.returns-in-Ok-Some-clause-read
returns-in-Ok-Some-clause-read g c ks n row named r some =
    let s = seat_at ks c.args.sw.now (g.V.Vault.outside c.args.vault.now) c.args.at n row c.sound.ensures named r in
    let d = subst (λ (t : Option ℕ). Denotes c.touch_slot.new.self t (name_of c.args.sw.now (ref_at c.args.sw.now c.args.at 3))) c.in-Ok-Some.field-0-is c.in-Ok-Some.ensures.target in
    d.1 ∙ (sym (slot-name c.args.sw.now c.args.at 3) ∙ s.value)

pub returns-in-Ok-Some-clause-grows : goal.returns-in-Ok-Some-clause-grows
returns-in-Ok-Some-clause-grows g c = grows_touch c.args.sw.now c.touch_slot.new.self (g.V.Vault.outside c.args.vault.now) (g.V.Vault.outside c.touch_slot.new.vault) _ c.sound.ensures c.sound-in-Ok-Some.ensures c.in-Ok-Some.ensures.call c.in-Ok-Some.ensures.keeps c.in-Ok-Some.ensures.joint

pub returns-in-Ok-None-clause-read : goal.returns-in-Ok-None-clause-read
returns-in-Ok-None-clause-read g c ks n row named r some =
    let s = seat_at ks c.args.sw.now (g.V.Vault.outside c.args.vault.now) c.args.at n row c.sound.ensures named r in
    let nil = subst (λ (t : Option ℕ). Denotes c.touch_slot.new.self t (name_of c.args.sw.now (ref_at c.args.sw.now c.args.at 3))) c.in-Ok-None.field-0-is c.in-Ok-None.ensures.target in
    absurd (some (sym s.value ∙ (slot-name c.args.sw.now c.args.at 3 ∙ nil)))

pub returns-in-Ok-Some-clause-brings : goal.returns-in-Ok-Some-clause-brings
returns-in-Ok-Some-clause-brings g c = brings_only _ _ _ 1 (omega arith) c.in-Ok-Some.ensures.only

pub returns-in-Ok-None-clause-brings : goal.returns-in-Ok-None-clause-brings
returns-in-Ok-None-clause-brings g c = brings_only _ _ _ 1 (omega arith) c.in-Ok-None.ensures.only

pub returns-in-Err-clause-brings : goal.returns-in-Err-clause-brings
returns-in-Err-clause-brings g c = brings_same _ _ 1 c.in-Err.ensures.refused

pub returns-in-Err-clause-still : goal.returns-in-Err-clause-still
returns-in-Err-clause-still g c = grows_refused _ _ _ _ c.sound.ensures c.in-Err.ensures.call c.in-Err.ensures.refused

pub returns-in-Ok-None-clause-fault : goal.returns-in-Ok-None-clause-fault
returns-in-Ok-None-clause-fault g c =
    let node = (grows_touch c.args.sw.now c.touch_slot.new.self (g.V.Vault.outside c.args.vault.now) (g.V.Vault.outside c.touch_slot.new.vault) _ c.sound.ensures c.sound-in-Ok-None.ensures c.in-Ok-None.ensures.call c.in-Ok-None.ensures.keeps c.in-Ok-None.ensures.joint).nodes c.args.at c.requires.node in
    misfit c.args.at _ _ node.held (no_value node (subst (λ (t : Option ℕ). ref_at c.touch_slot.new.self c.args.at 3 ≡ reference_to t) c.in-Ok-None.field-0-is c.in-Ok-None.ensures.local) refl refl) c.damaged.ensures

pub returns-in-Err-clause-fault : goal.returns-in-Err-clause-fault
returns-in-Err-clause-fault g c = touch_failed (g.V.Vault.outside c.args.vault.now) (g.V.Vault.outside c.touch_slot.new.vault) c.args.sw.now c.touch_slot.new.self c.args.at 3 c.in-Err.fault c.requires.node.held (omega (arith, c.requires.node.refs)) c.in-Err.ensures.refused c.in-Err.ensures.fault c.in-Err.ensures.call

pub returns-in-Ok-Some-clause-slot : goal.returns-in-Ok-Some-clause-slot
returns-in-Ok-Some-clause-slot g c = slot_shown c.args.sw.now c.touch_slot.new.self c.args.at 3 c.in-Ok-Some.value c.in-Ok-Some.ensures.keeps c.requires.node.held
    (subst (λ (t : Option ℕ). Denotes c.touch_slot.new.self t (name_of c.args.sw.now (ref_at c.args.sw.now c.args.at 3))) c.in-Ok-Some.field-0-is c.in-Ok-Some.ensures.target)

pub returns-in-Ok-None-clause-still : goal.returns-in-Ok-None-clause-still
returns-in-Ok-None-clause-still g c = grows_touch c.args.sw.now c.touch_slot.new.self (g.V.Vault.outside c.args.vault.now) (g.V.Vault.outside c.touch_slot.new.vault) _ c.sound.ensures c.sound-in-Ok-None.ensures c.in-Ok-None.ensures.call c.in-Ok-None.ensures.keeps c.in-Ok-None.ensures.joint

pub returns-in-Err-clause-read : goal.returns-in-Err-clause-read
returns-in-Err-clause-read g c ks n row named r some known =
    let a = g.V.Vault.outside c.args.vault.now in
    let s = seat_at ks c.args.sw.now a c.args.at n row c.sound.ensures named r in
    let e = sym s.value ∙ slot-name c.args.sw.now c.args.at 3 in
    touch_failed_seen c.args.sw.now c.touch_slot.new.self a (g.V.Vault.outside c.touch_slot.new.vault) (ref_at c.args.sw.now c.args.at 3) c.in-Err.fault c.sound.ensures
    (λ pid f. subst (λ (m : Reference). IsKnown (seen c.args.sw.now a) m) e known) c.in-Err.ensures.fault c.in-Err.ensures.call

pub returns-in-Ok-Some-clause-fetched : goal.returns-in-Ok-Some-clause-fetched
returns-in-Ok-Some-clause-fetched g c ks n row named r known =
    let a = g.V.Vault.outside c.args.vault.now in
    let s = seat_at ks c.args.sw.now a c.args.at n row c.sound.ensures named r in
    let e = sym s.value ∙ slot-name c.args.sw.now c.args.at 3 in
    touch_arrives c.args.sw.now c.touch_slot.new.self a (g.V.Vault.outside c.touch_slot.new.vault) (ref_at c.args.sw.now c.args.at 3) c.sound-in-Ok-Some.ensures c.in-Ok-Some.ensures.keeps c.in-Ok-Some.ensures.joint.grows c.in-Ok-Some.ensures.only
    (λ to f. (c.touch_slot.ensures.still to f).0) (λ pid f. subst (λ (m : Reference). IsKnown (seen c.args.sw.now a) m) e known)

use Rattle.std.proofs.Common.{None, Ok, refl, sym, ap, ◌∙◌, rules}
use Rattle.joint_ops.specs.obj_layout.Kind.{kind_number}
use Rattle.joint_ops.specs.obj_layout.declared.header.Header.{Header}
use Rattle.joint_ops.proofs.of_swizzle.ReadingLaws.{leaves-touch, fails-touch}
use Rattle.joint_ops.proofs.of_heap_places.PlaceLaws.{fails-damage}
use Rattle.db_dir.proofs.EntryLaws.{entry-there, entry-reads, entry-other, entry-nil, entry-unfetched}
use Rattle.joint_ops.proofs.of_heap_places.PlaceLaws.{reads-slot}
use Rattle.db_dir.proofs.GainLaws.{slot-gains}
use Rattle.db_dir.proofs.entry.touch_entry.Goals as goal

pub returns-then-is_kind-clause-touched : goal.returns-then-is_kind-clause-touched
returns-then-is_kind-clause-touched g c =
    let e = c.in-Ok-Some.ensures in
    entry-there c.args.sw.now c.touch_slot.new.self c.args.object c.args.slot c.in-Ok-Some.to c.args.kind c.in-Ok-Some.field-0 c.in-Ok-Some.field-0-is e.target
    (sym c.is_kind.ensures ∙ c.if-is_kind.true)

pub returns-then-is_kind-clause-reads : goal.returns-then-is_kind-clause-reads
returns-then-is_kind-clause-reads g c =
    let e = c.in-Ok-Some.ensures in
    entry-reads c.args.sw.now c.touch_slot.new.self (g.V.Vault.outside c.args.vault.now) (g.V.Vault.outside c.touch_slot.new.vault) c.args.object c.args.slot
    c.in-Ok-Some.field-0 e.keeps e.joint (λ near. (e.near near).0) e.only e.call

pub returns-else-is_kind-clause-touched : goal.returns-else-is_kind-clause-touched
returns-else-is_kind-clause-touched g c =
    let e = c.in-Ok-Some.ensures in
    entry-other c.args.sw.now c.touch_slot.new.self (g.V.Vault.outside c.args.vault.now) (g.V.Vault.outside c.touch_slot.new.vault) c.args.object c.args.slot
    c.in-Ok-Some.to c.number-number.result (kind_number c.args.kind) c.args.kind c.in-Ok-Some.field-0 c.damaged.result c.in-Ok-Some.field-0-is e.target e.keeps e.joint
    (sym c.is_kind.ensures ∙ c.if-is_kind.false) (c.number-number.ensures ∙ ap (λ (h : Header). kind_number h.kind) c.header.ensures.value) refl
    (search rules)

pub returns-else-is_kind-clause-fails : goal.returns-else-is_kind-clause-fails
returns-else-is_kind-clause-fails g c =
    fails-damage (g.V.Vault.outside c.args.vault.now) (g.V.Vault.outside c.touch_slot.new.vault) _ _ _ c.damaged.result
    (leaves-touch c.args.sw.now c.touch_slot.new.self (g.V.Vault.outside c.args.vault.now) (g.V.Vault.outside c.touch_slot.new.vault) (Ok c.in-Ok-Some.field-0) c.in-Ok-Some.ensures.call)
    c.damaged.ensures

pub returns-in-Ok-None-clause-touched : goal.returns-in-Ok-None-clause-touched
returns-in-Ok-None-clause-touched g c =
    let e = c.in-Ok-None.ensures in
    entry-nil c.args.sw.now c.touch_slot.new.self (g.V.Vault.outside c.args.vault.now) (g.V.Vault.outside c.touch_slot.new.vault) c.args.object c.args.slot
    (kind_number c.args.kind) c.args.kind c.in-Ok-None.field-0 c.damaged-in-Ok-None.result c.in-Ok-None.field-0-is e.target (λ r. (c.touch_slot.ensures.still None r).0) refl
    (search rules)

pub returns-in-Ok-None-clause-fails : goal.returns-in-Ok-None-clause-fails
returns-in-Ok-None-clause-fails g c =
    fails-damage (g.V.Vault.outside c.args.vault.now) (g.V.Vault.outside c.touch_slot.new.vault) _ _ _ c.damaged-in-Ok-None.result
    (leaves-touch c.args.sw.now c.touch_slot.new.self (g.V.Vault.outside c.args.vault.now) (g.V.Vault.outside c.touch_slot.new.vault) (Ok c.in-Ok-None.field-0) c.in-Ok-None.ensures.call)
    c.damaged-in-Ok-None.ensures

pub returns-in-Err-clause-touched : goal.returns-in-Err-clause-touched
returns-in-Err-clause-touched g c =
    entry-unfetched c.args.sw.now c.touch_slot.new.self (g.V.Vault.outside c.args.vault.now) (g.V.Vault.outside c.touch_slot.new.vault) c.args.object c.args.slot
    c.args.kind c.in-Err.fault c.sound.ensures c.requires.held c.in-Err.ensures.fault

pub returns-in-Err-clause-fails : goal.returns-in-Err-clause-fails
returns-in-Err-clause-fails g c =
    fails-touch c.args.sw.now c.touch_slot.new.self (g.V.Vault.outside c.args.vault.now) (g.V.Vault.outside c.touch_slot.new.vault) c.in-Err.fault c.in-Err.ensures.call

pub returns-then-is_kind-clause-gains : goal.returns-then-is_kind-clause-gains
returns-then-is_kind-clause-gains g c =
    let e = c.in-Ok-Some.ensures in
    let old = c.args.sw.now in
    let new = c.touch_slot.new.self in
    let a = g.V.Vault.outside c.args.vault.now in
    let b = g.V.Vault.outside c.touch_slot.new.vault in
    slot-gains old new a b c.args.object c.args.slot c.sound.ensures c.sound-in-Ok-Some.ensures
    (reads-slot old new a b c.args.object c.args.slot c.in-Ok-Some.field-0 e.keeps e.joint (λ near. (e.near near).0) e.only e.call)

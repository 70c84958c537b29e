use Rattle.std.proofs.Common.{ℕ, None, sym, ap, ◌∙◌}
use Rattle.heap_texts.specs.obj_layout.Kind.{kind_number}
use Rattle.heap_texts.specs.obj_layout.declared.header.Header.{Header}
use Rattle.heap_texts.specs.obj_layout.declared.vault.VaultFault.TheVariants.{Damaged}
use Rattle.heap_texts.specs.swizzle.declared.fault.SwizzleFault.TheVariants.{Vault}
use Rattle.heap_texts.specs.swizzle.Heap.{header_at}
use Rattle.heap_places.proofs.TouchedLaws.{text-none, text-there, text-other, text-nil}
use Rattle.heap_places.proofs.texts.first_text.Goals as goal

pub returns-then-refs-eq0-clause-touched : goal.returns-then-refs-eq0-clause-touched
returns-then-refs-eq0-clause-touched g c =
    text-none c.args.sw.now (g.V.Vault.outside c.args.vault.now) c.args.object c.damaged.result c.sound.ensures c.requires.held
    (sym c.refs.ensures ∙ c.if-refs-eq0.true) c.damaged.ensures

pub returns-then-is_kind-clause-touched : goal.returns-then-is_kind-clause-touched
returns-then-is_kind-clause-touched g c =
    let e = c.in-Ok-Some.ensures in
    text-there c.args.sw.now c.touch_slot.new.self (g.V.Vault.outside c.args.vault.now) (g.V.Vault.outside c.touch_slot.new.vault) c.args.object
    c.in-Ok-Some.text c.in-Ok-Some.field-0
    c.in-Ok-Some.field-0-is e.target e.keeps e.joint (λ near. (e.near near).0) e.only e.call (sym c.is_kind.ensures ∙ c.if-is_kind.true)

pub returns-else-is_kind-clause-touched : goal.returns-else-is_kind-clause-touched
returns-else-is_kind-clause-touched g c =
    let e = c.in-Ok-Some.ensures in
    text-other c.args.sw.now c.touch_slot.new.self (g.V.Vault.outside c.args.vault.now) (g.V.Vault.outside c.touch_slot.new.vault) c.args.object
    c.in-Ok-Some.text c.number-number.result c.in-Ok-Some.field-0
    c.damaged-in-Ok-Some.result c.in-Ok-Some.field-0-is e.target e.keeps e.joint e.call (sym c.is_kind.ensures ∙ c.if-is_kind.false)
    (c.number-number.ensures ∙ ap (λ (h : Header). kind_number h.kind) c.header.ensures.value)
    (c.damaged-in-Ok-Some.ensures ∙ ap (λ (n : ℕ). Vault (Damaged (header_at c.touch_slot.new.self c.in-Ok-Some.text).pid n 1)) c.from.ensures)

pub returns-in-Ok-None-clause-touched : goal.returns-in-Ok-None-clause-touched
returns-in-Ok-None-clause-touched g c =
    let e = c.in-Ok-None.ensures in
    text-nil c.args.sw.now c.touch_slot.new.self (g.V.Vault.outside c.args.vault.now) (g.V.Vault.outside c.touch_slot.new.vault) c.args.object
    c.in-Ok-None.field-0 c.damaged-in-Ok-None.result
    c.in-Ok-None.field-0-is e.target e.call (λ r. (c.touch_slot.ensures.still None r).0) c.damaged-in-Ok-None.ensures

use Rattle.std.proofs.Common.{ℕ, sym, ap, ◌∙◌, arith}
use Rattle.closures.specs.obj_layout.declared.vault.VaultFault.TheVariants.{Damaged}
use Rattle.closures.specs.swizzle.declared.fault.SwizzleFault.TheVariants.{Vault}
use Rattle.closures.specs.swizzle.Heap.{header_at}
use Rattle.scopes.proofs.WayLaws.{kind-damaged, refs-damaged, not-damaged}
use Rattle.scopes.proofs.way.test_way.Goals as goal

pub returns-then-not-is_kind : goal.returns-then-not-is_kind
returns-then-not-is_kind c =
    kind-damaged c.args.sw.now c.args.object c.other_kind.result (sym c.is_kind.ensures ∙ c.if-not-is_kind.true) c.other_kind.ensures

pub returns-then-refs-lt2 : goal.returns-then-refs-lt2
returns-then-refs-lt2 c =
    refs-damaged c.args.sw.now c.args.object c.refs-refs.result c.damaged.result c.sound.ensures c.requires
    (sym c.is_kind.ensures ∙ c.if-not-is_kind.false) c.refs-refs.ensures c.if-refs-lt2.true
    (c.damaged.ensures ∙ ap (λ (n : ℕ). Vault (Damaged (header_at c.args.sw.now c.args.object).pid n 2)) c.from.ensures)

pub returns : goal.returns
returns c =
    not-damaged c.args.sw.now c.args.object c.refs-refs.result c.sound.ensures c.requires
    (sym c.is_kind.ensures ∙ c.if-not-is_kind.false) c.refs-refs.ensures
    (omega (arith, c.if-refs-lt2.false))

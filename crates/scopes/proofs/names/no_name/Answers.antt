use Rattle.std.proofs.Common.{ℕ, ◌+◌, List, length, ap, ◌∙◌}
use Rattle.closures.specs.obj_layout.declared.vault.VaultFault.TheVariants.{Damaged}
use Rattle.closures.specs.swizzle.declared.fault.SwizzleFault.TheVariants.{Vault}
use Rattle.closures.specs.swizzle.Heap.{header_at}
use Rattle.closures.specs.text_forms.Forms.{forms_of}
use Rattle.scopes.proofs.NameLaws.{names-counted}
use Rattle.scopes.proofs.names.no_name.Goals as goal

pub returns : goal.returns
returns c =
    let pid = (header_at c.args.sw.now c.args.scope).pid in
    c.damaged.ensures
    ∙ ap (λ (n : ℕ). Vault (Damaged pid n (c.from-2.result + c.from-3.result))) c.from.ensures
    ∙ ap (λ (n : ℕ). Vault (Damaged pid c.args.name (n + c.from-3.result))) c.from-2.ensures
    ∙ ap (λ (n : ℕ). Vault (Damaged pid c.args.name (c.count_places-rows.result.refs + n))) c.from-3.ensures
    ∙ ap (λ (n : ℕ). Vault (Damaged pid c.args.name n)) (names-counted c.text.result.now c.count_places-rows.result c.count_places-rows.ensures)
    ∙ ap (λ (t : List ℕ). Vault (Damaged pid c.args.name (length (forms_of t)))) c.text.ensures.value

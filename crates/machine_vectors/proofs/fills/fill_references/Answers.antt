use Rattle.std.proofs.Common.{◌≡◌, Some, true, false, rules}
use Rattle.machine_core.specs.text_forms.Forms.{is_number_form}
use Rattle.machine_core.specs.ps_stepping.Steps.{pop_ref}
use Rattle.machine_core.specs.ps_stepping.Objects.{when_reference}
use Rattle.machine_vectors.specs.inside.Making.{filled}
use Rattle.machine_vectors.proofs.ElementReads.{no-reference-row}
use Rattle.machine_vectors.proofs.Types.{type-form, type-stuck}
use Rattle.machine_vectors.proofs.VectorFills.{reference-filled}
use Rattle.machine_vectors.proofs.fills.fill_references.Goals as goal

pub returns-then-is_number-clause-makes : goal.returns-then-is_number-clause-makes
returns-then-is_number-clause-makes g c =
    let v = c.args.vault.now in
    let f = c.element_form-form.result in
    let row : is_number_form f ≡ true = search rules in
    type-stuck (g.V.Vault.outside v) c.args.m.now c.args.ty f c.text_bytes.result.now c.element_form-form.ensures (c.text_bytes.ensures.value v)
    (λ k. when_reference (Some k)) (λ text e. pop_ref e (λ w d. filled c.args.line text w d)) c.requires.sound c.requires.names (no-reference-row f row)

pub returns-clause-makes : goal.returns-clause-makes
returns-clause-makes g c =
    let v = c.args.vault.now in
    let out = g.V.Vault.outside v in
    let f = c.element_form-form.result in
    let row : is_number_form f ≡ false = search rules in
    let p = c.in-Some.ensures in
    reference-filled out c.args.ty c.args.line c.args.m.now c.pop_any.new.m p.leaves f
    (type-form out c.args.m.now c.args.ty f c.text_bytes.result.now c.element_form-form.ensures (c.text_bytes.ensures.value v)) row c.in-Some.to (p.pops v)
    c.fill.new.m c.fill.result c.fill.ensures.makes

use Rattle.std.proofs.Common.{◌≡◌, ℤ, Some, true, false, w32, to_z, of_z, rules, subst}
use Rattle.machine_core.specs.text_forms.Forms.{element_of, is_number_form}
use Rattle.machine_core.specs.ps_heap.Values.{Num}
use Rattle.machine_core.specs.ps_heap.Objects.{kept_as}
use Rattle.machine_core.specs.ps_stepping.Steps.{pop_num}
use Rattle.machine_core.specs.ps_stepping.Objects.{when_number}
use Rattle.machine_core.specs.joint_ops.World.{IsForIn}
use Rattle.machine_vectors.specs.inside.Making.{filled}
use Rattle.machine_vectors.proofs.ElementReads.{no-number-row}
use Rattle.machine_vectors.proofs.Types.{type-form, type-stuck}
use Rattle.machine_vectors.proofs.VectorFills.{number-filled}
use Rattle.machine_vectors.proofs.fills.fill_numbers.Goals as goal

pub returns-then-not-is_number-clause-makes : goal.returns-then-not-is_number-clause-makes
returns-then-not-is_number-clause-makes g c =
    let v = c.args.vault.now in
    let f = c.element_form-form.result in
    let row : is_number_form f ≡ false = search rules in
    type-stuck (g.V.Vault.outside v) c.args.m.now c.args.ty f c.text_bytes.result.now c.element_form-form.ensures (c.text_bytes.ensures.value v)
    (λ k. when_number (Some k)) (λ text e. pop_num e (λ z d. filled c.args.line text (kept_as (Some (element_of text)) (Num z)) d)) c.requires.sound
    c.requires.names (no-number-row f row)

pub returns-clause-makes : goal.returns-clause-makes
returns-clause-makes g c =
    let v = c.args.vault.now in
    let out = g.V.Vault.outside v in
    let f = c.element_form-form.result in
    let row : is_number_form f ≡ true = search rules in
    let p = c.in-Some.ensures in
    let z = c.in-Some.z in
    let same : to_z w32 (of_z w32 z) ≡ z = search rules in
    let to = c.kept_as-to in
    number-filled out c.args.ty c.args.line c.args.m.now c.pop_int.new.m p.leaves f
    (type-form out c.args.m.now c.args.ty f c.text_bytes.result.now c.element_form-form.ensures (c.text_bytes.ensures.value v)) row z (p.pops v) to.result
    (to.ensures.form row)
    (λ here names. subst (λ (n : ℤ). IsForIn here out names to.result (kept_as (Some f) (Num n))) same (to.ensures.denotes v here names row)) c.fill.new.m c.fill.result
    c.fill.ensures.makes

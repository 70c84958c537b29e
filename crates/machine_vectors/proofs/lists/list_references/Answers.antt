use Rattle.std.proofs.Common.{◌≡◌, Bool, [], Some, true, false, rules, subst}
use Rattle.machine_core.specs.text_forms.Forms.{is_number_form}
use Rattle.machine_core.specs.ps_stepping.Objects.{pop_refs, when_reference}
use Rattle.machine_vectors.specs.inside.Making.{listed}
use Rattle.machine_vectors.specs.inside.Taking.{TakesReferences}
use Rattle.machine_vectors.proofs.ElementReads.{no-reference-row, reference-form}
use Rattle.machine_vectors.proofs.Types.{type-form, type-stuck}
use Rattle.machine_vectors.proofs.VectorLists.{references-made}
use Rattle.machine_vectors.proofs.lists.list_references.Goals as goal

pub returns-then-is_number-clause-makes : goal.returns-then-is_number-clause-makes
returns-then-is_number-clause-makes g c =
    let v = c.args.vault.now in
    let f = c.element_form-form.result in
    let row : is_number_form f ≡ true = search rules in
    type-stuck (g.V.Vault.outside v) c.args.m.now c.args.ty f c.text_bytes.result.now c.element_form-form.ensures (c.text_bytes.ensures.value v)
    (λ k. when_reference (Some k)) (λ text e. pop_refs c.args.n [] e (λ vs d. listed c.args.line text vs d)) c.requires.sound c.requires.names
    (no-reference-row f row)

pub returns-clause-makes : goal.returns-clause-makes
returns-clause-makes g c =
    let v = c.args.vault.now in
    let out = g.V.Vault.outside v in
    let m = c.args.m.now in
    let f = c.element_form-form.result in
    let row : is_number_form f ≡ false = search rules in
    let take = c.take_refs in
    let all : take.result ≡ true = search rules in
    references-made out c.args.ty c.args.n c.args.line m take.new.m take.ensures.leaves c.requires.names f
    (type-form out m c.args.ty f c.text_bytes.result.now c.element_form-form.ensures (c.text_bytes.ensures.value v)) (reference-form f row)
    (subst (λ (b : Bool). TakesReferences out c.args.n m take.new.m b) all (take.ensures.takes v)) c.list_values.new.m c.list_values.result c.list_values.ensures.makes

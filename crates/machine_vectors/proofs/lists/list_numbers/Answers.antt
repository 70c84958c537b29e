use Rattle.std.proofs.Common.{◌≡◌, Bool, [], Some, true, false, rules, subst}
use Rattle.machine_core.specs.text_forms.Forms.{element_of, is_number_form}
use Rattle.machine_core.specs.ps_stepping.Objects.{pop_nums, when_number}
use Rattle.machine_vectors.specs.inside.Making.{listed}
use Rattle.machine_vectors.specs.inside.Taking.{TakesNumbers, kept_values}
use Rattle.machine_vectors.proofs.ElementReads.{no-number-row}
use Rattle.machine_vectors.proofs.Types.{type-form, type-stuck}
use Rattle.machine_vectors.proofs.VectorLists.{numbers-made}
use Rattle.machine_vectors.proofs.lists.list_numbers.Goals as goal

pub returns-then-not-is_number-clause-makes : goal.returns-then-not-is_number-clause-makes
returns-then-not-is_number-clause-makes g c =
    let v = c.args.vault.now in
    let f = c.element_form-form.result in
    let row : is_number_form f ≡ false = search rules in
    type-stuck (g.V.Vault.outside v) c.args.m.now c.args.ty f c.text_bytes.result.now c.element_form-form.ensures (c.text_bytes.ensures.value v)
    (λ k. when_number (Some k)) (λ text e. pop_nums c.args.n [] e (λ zs d. listed c.args.line text (kept_values (element_of text) zs) d)) c.requires.sound
    c.requires.names (no-number-row f row)

pub returns-clause-makes : goal.returns-clause-makes
returns-clause-makes g c =
    let v = c.args.vault.now in
    let out = g.V.Vault.outside v in
    let m = c.args.m.now in
    let f = c.element_form-form.result in
    let row : is_number_form f ≡ true = search rules in
    let take = c.take_nums in
    let all : take.result ≡ true = search rules in
    numbers-made out c.args.ty c.args.n c.args.line m take.new.m take.ensures.leaves c.requires.names f
    (type-form out m c.args.ty f c.text_bytes.result.now c.element_form-form.ensures (c.text_bytes.ensures.value v)) row
    (subst (λ (b : Bool). TakesNumbers out f c.args.n m take.new.m b) all (take.ensures.takes v)) c.list_values.new.m c.list_values.result c.list_values.ensures.makes

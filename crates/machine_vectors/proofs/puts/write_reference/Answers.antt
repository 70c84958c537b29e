use Rattle.std.proofs.Common.{◌≡◌, ℤ, false, w32, rules, subst}
use Rattle.std.proofs.lemmas.Int.{to_z-of_z}
use Rattle.machine_core.specs.text_forms.Forms.{is_number_form}
use Rattle.machine_operands.specs.Popping.{anything}
use Rattle.machine_vectors.specs.inside.Elements.{PutsReference}
use Rattle.machine_vectors.proofs.ElementPuts.{reference-put-known}
use Rattle.machine_vectors.proofs.puts.write_reference.Goals as goal

pub returns-in-Some-Reference-clause-puts : goal.returns-in-Some-Reference-clause-puts
returns-in-Some-Reference-clause-puts g c =
    let v = c.args.vault.now in
    let put = c.put_reference in
    let before = g.V.Vault.outside v in
    let after = g.V.Vault.outside put.new.vault in
    let m = c.args.m.now in
    let f = c.in-Some-Reference.field-0 in
    let row : is_number_form f ≡ false = search rules in
    subst (λ (i : ℤ). PutsReference before after anything c.args.line i c.args.to c.args.vector m put.new.m put.result) (to_z-of_z w32 c.args.at c.ranges.at)
    (reference-put-known before after m put.new.m put.result c.args.vector c.args.line _ f (c.in-Some-Reference.ensures v) c.args.to row put.ensures.puts)

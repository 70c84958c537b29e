use Rattle.std.proofs.Common.{◌≡◌, ℤ, true, w32, to_z, of_z, rules, subst}
use Rattle.std.proofs.lemmas.Int.{to_z-of_z}
use Rattle.machine_core.specs.text_forms.Forms.{is_number_form}
use Rattle.machine_operands.specs.Popping.{anything}
use Rattle.machine_vectors.specs.inside.Elements.{TakesVector, number_put}
use Rattle.machine_vectors.proofs.ElementPuts.{number-put-known}
use Rattle.machine_vectors.proofs.puts.write_number.Goals as goal

pub returns-in-Some-clause-puts : goal.returns-in-Some-clause-puts
returns-in-Some-clause-puts g c =
    let v = c.args.vault.now in
    let put = c.put_number in
    let before = g.V.Vault.outside v in
    let after = g.V.Vault.outside put.new.vault in
    let m = c.args.m.now in
    let f = c.in-Some.form in
    let z = to_z w32 (of_z w32 c.args.z) in
    let row : is_number_form f ≡ true = search rules in
    subst (λ (y : ℤ). TakesVector before after anything (number_put c.args.line c.args.at y) c.args.vector m put.new.m put.result) (to_z-of_z w32 c.args.z c.ranges.z)
    (subst (λ (i : ℤ). TakesVector before after anything (number_put c.args.line i z) c.args.vector m put.new.m put.result) (to_z-of_z w32 c.args.at c.ranges.at)
    (number-put-known before after m put.new.m put.result c.args.vector c.args.line _ f (c.in-Some.ensures v) z row put.ensures.puts))

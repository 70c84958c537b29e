use Rattle.std.proofs.Common.{◌≡◌, ℤ, true, false, w32, rules, subst}
use Rattle.std.specs.Prelude.{Result, Err}
use Rattle.std.proofs.lemmas.Int.{to_z-of_z}
use Rattle.machine_core.specs.text_forms.Forms.{is_number_form}
use Rattle.machine_core.specs.text_forms.declared.forms.Form.{Form}
use Rattle.machine_core.specs.swizzle.Touch.{Keeps}
use Rattle.machine_core.specs.heap_ops.Outcomes.{UnlessFault}
use Rattle.machine_core.specs.heap_texts.declared.fault.OpFault.{OpFault}
use Rattle.machine_core.specs.heap_texts.declared.fault.OpFault.TheVariants as op
use Rattle.machine_core.proofs.of_swizzle.ReadingLaws.{leaves-then}
use Rattle.machine_core.proofs.Failing.{failing-behind}
use Rattle.machine_operands.specs.Popping.{anything}
use Rattle.machine_operands.proofs.Reading.{names-kept}
use Rattle.machine_vectors.specs.inside.Elements.{PutsReference}
use Rattle.machine_vectors.proofs.ElementPuts.{Told, reference-never, reference-placed, reference-refused, reference-untold}
use Rattle.machine_vectors.proofs.puts.place_reference.Goals as goal

pub put_reference-requires-clause-names : goal.put_reference-requires-clause-names
put_reference-requires-clause-names g c = names-kept c.args.m.now c.element_form-told.new.self c.in-Ok.ensures.keeps c.requires.names

pub refuse-requires-clause-names : goal.refuse-requires-clause-names
refuse-requires-clause-names g c = names-kept c.args.m.now c.element_form-told.new.self c.in-Ok.ensures.keeps c.requires.names

pub returns-else-is_number-clause-puts : goal.returns-else-is_number-clause-puts
returns-else-is_number-clause-puts g c =
    let told = c.element_form-told in
    let put = c.put_reference in
    let before = g.V.Vault.outside c.args.vault.now in
    let mid = g.V.Vault.outside told.new.vault in
    let after = g.V.Vault.outside put.new.vault in
    let m = c.args.m.now in
    let given = c.in-Ok.ensures in
    let f = c.in-Ok.form in
    let row : is_number_form f ≡ false = search rules in
    subst (λ (i : ℤ). PutsReference before after anything c.args.line i c.args.to c.args.vector m put.new.m put.result) (to_z-of_z w32 c.args.at c.ranges.at)
    (reference-placed before m c.args.vector c.args.line _ mid after told.new.self put.new.m put.result given.leaves given.keeps f given.got c.args.to row put.ensures.puts)

pub returns-else-is_number-clause-fails : goal.returns-else-is_number-clause-fails
returns-else-is_number-clause-fails g c =
    let told = c.element_form-told in
    let put = c.put_reference in
    failing-behind (g.V.Vault.outside c.args.vault.now) (g.V.Vault.outside told.new.vault) (g.V.Vault.outside put.new.vault) put.result put.new.m
    c.in-Ok.ensures.leaves put.ensures.fails

pub returns-else-is_number-clause-leaves : goal.returns-else-is_number-clause-leaves
returns-else-is_number-clause-leaves g c =
    let told = c.element_form-told in
    let put = c.put_reference in
    leaves-then (g.V.Vault.outside c.args.vault.now) (g.V.Vault.outside told.new.vault) (g.V.Vault.outside put.new.vault) c.in-Ok.ensures.leaves put.ensures.leaves

pub returns-then-is_number-clause-puts : goal.returns-then-is_number-clause-puts
returns-then-is_number-clause-puts g c =
    let told = c.element_form-told in
    let refuse = c.refuse in
    let before = g.V.Vault.outside c.args.vault.now in
    let mid = g.V.Vault.outside told.new.vault in
    let after = g.V.Vault.outside refuse.new.vault in
    let m = c.args.m.now in
    let given = c.in-Ok.ensures in
    let f = c.in-Ok.form in
    let row : is_number_form f ≡ true = search rules in
    subst (λ (i : ℤ). PutsReference before after anything c.args.line i c.args.to c.args.vector m refuse.new.m refuse.result)
    (to_z-of_z w32 c.args.at c.ranges.at)
    (reference-refused before m c.args.vector c.args.line _ mid after told.new.self refuse.new.m refuse.result given.leaves given.keeps f given.got
    refuse.ensures.refuses c.args.to row)

pub returns-then-is_number-clause-fails : goal.returns-then-is_number-clause-fails
returns-then-is_number-clause-fails g c =
    let told = c.element_form-told in
    let refuse = c.refuse in
    failing-behind (g.V.Vault.outside c.args.vault.now) (g.V.Vault.outside told.new.vault) (g.V.Vault.outside refuse.new.vault) refuse.result refuse.new.m
    c.in-Ok.ensures.leaves refuse.ensures.fails

pub returns-then-is_number-clause-leaves : goal.returns-then-is_number-clause-leaves
returns-then-is_number-clause-leaves g c =
    let told = c.element_form-told in
    let refuse = c.refuse in
    leaves-then (g.V.Vault.outside c.args.vault.now) (g.V.Vault.outside told.new.vault) (g.V.Vault.outside refuse.new.vault) c.in-Ok.ensures.leaves
    refuse.ensures.leaves

pub returns-in-Err-Swizzle-clause-puts : goal.returns-in-Err-Swizzle-clause-puts
returns-in-Err-Swizzle-clause-puts g c =
    let told = c.element_form-told in
    let v = c.args.vault.now in
    let w = told.new.vault in
    let before = g.V.Vault.outside v in
    let after = g.V.Vault.outside w in
    let m = c.args.m.now in
    let broke = c.broke in
    let fault = c.in-Err-Swizzle.fault in
    let is : told.result ≡ Err (op.Swizzle fault) = search rules in
    reference-untold before m c.args.vector c.args.line c.args.at after told.new.self broke.new.m broke.result fault broke.ensures.answer
    (subst (Told before m c.args.vector after told.new.self) is told.ensures.got) (broke.ensures.breaks v w) c.args.to

pub returns-in-Err-Trap-clause-puts : goal.returns-in-Err-Trap-clause-puts
returns-in-Err-Trap-clause-puts g c =
    let told = c.element_form-told in
    let before = g.V.Vault.outside c.args.vault.now in
    let after = g.V.Vault.outside told.new.vault in
    let m = c.args.m.now in
    let now = told.new.self in
    let trap = c.in-Err-Trap.field-0-0 in
    let is : told.result ≡ Err (op.Trap trap) = search rules in
    reference-never before m c.args.vector c.args.line c.args.at after now trap (subst (Told before m c.args.vector after now) is told.ensures.got) c.requires.sound
    c.requires.names (subst (λ (r : Result Form OpFault). UnlessFault r (Keeps m.objects now)) is told.ensures.keeps) c.args.to

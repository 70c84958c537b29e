use mir.Syntax.{w32}
use mir.Val.{to_z, of_z}
use Rattle.std.proofs.Common.{◌≡◌, ℤ, rules, subst}
use Rattle.machine_core.specs.heap_places.declared.value.Value.TheVariants.{Num}
use Rattle.machine_structures.specs.inside.Fields.{PutsField}
use Rattle.machine_structures.proofs.FieldWrites.{number-set}
use Rattle.machine_structures.proofs.fields.set_field_num.Goals as goal

pub returns-clause-takes : goal.returns-clause-takes
returns-clause-takes g c =
    let v = c.args.vault.now in
    let before = g.V.Vault.outside v in
    let after = g.V.Vault.outside c.put_field.new.vault in
    let p = c.in-Some.ensures in
    let m = c.args.m.now in
    let mid = c.pop_int.new.m in
    let did = c.put_field in
    let same : to_z w32 (of_z w32 c.in-Some.z) ≡ c.in-Some.z = search rules in
    number-set before after c.args.k c.args.n c.args.line m mid p.leaves c.in-Some.z did.new.m did.result (p.pops v)
    (subst (λ (z : ℤ). PutsField before after (record { code = m.code; constant = c.args.k; number = c.args.n }) (Num z) c.args.line mid did.new.m did.result)
    same
    did.ensures.puts)

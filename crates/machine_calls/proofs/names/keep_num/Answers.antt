use mir.Syntax.{w32}
use mir.Val.{to_z, of_z}
use Rattle.std.proofs.Common.{◌≡◌, ℤ, rules, subst}
use Rattle.machine_core.specs.heap_places.declared.value.Value.TheVariants.{Num}
use Rattle.machine_calls.specs.inside.Names.{WritesName}
use Rattle.machine_calls.proofs.KeptNames.{number-put}
use Rattle.machine_calls.proofs.names.keep_num.Goals as goal

pub returns-in-Some-clause-takes : goal.returns-in-Some-clause-takes
returns-in-Some-clause-takes g c =
    let v = c.args.vault.now in
    let before = g.V.Vault.outside v in
    let after = g.V.Vault.outside c.write_name.new.vault in
    let same : to_z w32 (of_z w32 c.in-Some.z) ≡ c.in-Some.z = search rules in
    number-put before after c.args.up c.args.name c.args.m.now c.pop_num.new.m c.write_name.new.m c.write_name.result c.in-Some.ensures.leaves c.in-Some.z
    (c.in-Some.ensures.taken v)
    (subst (λ (z : ℤ). WritesName before after c.args.up c.args.name (Num z) c.pop_num.new.m c.write_name.new.m c.write_name.result) same
    c.write_name.ensures.writes)

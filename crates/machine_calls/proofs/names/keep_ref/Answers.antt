use Rattle.std.proofs.Common.{ℕ, Option, subst}
use Rattle.machine_core.specs.heap_places.declared.value.Value.TheVariants.{Ref}
use Rattle.machine_calls.specs.inside.Names.{WritesName}
use Rattle.machine_calls.proofs.KeptNames.{reference-put}
use Rattle.machine_calls.proofs.names.keep_ref.Goals as goal

pub returns-in-Some-clause-takes : goal.returns-in-Some-clause-takes
returns-in-Some-clause-takes g c =
    let v = c.args.vault.now in
    let before = g.V.Vault.outside v in
    let after = g.V.Vault.outside c.write_name.new.vault in
    reference-put before after c.args.up c.args.name c.args.m.now c.pop_ref.new.m c.write_name.new.m c.write_name.result c.in-Some.ensures.leaves
    c.in-Some.word (c.in-Some.ensures.taken v)
    (subst (λ (to : Option ℕ). WritesName before after c.args.up c.args.name (Ref to) c.pop_ref.new.m c.write_name.new.m c.write_name.result) c.object.ensures
    c.write_name.ensures.writes)

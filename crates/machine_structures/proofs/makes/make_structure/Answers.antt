use Rattle.std.proofs.Common.{Option, subst}
use Rattle.std.specs.Prelude.{Ok}
use Rattle.machine_core.proofs.Failing.{failing-behind}
use Rattle.machine_core.specs.objects.declared.class_rows.ClassRows.{ClassRows}
use Rattle.machine_operands.proofs.Reading.{names-kept}
use Rattle.machine_structures.proofs.Making.{Told, class-made, made-later}
use Rattle.machine_structures.proofs.makes.make_structure.Goals as goal

pub make_of_rows-requires-clause-names : goal.make_of_rows-requires-clause-names
make_of_rows-requires-clause-names g c = names-kept c.args.m.now c.class_rows-got.new.self c.in-Ok.ensures.keeps c.requires.names

pub make_by_text-requires-clause-names : goal.make_by_text-requires-clause-names
make_by_text-requires-clause-names g c = names-kept c.args.m.now c.class_rows-got.new.self c.in-Ok.ensures.keeps c.requires.names

pub returns-in-Some-clause-takes : goal.returns-in-Some-clause-takes
returns-in-Some-clause-takes g c =
    let before = g.V.Vault.outside c.args.vault.now in
    let w = c.class_rows-got.new.vault in
    let mid = g.V.Vault.outside w in
    let m = c.args.m.now in
    let now = c.class_rows-got.new.self in
    let got = c.in-Ok.ensures in
    class-made before mid mid c.args.k m now c.in-Some.rows c.make_of_rows.new.m c.make_of_rows.result got.leaves got.keeps got.world
    (subst (λ (o : Option ClassRows). Told before mid mid c.args.k m now (Ok o)) c.in-Some.is got.given) (c.make_of_rows.ensures.takes w)

pub returns-in-Some-clause-fails : goal.returns-in-Some-clause-fails
returns-in-Some-clause-fails g c =
    let before = g.V.Vault.outside c.args.vault.now in
    let w = c.class_rows-got.new.vault in
    let mid = g.V.Vault.outside w in
    failing-behind before mid mid c.make_of_rows.result c.make_of_rows.new.m c.in-Ok.ensures.leaves (c.make_of_rows.ensures.fails w)

pub returns-in-None-clause-takes : goal.returns-in-None-clause-takes
returns-in-None-clause-takes g c =
    let before = g.V.Vault.outside c.args.vault.now in
    let mid = g.V.Vault.outside c.class_rows-got.new.vault in
    let after = g.V.Vault.outside c.make_by_text.new.vault in
    let got = c.in-Ok.ensures in
    made-later before mid after c.args.k c.args.m.now c.class_rows-got.new.self c.make_by_text.new.m c.make_by_text.result got.leaves got.keeps got.world
    c.make_by_text.ensures.takes

use Rattle.std.proofs.Common.{ℕ, Option, subst}
use Rattle.std.specs.Prelude.{Ok}
use Rattle.machine_calls.proofs.Constants.{GivesLiteral, literal-then, none-literal}
use Rattle.machine_calls.proofs.Fetching.{names-kept}
use Rattle.machine_calls.proofs.procedures.closure.Goals as goal

pub make-requires-clause-names : goal.make-requires-clause-names
make-requires-clause-names g c = names-kept c.args.m.now c.literal_of-got.new.self c.in-Ok.ensures.keeps c.requires.names

pub returns-in-Some-clause-takes : goal.returns-in-Some-clause-takes
returns-in-Some-clause-takes g c =
    let before = g.V.Vault.outside c.args.vault.now in
    let after = g.V.Vault.outside c.literal_of-got.new.vault in
    let m = c.args.m.now in
    let now = c.literal_of-got.new.self in
    let got = c.in-Ok.ensures in
    literal-then before after m now c.args.k got.leaves c.in-Some.literal c.make.new.m c.make.result got.keeps got.world
    (subst (λ (o : Option ℕ). GivesLiteral before after m now c.args.k got.leaves (Ok o)) c.in-Some.is got.given) c.make.ensures.makes

pub returns-in-None-clause-takes : goal.returns-in-None-clause-takes
returns-in-None-clause-takes g c =
    let before = g.V.Vault.outside c.args.vault.now in
    let after = g.V.Vault.outside c.literal_of-got.new.vault in
    let m = c.args.m.now in
    let now = c.literal_of-got.new.self in
    let got = c.in-Ok.ensures in
    none-literal before after m now c.args.k got.leaves got.keeps c.requires.sound
    (subst (λ (o : Option ℕ). GivesLiteral before after m now c.args.k got.leaves (Ok o)) c.in-None.is got.given)

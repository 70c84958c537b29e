use Rattle.std.proofs.Common.{ℕ, Option, subst}
use Rattle.std.specs.Prelude.{Ok}
use Rattle.machine_calls.specs.inside.Making.{in_scope}
use Rattle.machine_calls.proofs.Constants.{GivesText, none-text, text-then}
use Rattle.machine_calls.proofs.Fetching.{names-kept}
use Rattle.machine_calls.proofs.blocks.enter_scope.Goals as goal

pub enter-requires-clause-names : goal.enter-requires-clause-names
enter-requires-clause-names g c = names-kept c.args.m.now c.text_of-got.new.self c.in-Ok.ensures.keeps c.requires.names

pub returns-in-Some-clause-takes : goal.returns-in-Some-clause-takes
returns-in-Some-clause-takes g c =
    let before = g.V.Vault.outside c.args.vault.now in
    let after = g.V.Vault.outside c.text_of-got.new.vault in
    let m = c.args.m.now in
    let now = c.text_of-got.new.self in
    let got = c.in-Ok.ensures in
    let made = c.enter.ensures.makes in
    text-then before after m now c.args.k got.leaves in_scope c.in-Some.text c.enter.new.m c.enter.result got.keeps got.world
    (subst (λ (o : Option ℕ). GivesText before after m now c.args.k got.leaves (Ok o)) c.in-Some.is got.given) made.sound made.names made.size made.does

pub returns-in-None-clause-takes : goal.returns-in-None-clause-takes
returns-in-None-clause-takes g c =
    let before = g.V.Vault.outside c.args.vault.now in
    let after = g.V.Vault.outside c.text_of-got.new.vault in
    let m = c.args.m.now in
    let now = c.text_of-got.new.self in
    let got = c.in-Ok.ensures in
    none-text before after m now c.args.k got.leaves in_scope got.keeps c.requires.sound
    (subst (λ (o : Option ℕ). GivesText before after m now c.args.k got.leaves (Ok o)) c.in-None.is got.given)

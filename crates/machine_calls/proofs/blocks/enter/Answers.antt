use Rattle.machine_calls.proofs.Fetching.{names-kept}
use Rattle.machine_calls.proofs.Making.{scope-made, scope-broken}
use Rattle.machine_calls.proofs.blocks.enter.Goals as goal

pub returns-in-Ok-clause-makes : goal.returns-in-Ok-clause-makes
returns-in-Ok-clause-makes g c =
    let v = c.args.vault.now in
    let m = c.args.m.now in
    let now = c.make_scope-made.new.self in
    let entered = c.set_scope.ensures in
    scope-made (g.V.Vault.outside v) m now c.scope-within.result (c.scope-within.ensures.denotes v) c.args.text c.in-Ok.at c.set_scope.new.m
    c.in-Ok.ensures.keeps c.in-Ok.ensures.made entered.sound entered.objects
    (entered.names (names-kept m now c.in-Ok.ensures.keeps c.requires.names) c.in-Ok.ensures.held) (entered.enters v)

pub returns-in-Err-clause-makes : goal.returns-in-Err-clause-makes
returns-in-Err-clause-makes g c =
    let v = c.args.vault.now in
    scope-broken (g.V.Vault.outside v) c.args.m.now c.make_scope-made.new.self c.scope-within.result (c.scope-within.ensures.denotes v) c.args.text
    c.in-Err.fault c.broke.new.m c.broke.result c.broke.ensures.answer c.broke.ensures.left c.requires.sound c.in-Err.ensures.made

use Rattle.machine_calls.proofs.CalledBodies.{body-called, no-body}
use Rattle.machine_calls.proofs.calls.call_procedure.Goals as goal

pub returns-in-Ok-clause-takes : goal.returns-in-Ok-clause-takes
returns-in-Ok-clause-takes g c =
    let v = c.args.vault.now in
    let w = c.body_of-got.new.vault in
    let got = c.in-Ok.ensures in
    body-called (g.V.Vault.outside v) (g.V.Vault.outside w) c.args.n c.args.line c.args.m.now c.args.word c.requires.below c.body_of-got.new.self c.args.at
    c.requires.called c.in-Ok.body c.call_with.new.m c.call_with.result got.leaves got.keeps got.got got.place got.scope (c.call_with.ensures.calls w)

pub returns-in-Err-clause-takes : goal.returns-in-Err-clause-takes
returns-in-Err-clause-takes g c =
    let v = c.args.vault.now in
    let w = c.body_of-got.new.vault in
    no-body (g.V.Vault.outside v) (g.V.Vault.outside w) c.args.n c.args.line c.args.m.now c.args.word c.requires.below c.body_of-got.new.self c.args.at
    c.requires.called c.in-Err.fault c.broke.new.m c.broke.result c.broke.ensures.answer c.broke.ensures.left c.requires.sound c.in-Err.ensures.got

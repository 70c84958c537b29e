use Rattle.machine_calls.proofs.CalledBodies.{none-below, other-below}
use Rattle.machine_calls.proofs.calls.call.Goals as goal

pub returns-in_default-clause-takes : goal.returns-in_default-clause-takes
returns-in_default-clause-takes g c =
    let v = c.args.vault.now in
    let out = g.V.Vault.outside v in
    none-below out out c.args.n c.args.line c.args.m.now c.requires.sound (c.in_default.ensures.below v)

pub returns-in-None-clause-takes : goal.returns-in-None-clause-takes
returns-in-None-clause-takes g c =
    let v = c.args.vault.now in
    let out = g.V.Vault.outside v in
    other-below out out c.args.n c.args.line c.args.m.now c.in-Some.word (c.in-Some.ensures.below v) c.requires.sound (c.in-None.ensures.called v)

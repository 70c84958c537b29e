use Rattle.std.proofs.Common.{◌∙◌, arith, sym}
use Rattle.machine_calls.proofs.CalledBodies.{takes-own, own-arguments}
use Rattle.machine_calls.proofs.calls.call_with.Goals as goal

pub returns-clause-calls : goal.returns-clause-calls
returns-clause-calls g c =
    let found = c.args.found in
    let takes = takes-own c.args.n found.frame (sym c.fits.ensures ∙ c.if-not-fits.false) (omega (arith, c.if-n-from.false, c.from.ensures)) in
    λ v.
    own-arguments (g.V.Vault.outside v) found c.args.n c.args.line c.args.m.now c.word.result c.call_body.new.m c.call_body.result c.sound.ensures c.word.ensures
    takes (c.call_body.ensures.calls v)

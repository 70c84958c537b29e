use Rattle.machine_structures.proofs.TrapLaws.{object-trapped}
use Rattle.machine_structures.proofs.traps.object_trapped.Goals as goal

pub returns-clause-traps : goal.returns-clause-traps
returns-clause-traps g c = λ v w.
    let did = c.trapped.ensures in
    object-trapped (g.V.Vault.outside v) (g.V.Vault.outside w) c.args.object c.args.trap c.args.line c.args.m.now c.trapped.new.m c.trapped.result
    (did.takes v).sound
    did.answer did.left (c.if-not-is_object.ensures v)

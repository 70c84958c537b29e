use Rattle.std.proofs.Common.{sym, subst}
use Rattle.machine_operands.specs.Giving.{GivesObject}
use Rattle.machine_operands.proofs.Giving.{object-pushed, object-failed}
use Rattle.machine_operands.proofs.gives.give_object.Goals as goal

pub returns-in-Ok : goal.returns-in-Ok
returns-in-Ok g c =
    let m = c.args.m.now in
    λ v.
    let out = g.V.Vault.outside v in
    subst (λ made. GivesObject out c.args.line m c.push_ref.new.m c.push_ref.result made) (sym c.in-Ok.is)
    (object-pushed out c.args.line m c.push_ref.new.m c.push_ref.result c.in-Ok.at c.push_ref.ensures.goes (c.push_ref.ensures.takes v))

pub returns-in-Err : goal.returns-in-Err
returns-in-Err g c =
    let m = c.args.m.now in
    let f = c.failed.ensures in
    λ v.
    let out = g.V.Vault.outside v in
    subst (λ made. GivesObject out c.args.line m c.failed.new.m c.failed.result made) (sym c.in-Err.is)
    (object-failed out c.args.line m c.failed.new.m c.failed.result c.in-Err.fault c.has_room-room.result c.has_room-room.ensures.room c.has_room-room.ensures.full f.sound f.answer f.left)

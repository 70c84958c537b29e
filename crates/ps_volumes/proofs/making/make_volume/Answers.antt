use Rattle.std.proofs.Common.{subst}
use Rattle.obj_store.specs.volume_parts.Making.{IsCause}
use Rattle.obj_store.proofs.of_paged_volume.Opening.{shuts_at, opens_at}
use Rattle.ps_volumes.proofs.Refused.{made_by, failed_by, left_by}
use Rattle.ps_volumes.proofs.making.make_volume.Goals as goal

pub returns-in-Ok : goal.returns-in-Ok
returns-in-Ok g c =
    let o = g.H.Host.outside in
    let is = c.in-Ok.ensures in
    made_by c.args.pages (o c.args.host.now) (o c.format.new.host) is.any_moment (shuts_at o c.args.pages c.args.host.now c.format.new.host is.gate) is.told is.output
    (opens_at o c.args.pages c.args.host.now c.format.new.host is.opened) is.none is.made is.durable _

pub returns-in-Err-Device : goal.returns-in-Err-Device
returns-in-Err-Device g c =
    let o = g.H.Host.outside in
    let old = o c.args.host.now in
    let new = o c.format.new.host in
    let is = c.in-Err-Device.ensures in
    failed_by c.args.pages old new is.any_moment (shuts_at o c.args.pages c.args.host.now c.format.new.host is.gate) is.told is.output
    (subst (IsCause old new) c.in-Err-Device.field-0-is is.cause)

pub returns-in-Err-AlreadyVolume : goal.returns-in-Err-AlreadyVolume
returns-in-Err-AlreadyVolume g c =
    let o = g.H.Host.outside in
    let old = o c.args.host.now in
    let new = o c.format.new.host in
    let is = c.in-Err-AlreadyVolume.ensures in
    left_by c.args.pages old new is.any_moment (shuts_at o c.args.pages c.args.host.now c.format.new.host is.gate) is.told is.output c.in-Err-AlreadyVolume.field-0-0
    (subst (IsCause old new) c.in-Err-AlreadyVolume.field-0-is is.cause)

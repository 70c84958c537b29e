use Rattle.std.proofs.Common.{Some, refl}
use Rattle.ps_port.specs.ps_outside.Outside.{Rose}
use Rattle.ps_args.specs.Words.{a_volume}
use Rattle.ps_causes.proofs.Converse.{volume_made}
use Rattle.ps_causes.proofs.laws.volume_is_made.Goals as goal

pub returns : goal.returns
returns g c before after answered pages content told none why =
    volume_made (Some (a_volume pages)) (g.S.Shelf.holds c.args.shelf.now) (g.S.Shelf.lacks c.args.shelf.now) (g.S.Shelf.may_fail c.args.shelf.now) (Rose before after) (g.H.Host.outside c.args.host.now) (g.H.Host.outside c.args.back.now) pages content answered refl told none why

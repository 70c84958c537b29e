use Rattle.std.proofs.Common.{Some, refl}
use Rattle.ps_port.specs.ps_outside.Outside.{Rose}
use Rattle.ps_args.specs.Words.{a_run}
use Rattle.ps_causes.proofs.Converse.{lacked_name}
use Rattle.ps_causes.proofs.laws.lacked_name_is_unreadable.Goals as goal

pub returns : goal.returns
returns g c before after answered run lacking why = lacked_name (Some (a_run run)) (g.S.Shelf.holds c.args.shelf.now) (g.S.Shelf.lacks c.args.shelf.now) (g.S.Shelf.may_fail c.args.shelf.now) (Rose before after) (g.H.Host.outside c.args.host.now) (g.H.Host.outside c.args.back.now) run answered refl lacking why

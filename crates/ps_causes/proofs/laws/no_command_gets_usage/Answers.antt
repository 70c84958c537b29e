use Rattle.std.proofs.Common.{None, refl}
use Rattle.ps_port.specs.ps_outside.Outside.{Rose}
use Rattle.ps_causes.proofs.Converse.{no_command}
use Rattle.ps_causes.proofs.laws.no_command_gets_usage.Goals as goal

pub returns : goal.returns
returns g c before after answered why = no_command None (g.S.Shelf.holds c.args.shelf.now) (g.S.Shelf.lacks c.args.shelf.now) (g.S.Shelf.may_fail c.args.shelf.now) (Rose before after) (g.H.Host.outside c.args.host.now) (g.H.Host.outside c.args.back.now) answered refl why

use Rattle.std.proofs.Common.{Some, refl}
use Rattle.ps_port.specs.ps_outside.Outside.{Rose}
use Rattle.ps_args.specs.Words.{a_text}
use Rattle.ps_causes.proofs.Converse.{text_told}
use Rattle.ps_causes.proofs.laws.text_is_told.Goals as goal

pub returns : goal.returns
returns g c before after answered text why =
    text_told (Some (a_text text)) (g.S.Shelf.holds c.args.shelf.now) (g.S.Shelf.lacks c.args.shelf.now) (g.S.Shelf.may_fail c.args.shelf.now) (Rose before after) (g.H.Host.outside c.args.host.now) (g.H.Host.outside c.args.back.now) text answered refl why

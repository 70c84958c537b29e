use Rattle.std.proofs.Common.{Some, refl}
use Rattle.ps_port.specs.ps_outside.Outside.{Rose}
use Rattle.ps_args.specs.Words.{a_run}
use Rattle.ps_causes.proofs.Converse.{long_input as lemma}
use Rattle.ps_causes.proofs.laws.long_input_is_refused.Goals as goal

pub returns : goal.returns
returns g c before after answered text name input run program held short prog named has long why =
    lemma (Some (a_run run)) (g.S.Shelf.holds c.args.shelf.now) (g.S.Shelf.lacks c.args.shelf.now) (g.S.Shelf.may_fail c.args.shelf.now) (Rose before after) (g.H.Host.outside c.args.host.now) (g.H.Host.outside c.args.back.now) run text refl held program short prog name named input answered has long why

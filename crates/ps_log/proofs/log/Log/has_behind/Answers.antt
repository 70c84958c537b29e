use Rattle.std.proofs.Common.{◌∙◌, sym}
use Rattle.ps_log.proofs.Found.{found_behind, missing_behind}
use Rattle.ps_log.proofs.log.Log.has_behind.Goals as goal

pub returns-in-Some : goal.returns-in-Some
returns-in-Some g c =
    found_behind g.T.Named.name c.self.inside.lines.items c.args.self.now c.self.view_is c.args.name.now c.args.count c.requires c.in-Some.place
    (sym (c.self.invariant.found c.args.name.now) ∙ sym c.in-Some.ensures)

pub returns-in-None : goal.returns-in-None
returns-in-None g c =
    missing_behind g.T.Named.name c.self.inside.lines.items c.args.self.now c.self.view_is c.args.name.now c.args.count c.requires
    (sym (c.self.invariant.found c.args.name.now) ∙ sym c.in-None.ensures)

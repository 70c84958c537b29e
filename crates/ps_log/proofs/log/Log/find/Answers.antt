use Rattle.std.proofs.Common.{◌∙◌, sym, arith}
use Rattle.ps_log.proofs.Found.{is_within, found, missing}
use Rattle.ps_log.proofs.log.Log.find.Goals as goal

pub index-requires : goal.index-requires
index-requires g c =
    let at = sym (c.self.invariant.found c.args.name.now) ∙ sym c.in-Some.ensures in
    let within = is_within g.T.Named.name c.self.inside.lines.items c.args.self.now c.self.view_is c.args.name.now c.in-Some.place at in
    omega (arith, within, c.self.inside.lines.ok.0)

pub returns-in-Some : goal.returns-in-Some
returns-in-Some g c =
    found g.T.Named.name c.self.inside.lines.items c.args.self.now c.self.view_is c.args.name.now c.in-Some.place c.index.result.now
    (sym (c.self.invariant.found c.args.name.now) ∙ sym c.in-Some.ensures) c.index.ensures

pub returns-in-None : goal.returns-in-None
returns-in-None g c =
    missing g.T.Named.name c.self.inside.lines.items c.args.self.now c.self.view_is c.args.name.now
    (sym (c.self.invariant.found c.args.name.now) ∙ sym c.in-None.ensures)

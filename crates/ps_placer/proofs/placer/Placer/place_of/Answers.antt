use Rattle.std.proofs.Common.{◌∙◌, ap}
use Rattle.ps_placer.specs.inside.Tables.{value_at}
use Rattle.ps_placer.proofs.Spots.{kept_place, plain_place}
use Rattle.ps_placer.proofs.placer.Placer.place_of.Goals as goal

pub returns-in-Some : goal.returns-in-Some
returns-in-Some c = λ around locals stands. kept_place c.args.self.now around locals c.args.place c.in-Some.spot _ stands (c.in-Some.ensures ∙ ap (value_at c.args.self.now.spots) c.number-name.ensures) (search)

pub returns-in-None : goal.returns-in-None
returns-in-None c = λ around locals stands. plain_place c.args.self.now around locals c.args.place _ stands (c.in-None.ensures ∙ ap (value_at c.args.self.now.spots) c.number-name.ensures) (c.get-in-None.ensures ∙ ap (value_at c.args.self.now.locals) c.number-name.ensures)

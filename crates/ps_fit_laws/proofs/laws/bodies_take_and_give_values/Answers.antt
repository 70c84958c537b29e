use Rattle.ps_fit_laws.proofs.Bodies.{program_bodies_valued}
use Rattle.ps_fit_laws.proofs.laws.bodies_take_and_give_values.Goals as goal

pub returns : goal.returns
returns c = program_bodies_valued

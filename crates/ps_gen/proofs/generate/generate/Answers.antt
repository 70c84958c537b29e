use Rattle.ps_program.specs.NodeView.{body_of}
use Rattle.ps_gen.proofs.Bodies.{bodies_units}
use Rattle.ps_gen.proofs.Making.{if_ok}
use Rattle.ps_gen.proofs.generate.generate.Goals as goal

pub returns-clause-fits : goal.returns-clause-fits
returns-clause-fits c = if_ok c.unit.result (λ made is. bodies_units (body_of c.args.program.now.body) is.units) c.unit.ensures

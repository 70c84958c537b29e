use Rattle.ps_unit_weights.proofs.Weighing.{unit_weighs}
use Rattle.ps_unit_weights.proofs.laws.units_weigh_as_counted.Goals as goal

pub returns : goal.returns
returns c = unit_weighs

use Rattle.ps_unit_weights.proofs.Constants.{unit_has}
use Rattle.ps_unit_weights.proofs.laws.generated_units_have_constants.Goals as goal

pub returns : goal.returns
returns c = unit_has

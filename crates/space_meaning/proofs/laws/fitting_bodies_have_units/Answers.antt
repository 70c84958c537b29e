use Rattle.space_meaning.proofs.UnitLaws.{heap-units}
use Rattle.space_meaning.proofs.laws.fitting_bodies_have_units.Goals as goal

pub returns : goal.returns
returns c = heap-units

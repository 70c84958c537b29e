use Rattle.ps_unit_weights.proofs.UnitWords.{unit_is, lighter}
use Rattle.ps_unit_weights.proofs.laws.units_weigh_their_words.Goals as goal

pub returns-clause-words : goal.returns-clause-words
returns-clause-words c = unit_is

pub returns-clause-lighter : goal.returns-clause-lighter
returns-clause-lighter c = lighter

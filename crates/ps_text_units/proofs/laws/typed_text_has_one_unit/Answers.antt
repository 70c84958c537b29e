use Rattle.ps_text_units.proofs.OfText.{within, has, one}
use Rattle.ps_text_units.proofs.laws.typed_text_has_one_unit.Goals as goal

pub returns-clause-within : goal.returns-clause-within
returns-clause-within _ = λ text program short is. within text program short is

pub returns-clause-has : goal.returns-clause-has
returns-clause-has _ = λ text program short is. has text program short is

pub returns-clause-one : goal.returns-clause-one
returns-clause-one _ = λ text program made short is unit. one text program made short is unit

use Rattle.ps_unit_laws.proofs.Units.{has_unit, one_unit}
use Rattle.ps_unit_laws.proofs.laws.typed_body_has_one_unit.Goals as goal

pub returns-clause-one : goal.returns-clause-one
returns-clause-one _ = λ of made other h k. one_unit of made other h k

pub returns-clause-has : goal.returns-clause-has
returns-clause-has _ = λ scopes of is_body within. has_unit scopes of is_body within

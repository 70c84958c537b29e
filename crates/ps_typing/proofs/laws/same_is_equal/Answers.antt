use Rattle.ps_typing.proofs.SameTypes.{same_is_equal, equal_is_same}
use Rattle.ps_typing.proofs.laws.same_is_equal.Goals as goal

pub returns : goal.returns
returns c = λ a b. (same_is_equal a b, equal_is_same a b)

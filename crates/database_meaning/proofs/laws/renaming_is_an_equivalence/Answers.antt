use Rattle.database_meaning.proofs.SameLaws.{same-self, same-back, same-then}
use Rattle.database_meaning.proofs.laws.renaming_is_an_equivalence.Goals as goal

pub returns : goal.returns
returns c = (λ a. same-self a, λ a b s. same-back a b s, λ a b c s t. same-then a b c s t)

use Rattle.paged_volume.proofs.Bounds.{small_suffice, large_suffice}
use Rattle.paged_volume.proofs.laws.the_pages_suffice.Goals as goal

pub returns-clause-small : goal.returns-clause-small
returns-clause-small c = λ pages least most. small_suffice pages least most

pub returns-clause-large : goal.returns-clause-large
returns-clause-large c = λ pages least most. large_suffice pages least most

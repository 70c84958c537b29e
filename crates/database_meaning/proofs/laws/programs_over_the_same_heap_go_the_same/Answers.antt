use Rattle.database_meaning.proofs.SameClauses.{given_same}
use Rattle.database_meaning.proofs.laws.programs_over_the_same_heap_go_the_same.Goals as goal

pub returns : goal.returns
returns c = given_same

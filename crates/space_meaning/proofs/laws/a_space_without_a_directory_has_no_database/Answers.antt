use Rattle.space_meaning.proofs.Without.{stands-without, none-without}
use Rattle.space_meaning.proofs.laws.a_space_without_a_directory_has_no_database.Goals as goal

pub returns-clause-stands : goal.returns-clause-stands
returns-clause-stands c = stands-without

pub returns-clause-alone : goal.returns-clause-alone
returns-clause-alone c = none-without

use Rattle.volume_meaning.proofs.Volumes.{new-stands, new-stands_alone}
use Rattle.volume_meaning.proofs.laws.a_new_volume_stands_for_no_database.Goals as goal

pub returns-clause-stands : goal.returns-clause-stands
returns-clause-stands c = new-stands

pub returns-clause-alone : goal.returns-clause-alone
returns-clause-alone c = new-stands_alone

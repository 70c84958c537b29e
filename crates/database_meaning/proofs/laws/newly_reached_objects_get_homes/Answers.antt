use Rattle.ps_heap.specs.Commit.{first_database}
use Rattle.database_meaning.proofs.HomeLaws.{homed, homed-back}
use Rattle.database_meaning.proofs.StepLaws.{all-writable}
use Rattle.database_meaning.proofs.laws.newly_reached_objects_get_homes.Goals as goal

pub returns : goal.returns
unfolding first_database
returns c = λ h id sound w. (λ r. homed h id sound (all-writable h w) r, λ n e. homed-back h id n sound e)

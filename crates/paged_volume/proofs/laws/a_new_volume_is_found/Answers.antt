use Rattle.paged_volume.proofs.New.{found_new}
use Rattle.paged_volume.proofs.laws.a_new_volume_is_found.Goals as goal

pub returns : goal.returns
returns c = λ pages image least most new opened. found_new pages image least most new opened

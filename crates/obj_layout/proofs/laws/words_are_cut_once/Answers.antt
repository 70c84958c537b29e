use Rattle.obj_layout.proofs.ObjectLaws.{Cuts-unique}
use Rattle.obj_layout.proofs.laws.words_are_cut_once.Goals as goal

pub returns : goal.returns
returns c = Cuts-unique

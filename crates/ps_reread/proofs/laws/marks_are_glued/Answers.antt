use Rattle.ps_reread.proofs.Marks.{one_is_mark}
use Rattle.ps_reread.proofs.laws.marks_are_glued.Goals as goal

pub returns : goal.returns
returns c = one_is_mark

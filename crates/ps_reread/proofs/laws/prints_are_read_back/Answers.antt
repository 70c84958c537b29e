use Rattle.ps_reread.proofs.PrintedBack.{prints_back}
use Rattle.ps_reread.proofs.laws.prints_are_read_back.Goals as goal

pub returns : goal.returns
returns c = prints_back

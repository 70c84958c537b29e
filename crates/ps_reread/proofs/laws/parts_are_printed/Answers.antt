use Rattle.ps_reread.proofs.Parts.{printable_append}
use Rattle.ps_reread.proofs.laws.parts_are_printed.Goals as goal

pub returns : goal.returns
returns c = printable_append

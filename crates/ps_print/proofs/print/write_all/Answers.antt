use Rattle.ps_type_pieces.specs.ps_layout.Waiting.{waiting}
use Rattle.ps_print.proofs.Printing.{all_printed}
use Rattle.ps_print.proofs.print.write_all.Goals as goal

pub returns : goal.returns
returns c = all_printed _ _ (waiting c.loop-piece.pending) c.in_default.ensures c.loop-piece.invariant

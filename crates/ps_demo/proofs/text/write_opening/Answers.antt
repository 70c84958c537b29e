use Rattle.std.proofs.Common.{arith}
use Rattle.ps_demo.proofs.Writing.{opening_written}
use Rattle.ps_demo.proofs.text.write_opening.Goals as goal

pub returns : goal.returns
returns c = grind (arith, opening_written c.args.text.now.items)

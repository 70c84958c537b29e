use Rattle.std.proofs.Common.{arith}
use Rattle.ps_demo.proofs.Writing.{demo_written}
use Rattle.ps_demo.proofs.Length.{demo_is_short}
use Rattle.ps_demo.proofs.text.demo_text.Goals as goal

pub returns-clause-text : goal.returns-clause-text
returns-clause-text c = grind (arith, demo_written c.args.number)

pub returns-clause-short : goal.returns-clause-short
returns-clause-short c = grind (arith, demo_is_short c.args.number c.requires.few)

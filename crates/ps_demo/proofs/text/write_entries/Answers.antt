use Rattle.std.proofs.Common.{arith, append-nil}
use Rattle.ps_demo.specs.Demo.{entry_lines, text_of_lines}
use Rattle.ps_demo.proofs.Writing.{entry_more}
use Rattle.ps_demo.proofs.text.write_entries.Goals as goal

pub loop-before-init : goal.loop-before-init
unfolding text_of_lines
loop-before-init c = grind (arith, append-nil)

pub loop-before-preserved : goal.loop-before-preserved
loop-before-preserved c = grind (arith, entry_more)

pub returns : goal.returns
unfolding entry_lines
returns c = grind arith

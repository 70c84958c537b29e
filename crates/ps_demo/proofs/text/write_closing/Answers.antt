use Rattle.ps_demo.proofs.Writing.{closing_written}
use Rattle.ps_demo.proofs.text.write_closing.Goals as goal

pub returns : goal.returns
returns c = rw (← closing_written c.args.text.now.items c.args.number, ← c.in_ok-write.ensures, ← c.in_ok-write_number.ensures) c.write-2.ensures

use Rattle.ps_demo.proofs.Writing.{entry_written}
use Rattle.ps_demo.proofs.text.write_entry.Goals as goal

pub returns : goal.returns
returns c =
    rw (
      ← entry_written c.args.text.now.items c.args.number c.args.place,
      ← c.in_ok-write.ensures,
      ← c.in_ok-write_number.ensures,
      ← c.in_ok-write-2.ensures,
      ← c.in_ok-write_number-2.ensures,
      ← c.in_ok-write-3.ensures,
      ← c.in_ok-write_number-3.ensures,
    )
    c.write-4.ensures

use Rattle.std.proofs.Common.{arith}
use Rattle.machine_core.specs.Holding.{words_of}
use Rattle.machine_core.proofs.Naming.{word-there}
use Rattle.machine_core.proofs.stacks.ref_at.Goals as goal

pub returns-clause-named : goal.returns-clause-named
returns-clause-named g c = λ n.
    let m = c.args.m.now in
    let fit = c.requires.refs_fit in
    word-there m.objects (words_of m) m.writing.item c.args.slot c.word.result n (omega (arith, c.if-slot-m.false, fit)) c.word.ensures

use Rattle.std.proofs.Common.{◌-◌, arith, rules}
use Rattle.machine_core.specs.Holding.{words_of}
use Rattle.machine_core.proofs.Calling.{has-below, has-none-below}
use Rattle.machine_core.proofs.Naming.{word-there}
use Rattle.machine_core.proofs.calls.ref_below.Goals as goal

pub returns-then-count-m-clause-below : goal.returns-then-count-m-clause-below
returns-then-count-m-clause-below g c = λ v names conf h.
    has-none-below c.args.m.now (g.V.Vault.outside v) names conf h c.args.n (omega (arith, c.if-count-m.true, c.len-count.ensures))

pub returns-clause-named : goal.returns-clause-named
returns-clause-named g c = λ n.
    let m = c.args.m.now in
    word-there m.objects (words_of m) m.writing.item (c.len-count.result - 1 - c.args.n) c.word.result n (omega (arith, c.if-count-m.false, c.len-count.ensures)) c.word.ensures

pub returns-clause-below : goal.returns-clause-below
returns-clause-below g c = λ v names conf h.
    has-below c.args.m.now (g.V.Vault.outside v) names conf h c.args.n (c.len-count.result - 1 - c.args.n) _ c.word.result
    (omega (arith, c.if-count-m.false, c.len-count.ensures)) (omega (arith, c.if-count-m.false, c.len-count.ensures)) (search rules)

use Rattle.std.proofs.Common.{◌-◌, arith, rules}
use Rattle.machine_core.specs.Holding.{words_of}
use Rattle.machine_core.proofs.Naming.{word-there}
use Rattle.machine_core.proofs.Popping.{has_top_ref, refs_empty}
use Rattle.machine_core.proofs.stacks.top_ref.Goals as goal

pub returns-then-count-m-clause-top : goal.returns-then-count-m-clause-top
returns-then-count-m-clause-top g c = λ v conf h. refs_empty c.args.m.now (g.V.Vault.outside v) conf h.names h.held (omega (arith, c.if-count-m.true, c.len-count.ensures))

pub returns-clause-named : goal.returns-clause-named
returns-clause-named g c = λ n.
    let m = c.args.m.now in
    word-there m.objects (words_of m) m.writing.item (c.len-count.result - 1) c.word.result n (omega (arith, c.if-count-m.false, c.len-count.ensures)) c.word.ensures

pub returns-clause-top : goal.returns-clause-top
returns-clause-top g c = λ v conf h.
    let p = has_top_ref c.args.m.now (g.V.Vault.outside v) conf h.names h.held (c.len-count.result - 1) _ c.word.result (omega (arith, c.if-count-m.false, c.len-count.ensures))
    (omega (arith, c.if-count-m.false, c.len-count.ensures)) (search rules) in
    (p.0, p.1, p.2, h.names, h.held, p.3)

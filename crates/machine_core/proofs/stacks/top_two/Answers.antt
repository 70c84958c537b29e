use Rattle.std.proofs.Common.{arith, rules}
use Rattle.machine_core.proofs.Popping.{has_two, no_two}
use Rattle.machine_core.proofs.stacks.top_two.Goals as goal

pub returns-then-count-m-clause-tops : goal.returns-then-count-m-clause-tops
returns-then-count-m-clause-tops g c = λ v conf h.
    no_two c.args.m.now (g.V.Vault.outside v) conf h.names h.held (omega (arith, c.if-count-m.true, c.len-count.ensures))

pub returns-clause-tops : goal.returns-clause-tops
returns-clause-tops g c = λ v conf h.
    has_two c.args.m.now (g.V.Vault.outside v) conf h.names h.held _ _ c.word.result c.word-2.result (omega (arith, c.if-count-m.false, c.len-count.ensures)) (search rules) (search rules)

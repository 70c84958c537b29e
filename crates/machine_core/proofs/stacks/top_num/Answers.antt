use Rattle.std.proofs.Common.{◌-◌, arith, rules}
use Rattle.machine_core.proofs.Popping.{has_top, nums_empty}
use Rattle.machine_core.proofs.stacks.top_num.Goals as goal

pub returns-then-count-m : goal.returns-then-count-m
returns-then-count-m g c = λ v conf h. nums_empty c.args.m.now (g.V.Vault.outside v) conf h.names h.held (omega (arith, c.if-count-m.true, c.len-count.ensures))

pub returns : goal.returns
returns g c = λ v conf h.
    has_top c.args.m.now (g.V.Vault.outside v) conf h.names h.held (c.len-count.result - 1) _ c.word.result (omega (arith, c.if-count-m.false, c.len-count.ensures))
    (omega (arith, c.if-count-m.false, c.len-count.ensures)) (search rules)

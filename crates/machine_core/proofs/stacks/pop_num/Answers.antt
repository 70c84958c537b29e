use Rattle.std.proofs.Common.{arith, rules}
use Rattle.machine_core.proofs.Popping.{pops_num, no_num}
use Rattle.machine_core.proofs.stacks.pop_num.Goals as goal

pub returns-then-len-m-clause-taken : goal.returns-then-len-m-clause-taken
returns-then-len-m-clause-taken g c = λ v. record {
  gives = λ names conf h. no_num c.args.m.now (g.V.Vault.outside v) conf names h (omega (arith, c.if-len-m.true, c.len.ensures));
}

pub returns-clause-taken : goal.returns-clause-taken
returns-clause-taken g c =
    let one = c.take_last.ensures.len in
    λ v. record {
      gives = λ names conf h. pops_num c.args.m.now (g.V.Vault.outside v) conf names h c.take_last.new.self _ c.take_last.ensures.below (search rules) (omega (arith, one, c.if-len-m.false, c.len.ensures));
    }

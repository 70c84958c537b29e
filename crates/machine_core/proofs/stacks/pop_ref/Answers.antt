use Rattle.std.proofs.Common.{arith}
use Rattle.machine_core.specs.Holding.{words_of}
use Rattle.machine_core.proofs.Naming.{names-popped}
use Rattle.machine_core.proofs.Popping.{pops_ref, no_ref}
use Rattle.machine_core.proofs.stacks.pop_ref.Goals as goal

pub returns-then-len-m-clause-taken : goal.returns-then-len-m-clause-taken
returns-then-len-m-clause-taken g c = λ v. record {
  gives = λ names conf h. no_ref c.args.m.now (g.V.Vault.outside v) conf names h (omega (arith, c.if-len-m.true, c.len.ensures));
}

pub returns-clause-taken : goal.returns-clause-taken
returns-clause-taken g c =
    let one = c.take_last.ensures.len in
    λ v. record {
      gives = λ names conf h.
          let p = pops_ref c.args.m.now (g.V.Vault.outside v) conf names h c.take_last.new.self c.take_last.result c.take_last.ensures.below c.take_last.ensures.own
          (omega (arith, one, c.if-len-m.false, c.len.ensures)) in
          (p.0, p.1, p.2, p.3, p.4);
    }

pub returns-clause-named : goal.returns-clause-named
returns-clause-named g c = λ n.
    (names-popped c.args.m.now.objects (words_of c.args.m.now) c.args.m.now.writing.item c.take_last.new.self c.take_last.result n c.take_last.ensures.below c.take_last.ensures.own).1

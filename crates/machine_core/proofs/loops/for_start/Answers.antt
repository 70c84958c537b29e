use Rattle.std.proofs.Common.{◌+◌, arith, rules}
use Rattle.ps_stepping.specs.Machine.{started}
use Rattle.machine_core.specs.Stepped.{Takes}
use Rattle.machine_core.proofs.Jumping.{no-loop, loop-starts}
use Rattle.machine_core.proofs.loops.for_start.Goals as goal

pub returns-in_default-clause-takes : goal.returns-in_default-clause-takes
returns-in_default-clause-takes g c = λ v.
    let out = g.V.Vault.outside v in
    no-loop out out c.args.slot c.args.m.now (c.args.slot + 2) (λ d. started c.args.own c.args.to c.args.line (d.locals.nums c.args.slot) (d.locals.nums (c.args.slot + 1)) (d.locals.nums (c.args.slot + 2)) d) (omega arith) c.requires.sound (c.in_default.ensures.reads v)

pub returns-in_default-num_at-clause-takes : goal.returns-in_default-num_at-clause-takes
returns-in_default-num_at-clause-takes g c = λ v.
    let out = g.V.Vault.outside v in
    no-loop out out c.args.slot c.args.m.now (c.args.slot + 1) (λ d. started c.args.own c.args.to c.args.line (d.locals.nums c.args.slot) (d.locals.nums (c.args.slot + 1)) (d.locals.nums (c.args.slot + 2)) d) (omega arith) c.requires.sound (c.in_default-num_at.ensures.reads v)

pub returns-in_default-num_at-2-clause-takes : goal.returns-in_default-num_at-2-clause-takes
returns-in_default-num_at-2-clause-takes g c = λ v.
    let out = g.V.Vault.outside v in
    no-loop out out c.args.slot c.args.m.now c.args.slot (λ d. started c.args.own c.args.to c.args.line (d.locals.nums c.args.slot) (d.locals.nums (c.args.slot + 1)) (d.locals.nums (c.args.slot + 2)) d) (omega arith) c.requires.sound (c.in_default-num_at-2.ensures.reads v)

pub returns-clause-takes : goal.returns-clause-takes
returns-clause-takes g c =
    let a = c.args in
    λ v.
    let out = g.V.Vault.outside v in
    let t : Takes out out (started a.own a.to a.line c.in-Some-num_at-2.control c.in-Some-num_at.limit c.in-Some.step) a.m.now c.started.new.m c.started.result =
    search (rules, c.started.ensures.takes v) in
    loop-starts out out a.slot a.own a.to a.m.now c.started.new.m c.started.result _ _ _ (c.in-Some.ensures.reads v) (c.in-Some-num_at.ensures.reads v) (c.in-Some-num_at-2.ensures.reads v)
    a.line t

use Rattle.std.proofs.Common.{ap, ◌∙◌, Bool, ℤ, rules}
use Rattle.std.specs.Prelude.{if◌then◌else◌}
use Rattle.ps_stepping.specs.Machine.{push_num, is_num_slot, Stuck}
use Rattle.machine_core.specs.Stepped.{Takes}
use Rattle.machine_core.proofs.Between.{same-held, stuck-there}
use Rattle.machine_core.proofs.values.get_num.Goals as goal

pub returns-in-Some-clause-takes : goal.returns-in-Some-clause-takes
returns-in-Some-clause-takes g c = λ v.
    let out = g.V.Vault.outside v in
    let reads = c.in-Some.ensures.reads v in
    let t : Takes out out (push_num c.in-Some.z) c.args.m.now c.push_num.new.m c.push_num.result = search (rules, c.push_num.ensures.takes v) in
    same-held out out c.args.m.now c.push_num.new.m c.push_num.result (push_num c.in-Some.z) (λ conf. if is_num_slot conf c.args.slot then push_num (conf.locals.nums c.args.slot) conf else Stuck)
    (λ conf h. ap (λ (b : Bool). if b then push_num (conf.locals.nums c.args.slot) conf else Stuck) (reads conf h).0 ∙ ap (λ (z : ℤ). push_num z conf) (reads conf h).1) t

pub returns-in-None-clause-takes : goal.returns-in-None-clause-takes
returns-in-None-clause-takes g c = λ v.
    let out = g.V.Vault.outside v in
    stuck-there out out c.args.m.now c.requires (λ conf. if is_num_slot conf c.args.slot then push_num (conf.locals.nums c.args.slot) conf else Stuck)
    (λ conf h. ap (λ (b : Bool). if b then push_num (conf.locals.nums c.args.slot) conf else Stuck) (c.in-None.ensures.reads v conf h))

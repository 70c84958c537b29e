use Rattle.std.proofs.Common.{refl, rules}
use Rattle.ps_stepping.specs.Machine.{push_ref}
use Rattle.machine_core.specs.Holding.{object_in}
use Rattle.machine_core.specs.inside.Taking.{TakesRef}
use Rattle.machine_core.proofs.Between.{top-ref-stays, no-top-ref}
use Rattle.machine_core.proofs.values.dup_ref.Goals as goal

pub returns-in-Some-clause-takes : goal.returns-in-Some-clause-takes
returns-in-Some-clause-takes g c = λ v.
    let out = g.V.Vault.outside v in
    let t : TakesRef out out push_ref c.args.m.now (object_in c.in-Some.word) c.push_ref.new.m c.push_ref.result = search (rules, c.push_ref.ensures.takes v) in
    top-ref-stays out out c.args.m.now c.push_ref.new.m c.push_ref.result c.in-Some.word push_ref (λ conf value d. push_ref value conf) c.in-Some.ensures.named (c.in-Some.ensures.top v)
    (λ conf d value. refl) t

pub returns-in-None-clause-takes : goal.returns-in-None-clause-takes
returns-in-None-clause-takes g c = λ v. let out = g.V.Vault.outside v in no-top-ref out out c.args.m.now c.requires (λ conf value d. push_ref value conf) (c.in-None.ensures.top v)

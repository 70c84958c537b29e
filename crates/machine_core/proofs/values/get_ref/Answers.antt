use Rattle.std.proofs.Common.{ap, Bool, rules}
use Rattle.std.specs.Prelude.{if◌then◌else◌}
use Rattle.ps_stepping.specs.Machine.{push_ref, is_ref_slot, Stuck}
use Rattle.machine_core.specs.Holding.{object_in}
use Rattle.machine_core.specs.inside.Taking.{TakesRef}
use Rattle.machine_core.proofs.Between.{local-leads, stuck-there}
use Rattle.machine_core.proofs.values.get_ref.Goals as goal

pub returns-in-Some-clause-takes : goal.returns-in-Some-clause-takes
returns-in-Some-clause-takes g c = λ v.
    let out = g.V.Vault.outside v in
    let reads = c.in-Some.ensures.reads v in
    let t : TakesRef out out push_ref c.args.m.now (object_in c.in-Some.word) c.push_ref.new.m c.push_ref.result = search (rules, c.push_ref.ensures.takes v) in
    local-leads out out c.args.m.now c.push_ref.new.m c.push_ref.result c.args.slot c.in-Some.word push_ref
    (λ conf. if is_ref_slot conf c.args.slot then push_ref (conf.locals.refs c.args.slot) conf else Stuck) c.in-Some.ensures.named reads
    (λ conf h. ap (λ (b : Bool). if b then push_ref (conf.locals.refs c.args.slot) conf else Stuck) (reads conf h).0) t

pub returns-in-None-clause-takes : goal.returns-in-None-clause-takes
returns-in-None-clause-takes g c = λ v.
    let out = g.V.Vault.outside v in
    stuck-there out out c.args.m.now c.requires (λ conf. if is_ref_slot conf c.args.slot then push_ref (conf.locals.refs c.args.slot) conf else Stuck)
    (λ conf h. ap (λ (b : Bool). if b then push_ref (conf.locals.refs c.args.slot) conf else Stuck) (c.in-None.ensures.reads v conf h))

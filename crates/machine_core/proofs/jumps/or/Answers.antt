use Rattle.std.proofs.Common.{◌≡◌, true, false, rules, ap, Bool}
use Rattle.std.specs.Prelude.{if◌then◌else◌}
use Rattle.ps_stepping.specs.ps_heap.Values.{is_one}
use Rattle.ps_stepping.specs.Machine.{on, forward}
use Rattle.machine_core.proofs.Between.{top-stays, top-drops, no-top}
use Rattle.machine_core.proofs.jumps.or.Goals as goal

pub returns-in_default-clause-takes : goal.returns-in_default-clause-takes
returns-in_default-clause-takes g c = λ v. let out = g.V.Vault.outside v in no-top out out c.args.m.now c.requires (λ conf z d. if is_one z then forward c.args.own c.args.to conf else on d) (c.in_default.ensures v)

pub returns-then-is_one-clause-takes : goal.returns-then-is_one-clause-takes
returns-then-is_one-clause-takes g c =
    let z = c.in-Some.z in
    let one : is_one z ≡ true = search rules in
    λ v.
    let out = g.V.Vault.outside v in
    top-stays out out c.args.m.now c.forward.new.m c.forward.result z (forward c.args.own c.args.to) (λ conf z d. if is_one z then forward c.args.own c.args.to conf else on d) (c.in-Some.ensures v)
    (λ conf d. ap (λ (b : Bool). if b then forward c.args.own c.args.to conf else on d) one) (c.forward.ensures.takes v)

pub returns-clause-takes : goal.returns-clause-takes
returns-clause-takes g c =
    let z = c.in-Some.z in
    let one : is_one z ≡ false = search rules in
    λ v.
    let out = g.V.Vault.outside v in
    top-drops out out c.args.m.now c.drop_num.new.m c.drop_num.result z on (λ conf z d. if is_one z then forward c.args.own c.args.to conf else on d) (c.in-Some.ensures v)
    (λ conf d. ap (λ (b : Bool). if b then forward c.args.own c.args.to conf else on d) one) (c.drop_num.ensures.takes v)

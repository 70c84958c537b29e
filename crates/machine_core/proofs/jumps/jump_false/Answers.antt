use Rattle.std.proofs.Common.{◌≡◌, true, false, rules, ap, Bool}
use Rattle.std.specs.Prelude.{if◌then◌else◌}
use Rattle.ps_stepping.specs.ps_heap.Values.{is_one}
use Rattle.ps_stepping.specs.Machine.{pop_num, on, forward}
use Rattle.machine_core.proofs.Between.{taken-then, same-step}
use Rattle.machine_core.proofs.jumps.jump_false.Goals as goal

pub returns-then-is_one-clause-takes : goal.returns-then-is_one-clause-takes
returns-then-is_one-clause-takes g c =
    let mid = c.pop_num.new.m in
    let z = c.in-Some.z in
    let one : is_one z ≡ true = search rules in
    λ v.
    let out = g.V.Vault.outside v in
    taken-then out out c.args.m.now mid mid c.quiet.result c.in-Some.ensures.leaves pop_num z (λ z d. if is_one z then on d else forward c.args.own c.args.to d) (c.in-Some.ensures.taken v)
    (same-step out out mid mid c.quiet.result on _ (λ d. ap (λ (b : Bool). if b then on d else forward c.args.own c.args.to d) one) (c.quiet.ensures.takes v))

pub returns-clause-takes : goal.returns-clause-takes
returns-clause-takes g c =
    let mid = c.pop_num.new.m in
    let z = c.in-Some.z in
    let one : is_one z ≡ false = search rules in
    λ v.
    let out = g.V.Vault.outside v in
    taken-then out out c.args.m.now mid c.forward.new.m c.forward.result c.in-Some.ensures.leaves pop_num z (λ z d. if is_one z then on d else forward c.args.own c.args.to d) (c.in-Some.ensures.taken v)
    (same-step out out mid c.forward.new.m c.forward.result (forward c.args.own c.args.to) _ (λ d. ap (λ (b : Bool). if b then on d else forward c.args.own c.args.to d) one) (c.forward.ensures.takes v))

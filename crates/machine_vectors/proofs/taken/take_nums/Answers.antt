use Rattle.std.proofs.Common.{◌≡◌, ℤ, List, drop, length, replicate, arith, rules, subst}
use Rattle.machine_core.specs.joint_ops.Operands.{AreForIn}
use Rattle.machine_vectors.specs.inside.Taking.{kept_values}
use Rattle.machine_vectors.proofs.WordsTaken.{few-nums, nums-taken}
use Rattle.machine_vectors.proofs.taken.take_nums.Goals as goal

pub returns-in_default-clause-takes : goal.returns-in_default-clause-takes
returns-in_default-clause-takes g c = λ v.
    few-nums c.args.m.now (g.V.Vault.outside v) c.args.n c.args.form (omega (arith, c.in_default.ensures, c.len.ensures))

pub returns-clause-near : goal.returns-clause-near
returns-clause-near g c = λ all. c.lay_nums.ensures.near c.args.m.now.objects

pub returns-clause-takes : goal.returns-clause-takes
returns-clause-takes g c =
    let m = c.args.m.now in
    let f = c.args.form in
    let first = c.in-Some.first in
    let cut = c.truncate.ensures in
    let laid = c.lay_nums.new.values in
    let same : c.split_at.result.1.now ≡ drop first m.nums.own = search rules in
    λ v.
    let out = g.V.Vault.outside v in
    nums-taken m out c.args.n f first c.truncate.new.self laid cut.below cut.own (omega (arith, c.in-Some.ensures.0, c.len.ensures)) c.in-Some.ensures.1
    (λ names.
    subst (λ (zs : List ℤ). AreForIn m.objects out names (replicate (length zs) f) laid.items (kept_values f zs)) same
    (c.lay_nums.ensures.laid v m.objects names))

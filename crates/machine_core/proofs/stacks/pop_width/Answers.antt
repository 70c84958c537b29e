use Rattle.std.proofs.Common.{◌≡◌, rules}
use Rattle.machine_core.proofs.Between.{width-taken}
use Rattle.machine_core.proofs.stacks.pop_width.Goals as goal

pub returns-in-Some-clause-taken : goal.returns-in-Some-clause-taken
returns-in-Some-clause-taken g c =
    let one : c.args.given ≡ 1 = search rules in
    λ v.
    let t = width-taken (g.V.Vault.outside v) c.args.m.now c.pop_num.new.m c.args.given c.in-Some.width one (c.in-Some.ensures.taken v) in
    search (rules, t)

use Rattle.std.proofs.Common.{◌≡◌, suc, ◌-◌, rules, refl, arith}
use Rattle.machine_core.proofs.Jumping.{turns_to}
use Rattle.machine_core.proofs.jumps.turn_to.Goals as goal

pub returns-clause-takes : goal.returns-clause-takes
returns-clause-takes g c =
    let m = c.args.m.now in
    let some : m.turns ≡ suc (m.turns - 1) = omega (arith, c.if-m-eq0.false) in
    λ v. record {
      sound = search rules;
      names = search rules;
      size = refl;
      does = λ conf h. turns_to m (g.V.Vault.outside v) conf h c.args.to (m.turns - 1) some;
    }

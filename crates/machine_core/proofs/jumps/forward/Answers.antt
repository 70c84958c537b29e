use Rattle.std.proofs.Common.{rules, refl}
use Rattle.machine_core.proofs.Jumping.{goes_forward}
use Rattle.machine_core.proofs.jumps.forward.Goals as goal

pub returns-clause-takes : goal.returns-clause-takes
returns-clause-takes g c = λ v. record {
  sound = search rules;
  names = search rules;
  size = refl;
  does = λ conf h. goes_forward c.args.m.now (g.V.Vault.outside v) conf h c.args.own c.args.to c.if-to-own.false;
}

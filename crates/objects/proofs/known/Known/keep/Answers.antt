use Rattle.std.proofs.Common.{subst}
use Rattle.joint_ops.specs.heap_texts.declared.fault.OpFault.{OpFault}
use Rattle.objects.specs.Lasting.{Lasts, UnlessBroken}
use Rattle.objects.proofs.KnownLaws.{right-stays}
use Rattle.objects.proofs.known.Known.keep.Goals as goal

pub returns-in-Trap-clause-right : goal.returns-in-Trap-clause-right
returns-in-Trap-clause-right c old new right lasts =
    right-stays old new c.args.self.now right (subst (λ (x : OpFault). UnlessBroken x (Lasts old new)) c.in-Trap.is lasts)

pub returns-in-Swizzle-clause-right : goal.returns-in-Swizzle-clause-right
returns-in-Swizzle-clause-right c old new right lasts = c.clear.ensures new

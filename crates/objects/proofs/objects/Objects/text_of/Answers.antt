use Rattle.std.proofs.Common.{subst}
use Rattle.joint_ops.specs.swizzle.Heap.{Heap}
use Rattle.joint_ops.specs.Code.{StandsBy}
use Rattle.objects.proofs.LastingLaws.{keeps-lasts}
use Rattle.objects.proofs.KnownLaws.{right-stays}
use Rattle.objects.proofs.objects.Objects.text_of.Goals as goal

pub invariant_of-self : goal.invariant_of-self
invariant_of-self g c =
    right-stays c.self.inside.sw c.text_of-got.new.sw c.self.inside.known c.self.invariant (keeps-lasts c.self.inside.sw c.text_of-got.new.sw c.in-Ok.ensures.keeps)

pub invariant_of-self-in-Err : goal.invariant_of-self-in-Err
invariant_of-self-in-Err g c = c.clear.ensures c.text_of-got.new.sw

pub returns-in-Ok-clause-world : goal.returns-in-Ok-clause-world
returns-in-Ok-clause-world g c =
    subst (λ (x : Heap). StandsBy x c.text_of-got.new.sw (g.V.Vault.outside c.args.vault.now) (g.V.Vault.outside c.text_of-got.new.vault) c.args.code) c.self.view_is
    c.in-Ok.ensures.world

use Rattle.std.proofs.Common.{subst}
use Rattle.joint_ops.specs.swizzle.Heap.{Heap}
use Rattle.objects.proofs.ClassLaws.{TellsAll}
use Rattle.objects.proofs.objects.Objects.is_class.Goals as goal

pub returns-clause-got : goal.returns-clause-got
returns-clause-got g c =
    subst (λ (x : Heap). TellsAll x c.tell_class.new.sw (g.V.Vault.outside c.args.vault.now) (g.V.Vault.outside c.tell_class.new.vault) c.args.code
    c.args.constant c.args.object c.tell_class.result) c.self.view_is c.tell_class.ensures.got

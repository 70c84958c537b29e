use Rattle.std.proofs.Common.{sym, subst}
use Rattle.joint_ops.specs.swizzle.Heap.{Heap}
use Rattle.joint_ops.specs.World.{DenotesIn}
use Rattle.objects.proofs.objects.Objects.sort_of.Goals as goal

pub returns-clause-value : goal.returns-clause-value
returns-clause-value g c vault names v d =
    c.sort_of.ensures.value vault names v (subst (λ (x : Heap). DenotesIn x (g.V.Vault.outside vault) names c.args.to v) (sym c.self.view_is) d)

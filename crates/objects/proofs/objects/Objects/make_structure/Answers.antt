use Rattle.std.proofs.Common.{subst}
use Rattle.joint_ops.specs.swizzle.Heap.{Heap}
use Rattle.objects.proofs.ClassLaws.{MakesAll}
use Rattle.objects.proofs.objects.Objects.make_structure.Goals as goal

pub returns-clause-made : goal.returns-clause-made
returns-clause-made g c =
    subst (λ (x : Heap). MakesAll x c.make_named.new.sw (g.V.Vault.outside c.args.vault.now) (g.V.Vault.outside c.make_named.new.vault) c.args.code
    c.args.constant c.args.fields.now c.make_named.result) c.self.view_is c.make_named.ensures.made

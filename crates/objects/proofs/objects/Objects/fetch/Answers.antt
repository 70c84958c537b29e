use Rattle.std.proofs.Common.{subst, List}
use Rattle.std.specs.Prelude.{OnOk}
use Rattle.joint_ops.specs.obj_layout.declared.reference.Reference.{Reference}
use Rattle.joint_ops.specs.swizzle.Heap as area
use Rattle.joint_ops.specs.ps_heap.Objects.{Heap}
use Rattle.joint_ops.specs.World.{IsWorld, Carried}
use Rattle.objects.proofs.objects.Objects.fetch.Goals as goal

pub returns-clause-world : goal.returns-clause-world
returns-clause-world g c =
    let before = g.V.Vault.outside c.args.vault.now in
    let after = g.V.Vault.outside c.fetch_pid.new.vault in
    subst (λ (x : area.Heap). OnOk c.fetch_pid.result ((of : Heap) (names : List Reference) → IsWorld x before of names
    → Carried x c.fetch_pid.new.sw before after of names)) c.self.view_is c.fetch_pid.ensures.world

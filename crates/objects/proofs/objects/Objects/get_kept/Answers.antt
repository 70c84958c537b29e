use Rattle.std.proofs.Common.{ℕ, List, Option, Some, Ok, Err, subst}
use Rattle.std.specs.Prelude.{Result}
use Rattle.joint_ops.specs.ps_outside.Outside.{Outside}
use Rattle.joint_ops.specs.obj_layout.Stored.{Space}
use Rattle.joint_ops.specs.obj_layout.declared.reference.Reference.{Reference}
use Rattle.joint_ops.specs.swizzle.declared.fault.SwizzleFault.{SwizzleFault}
use Rattle.joint_ops.specs.swizzle.Heap.{Heap}
use Rattle.joint_ops.specs.ps_heap.Objects as meaning
use Rattle.joint_ops.specs.heap_places.declared.value.Value as code
use Rattle.joint_ops.specs.World.{IsWorld, DenotesScopeIn}
use Rattle.joint_procedures.specs.Scopes.{ReadsKept}
use Rattle.objects.proofs.LastingLaws.{keeps-lasts}
use Rattle.objects.proofs.KnownLaws.{right-stays}
use Rattle.objects.proofs.objects.Objects.get_kept.Goals as goal

abbrev Got : Heap → Heap → Outside Space → Outside Space → ℕ → ℕ → ℕ → Result code.Value SwizzleFault → Type 0
Got old new before after scope up name result =
    (of : meaning.Heap) (names : List Reference) (within : Option ℕ) → IsWorld old before of names → DenotesScopeIn old before names (Some scope) within
    → ReadsKept old new before after of names within up name result

pub invariant_of-self : goal.invariant_of-self
invariant_of-self g c =
    let here = c.self.inside.sw in
    let new = c.get_kept-got.new.sw in
    let right = right-stays here new c.self.inside.known c.self.invariant (keeps-lasts here new c.in-Ok.ensures.keeps) in
    record { layouts = c.in-Ok.ensures.so; fields = right.fields; vectors = right.vectors; procedures = right.procedures; makes = right.makes }

pub invariant_of-self-in-Err : goal.invariant_of-self-in-Err
invariant_of-self-in-Err g c = c.clear.ensures c.get_kept-got.new.sw

pub returns-in-Ok-clause-got : goal.returns-in-Ok-clause-got
returns-in-Ok-clause-got g c =
    subst (λ (x : Heap). Got x c.get_kept-got.new.sw (g.V.Vault.outside c.args.vault.now) (g.V.Vault.outside c.get_kept-got.new.vault) c.args.scope c.args.up c.args.name (Ok c.in-Ok.given))
    c.self.view_is c.in-Ok.ensures.got

pub returns-in-Err-clause-got : goal.returns-in-Err-clause-got
returns-in-Err-clause-got g c =
    subst (λ (x : Heap). Got x c.get_kept-got.new.sw (g.V.Vault.outside c.args.vault.now) (g.V.Vault.outside c.get_kept-got.new.vault) c.args.scope c.args.up c.args.name (Err c.in-Err.fault))
    c.self.view_is c.in-Err.ensures.got

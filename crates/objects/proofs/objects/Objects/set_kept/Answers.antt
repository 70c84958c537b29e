use Rattle.std.proofs.Common.{◌≡◌, ℕ, List, Option, Some, Ok, Err, subst}
use Rattle.std.specs.Prelude.{Result}
use Rattle.joint_ops.specs.ps_outside.Outside.{Outside}
use Rattle.joint_ops.specs.obj_layout.Stored.{Space}
use Rattle.joint_ops.specs.obj_layout.declared.reference.Reference.{Reference}
use Rattle.joint_ops.specs.swizzle.declared.fault.SwizzleFault.{SwizzleFault}
use Rattle.joint_ops.specs.swizzle.Heap.{Heap}
use Rattle.joint_ops.specs.heap_places.declared.value.Value as code
use Rattle.joint_ops.specs.ps_heap.Objects as meaning
use Rattle.joint_ops.specs.ps_heap.Values as meant
use Rattle.joint_ops.specs.World.{IsWorld, DenotesScopeIn, IsForIn}
use Rattle.joint_procedures.specs.Scopes.{IsInt, WritesKept}
use Rattle.objects.proofs.KnownLaws.{right-stays}
use Rattle.objects.proofs.ScopeLaws.{kept-lasts}
use Rattle.objects.proofs.objects.Objects.set_kept.Goals as goal

abbrev Sets : Heap → Heap → Outside Space → Outside Space → ℕ → ℕ → ℕ → code.Value → Result (Unit {0}) SwizzleFault → Type 0
Sets old new before after scope up name to result =
    (of : meaning.Heap) (names : List Reference) (within : Option ℕ) (v : meant.Value) → IsWorld old before of names
    → DenotesScopeIn old before names (Some scope) within → IsInt to → IsForIn old before names to v
    → WritesKept old new before after of names within up name to v result

pub invariant_of-self : goal.invariant_of-self
invariant_of-self g c =
    let here = c.self.inside.sw in
    let new = c.set_kept-got.new.sw in
    let right = right-stays here new c.self.inside.known c.self.invariant (kept-lasts here new c.args.name c.args.to c.in-Ok.ensures.does) in
    record { layouts = c.in-Ok.ensures.so; fields = right.fields; vectors = right.vectors; procedures = right.procedures; makes = right.makes }

pub invariant_of-self-in-Err : goal.invariant_of-self-in-Err
invariant_of-self-in-Err g c = c.clear.ensures c.set_kept-got.new.sw

pub returns-in-Ok-clause-set : goal.returns-in-Ok-clause-set
returns-in-Ok-clause-set g c =
    subst (λ (x : Heap). Sets x c.set_kept-got.new.sw (g.V.Vault.outside c.args.vault.now) (g.V.Vault.outside c.set_kept-got.new.vault) c.args.scope c.args.up c.args.name c.args.to
    (Ok c.in-Ok.given)) c.self.view_is c.in-Ok.ensures.set

pub returns-in-Err-clause-set : goal.returns-in-Err-clause-set
returns-in-Err-clause-set g c =
    subst (λ (x : Heap). Sets x c.set_kept-got.new.sw (g.V.Vault.outside c.args.vault.now) (g.V.Vault.outside c.set_kept-got.new.vault) c.args.scope c.args.up c.args.name c.args.to
    (Err c.in-Err.fault)) c.self.view_is c.in-Err.ensures.set

pub returns-in-Ok-clause-size : goal.returns-in-Ok-clause-size
returns-in-Ok-clause-size g c =
    let new = c.set_kept-got.new.sw in
    subst (λ (x : Heap). new.size ≡ x.size) c.self.view_is
    (kept-lasts c.self.inside.sw new c.args.name c.args.to c.in-Ok.ensures.does).size

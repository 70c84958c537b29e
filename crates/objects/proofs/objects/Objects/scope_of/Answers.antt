use Rattle.std.proofs.Common.{ℕ, List, Option, Some, Ok, Err, subst}
use Rattle.std.specs.Prelude.{Result}
use Rattle.joint_ops.specs.ps_outside.Outside.{Outside}
use Rattle.joint_ops.specs.obj_layout.Stored.{Space}
use Rattle.joint_ops.specs.obj_layout.declared.reference.Reference.{Reference}
use Rattle.joint_ops.specs.swizzle.declared.fault.SwizzleFault.{SwizzleFault}
use Rattle.joint_ops.specs.swizzle.Heap.{Heap}
use Rattle.joint_ops.specs.ps_heap.Objects as meaning
use Rattle.joint_ops.specs.ps_heap.Values as meant
use Rattle.ps_base.specs.CodeUnit.{UnitView}
use Rattle.joint_ops.specs.World.{IsWorld, DenotesIn}
use Rattle.joint_procedures.specs.Procedures.{AnswersScope}
use Rattle.objects.proofs.LastingLaws.{keeps-lasts}
use Rattle.objects.proofs.KnownLaws.{right-stays}
use Rattle.objects.proofs.objects.Objects.scope_of.Goals as goal

abbrev Got : Heap → Heap → Outside Space → Outside Space → ℕ → Result (Option ℕ) SwizzleFault → Type 0
Got old new before after at result =
    (of : meaning.Heap) (names : List Reference) (unit : UnitView) (within : Option ℕ) → IsWorld old before of names
    → DenotesIn old before names (Some at) (meant.Procedure (meant.as_compiled unit) within) → AnswersScope old new before after of names within result

pub invariant_of-self : goal.invariant_of-self
invariant_of-self g c =
    right-stays c.self.inside.sw c.scope_of-got.new.sw c.self.inside.known c.self.invariant (keeps-lasts c.self.inside.sw c.scope_of-got.new.sw c.in-Ok.ensures.keeps)

pub invariant_of-self-in-Err : goal.invariant_of-self-in-Err
invariant_of-self-in-Err g c = c.clear.ensures c.scope_of-got.new.sw

pub returns-in-Ok-clause-got : goal.returns-in-Ok-clause-got
returns-in-Ok-clause-got g c =
    subst (λ (x : Heap). Got x c.scope_of-got.new.sw (g.V.Vault.outside c.args.vault.now) (g.V.Vault.outside c.scope_of-got.new.vault) c.args.procedure (Ok c.in-Ok.given))
    c.self.view_is c.in-Ok.ensures.got

pub returns-in-Err-clause-got : goal.returns-in-Err-clause-got
returns-in-Err-clause-got g c =
    subst (λ (x : Heap). Got x c.scope_of-got.new.sw (g.V.Vault.outside c.args.vault.now) (g.V.Vault.outside c.scope_of-got.new.vault) c.args.procedure (Err c.in-Err.fault))
    c.self.view_is c.in-Err.ensures.got

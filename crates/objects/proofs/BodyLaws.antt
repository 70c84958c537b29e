-- Bodies of procedures that are fetched: the code object first, then the scope.
use Rattle.std.proofs.Common.{◌≡◌, ℕ, List, Option, Some, None, IfSome, sym, subst}
use Rattle.std.specs.Prelude.{Result, Ok, Err, IfOk}
use Rattle.ps_base.specs.CodeUnit.{UnitView}
use Rattle.joint_ops.specs.ps_outside.Outside.{Outside}
use Rattle.joint_ops.specs.obj_layout.Stored.{Space}
use Rattle.joint_ops.specs.obj_layout.declared.reference.Reference.{Reference}
use Rattle.joint_ops.specs.swizzle.declared.fault.SwizzleFault.{SwizzleFault}
use Rattle.joint_ops.specs.swizzle.Heap as area
use Rattle.joint_ops.specs.swizzle.Heap.{IsHeap, IsHeld}
use Rattle.joint_ops.specs.swizzle.Reading.{LeavesOutside}
use Rattle.joint_ops.specs.swizzle.Touch.{Keeps, Denotes}
use Rattle.joint_ops.specs.swizzle.Joint.{shown_at}
use Rattle.joint_ops.specs.heap_places.Shapes.{slot_of}
use Rattle.joint_ops.specs.proc_values.Reading.{IsPlaceOf}
use Rattle.joint_ops.specs.ps_heap.Values.{Procedure, as_compiled}
use Rattle.joint_ops.specs.ps_heap.Objects.{Heap}
use Rattle.joint_ops.specs.World.{IsWorld, DenotesIn}
use Rattle.joint_ops.proofs.SeenLaws.{breaks-earlier}
use Rattle.joint_ops.proofs.GainLaws.{nothing-done}
use Rattle.joint_ops.proofs.RewriteLaws.{stands-then}
use Rattle.joint_procedures.specs.Procedures.{AnswersCode, AnswersScope, HasSlot}
use Rattle.objects.specs.declared.body.Body.{Body}
use Rattle.objects.specs.Bodies.{AnswersBody, HasBody, HasCode}
use Rattle.objects.proofs.LastingLaws.{keeps-lasts}
use Rattle.objects.proofs.ProcedureEntries.{slot-stays, body-is}

abbrev pub GotCode : area.Heap → area.Heap → Outside Space → Outside Space → ℕ → Result ℕ SwizzleFault → Type 0
GotCode old new before after at result =
    (of : Heap) (names : List Reference) (u : UnitView) (within : Option ℕ) → IsWorld old before of names
    → DenotesIn old before names (Some at) (Procedure (as_compiled u) within) → AnswersCode old new before after of names u result

abbrev pub GotScope : area.Heap → area.Heap → Outside Space → Outside Space → ℕ → Result (Option ℕ) SwizzleFault → Type 0
GotScope old new before after at result =
    (of : Heap) (names : List Reference) (u : UnitView) (within : Option ℕ) → IsWorld old before of names
    → DenotesIn old before names (Some at) (Procedure (as_compiled u) within) → AnswersScope old new before after of names within result

abbrev pub GotBody : area.Heap → area.Heap → Outside Space → Outside Space → ℕ → Result Body SwizzleFault → Type 0
GotBody old new before after at result =
    (of : Heap) (names : List Reference) (u : UnitView) (within : Option ℕ) → IsWorld old before of names
    → DenotesIn old before names (Some at) (Procedure (as_compiled u) within) → AnswersBody old new before after of names u within result

module _ (old mid new : area.Heap) (start before after : Outside Space) (at : ℕ) (h : IsHeap mid) (keeps : Keeps old mid)
    (leaves : LeavesOutside start before) (code : ℕ) (got : GotCode old mid start before at (Ok code)) where
  pub scope-failed : (fault : SwizzleFault) → GotScope mid new before after at (Err fault) → GotBody old new start after at (Err fault)
  scope-failed fault scope of names u within w d =
      let a = got of names u within w d in
      breaks-earlier old mid new start before after fault h keeps leaves
      (scope of names u within a.stands.world (a.stands.carries.values (Some at) (Procedure (as_compiled u) within) d))

  pub body-fetched : (to : Option ℕ) (body : Body) → IsHeap new → GotScope mid new before after at (Ok to) → HasBody new at body → GotBody old new start after at (Ok body)
  body-fetched to body now scope is of names u within w d =
      let a = got of names u within w d in
      let v = Procedure (as_compiled u) within in
      let there = a.stands.carries.values (Some at) v d in
      let t = (scope of names u within a.stands.world there).1 in (
        body-is new after names at u within body now is (t.carries.values (Some at) v there),
        stands-then old mid new start before after of of names a.stands t,
      )

-- the slots of the closure, and the code object, as they lie in the end
pub has-body : (mid new : area.Heap) (at code : ℕ) (to : Option ℕ) (body : Body) → Keeps mid new → HasSlot mid at 0 (Some code) → HasSlot new at 1 to
    → body.code ≡ code → body.scope ≡ to → HasCode new body → HasBody new at body
has-body mid new at code to body keeps first second code_is scope_is there = record {
  code_is = subst (λ (n : ℕ). HasSlot new at 0 (Some n)) (sym code_is) (slot-stays mid new (keeps-lasts mid new keeps) at 0 (Some code) first);
  scope_is = subst (HasSlot new at 1) (sym scope_is) second;
  code = there;
}

-- A body that is known is answered where nothing is done.
pub body-known : (here : area.Heap) (outside : Outside Space) (at : ℕ) (body : Body) → IsHeap here → HasBody here at body
    → GotBody here here outside outside at (Ok body)
body-known here outside at body h is of names u within w d =
    (body-is here outside names at u within body h is d, nothing-done here outside of names h w)

pub body-place : (here : area.Heap) (at : ℕ) (result : Result Body SwizzleFault) → IfOk result (HasBody here at)
    → IfOk result (λ body. IsPlaceOf here body.code body.place)
body-place here at (Ok body) is = is.code.place
body-place here at (Err fault) is = tt

pub body-scope : (here : area.Heap) (at : ℕ) (result : Result Body SwizzleFault) → IfOk result (HasBody here at)
    → IfOk result (λ body. IfSome body.scope (IsHeld here))
body-scope here at (Ok body) is = held body.scope is.scope_is.denotes
  where
    held : (to : Option ℕ) → Denotes here to (slot_of (shown_at here at) 1) → IfSome to (IsHeld here)
    held None d = tt
    held (Some there) d = d.0
body-scope here at (Err fault) is = tt

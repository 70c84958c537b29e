-- Structures that are made after the text of their class was fetched.
use Rattle.std.proofs.Common.{inl, ℕ, List, [], ◌∷◌, sym, ◌∙◌}
use Rattle.std.specs.Prelude.{Result, Ok, Err}
use Rattle.joint_ops.specs.ps_outside.Outside.{Outside}
use Rattle.joint_ops.specs.obj_layout.Stored.{Space}
use Rattle.joint_ops.specs.obj_layout.declared.reference.Reference.{Reference}
use Rattle.joint_ops.specs.swizzle.Heap as area
use Rattle.joint_ops.specs.swizzle.Reading.{LeavesOutside}
use Rattle.joint_ops.specs.swizzle.Touch.{Keeps}
use Rattle.joint_ops.proofs.of_swizzle.TouchLaws.{keeps-trans}
use Rattle.joint_ops.specs.text_forms.declared.forms.Form.{Form}
use Rattle.joint_ops.specs.heap_texts.declared.fault.OpFault.{OpFault}
use Rattle.joint_ops.specs.heap_texts.declared.fault.OpFault.TheVariants as op
use Rattle.joint_ops.specs.heap_places.Filling.{AreNear}
use Rattle.joint_ops.specs.heap_places.declared.value.Value as code
use Rattle.joint_ops.specs.heap_ops.Outcomes.{UnlessFault}
use Rattle.joint_ops.specs.ps_heap.Values.{Value}
use Rattle.joint_ops.specs.ps_heap.Texts.{Attempt}
use Rattle.joint_ops.specs.ps_heap.Objects.{Heap, Object}
use Rattle.joint_ops.specs.World.{Carries, Stands, BreaksAsReading}
use Rattle.joint_ops.specs.Operands.{AreForIn}
use Rattle.joint_ops.specs.Made.{Makes, BreaksAsMaking}
use Rattle.joint_ops.proofs.RewriteLaws.{for-carried}
use Rattle.objects.specs.Classes.{MakesLater}
use Rattle.objects.proofs.PuttingLaws.{near-later}

pub are-for-later : (old mid : area.Heap) (start before : Outside Space) (names : List Reference) (fs : List Form) (cs : List code.Value) (vs : List Value)
    → Carries old mid start before names names → AreForIn old start names fs cs vs → AreForIn mid before names fs cs vs
are-for-later old mid start before names [] [] [] k a = tt
are-for-later old mid start before names (f ∷ fs) (c ∷ cs) (v ∷ vs) k a =
    (a.0, for-carried old mid start before names names c v k (a.1), are-for-later old mid start before names fs cs vs k (a.2))
are-for-later old mid start before names [] [] (v ∷ vs) k a = absurd a
are-for-later old mid start before names [] (c ∷ cs) [] k a = absurd a
are-for-later old mid start before names [] (c ∷ cs) (v ∷ vs) k a = absurd a
are-for-later old mid start before names (f ∷ fs) [] [] k a = absurd a
are-for-later old mid start before names (f ∷ fs) [] (v ∷ vs) k a = absurd a
are-for-later old mid start before names (f ∷ fs) (c ∷ cs) [] k a = absurd a

pub are-near-later : (old mid : area.Heap) (cs : List code.Value) → Keeps old mid → AreNear old cs → AreNear mid cs
are-near-later old mid [] keeps near = tt
are-near-later old mid (c ∷ cs) keeps near = (near-later old mid c keeps (near.0), are-near-later old mid cs keeps (near.1))

pub makes-later : (old mid new : area.Heap) (start before : Outside Space) (of : Heap) (names : List Reference) (denoting : ℕ → Value) (attempt : Attempt Object)
    (result : Result ℕ OpFault) → Stands old mid start before of names → Makes mid new before of names denoting attempt result
    → MakesLater old new start before of names denoting attempt result
makes-later old mid new start before of names denoting attempt (Ok at) s m = record { mid = mid; read = s; made = m }
makes-later old mid new start before of names denoting attempt (Err (op.Trap t)) s m = record { mid = mid; read = s; made = m }
makes-later old mid new start before of names denoting attempt (Err (op.Swizzle fault)) s m = inl (record { mid = mid; read = s; made = m })

pub made-keeps : {T : Type 0} (old mid new : area.Heap) (result : Result T OpFault) → Keeps old mid → Keeps mid new → UnlessFault result (Keeps old new)
made-keeps old mid new (Ok made) first then = keeps-trans old mid new first then
made-keeps old mid new (Err (op.Trap t)) first then = keeps-trans old mid new first then
made-keeps old mid new (Err (op.Swizzle fault)) first then = tt

pub made-breaks : {T : Type 0} (mid new : area.Heap) (start before : Outside Space) (result : Result T OpFault) → LeavesOutside start before
    → BreaksAsMaking mid new result → BreaksAsReading start before result
made-breaks mid new start before (Ok made) leaves b = tt
made-breaks mid new start before (Err (op.Trap t)) leaves b = tt
made-breaks mid new start before (Err (op.Swizzle fault)) leaves b = record {
  outside = leaves;
  cause = λ e. let both = sym b.fault_is ∙ e in absurd (cc);
  other = λ e. let both = sym b.fault_is ∙ e in cc;
  full = λ used wanted capacity e. let both = sym b.fault_is ∙ e in cc;
  pages = λ held wanted pages e. let both = sym b.fault_is ∙ e in cc;
}

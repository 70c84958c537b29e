-- Touches and makings are gains of the area.
use Rattle.std.proofs.Common.{inl, inr, ◌⊎◌, ◌≡◌, ℕ, sym, ap, subst}
use Rattle.joint_ops.specs.ps_outside.Outside.{Outside}
use Rattle.joint_ops.specs.obj_layout.Objects.{HasContents}
use Rattle.joint_ops.specs.obj_layout.Stored.{Space}
use Rattle.joint_ops.specs.obj_layout.declared.reference.Reference.{Reference}
use Rattle.joint_ops.specs.obj_layout.declared.reference.Reference.TheVariants.{Nil, Pid, Local}
use Rattle.joint_ops.specs.swizzle.Objects.{Object}
use Rattle.joint_ops.specs.swizzle.Heap.{Heap, IsHeap, IsHeld}
use Rattle.joint_ops.specs.swizzle.Joint.{name_at}
use Rattle.joint_ops.specs.swizzle.Changes.{Within}
use Rattle.swizzle.proofs.MadeLaws.{made-object}
use Rattle.joint_ops.specs.Seeing.{Came, WasMade, Gains, seen}
use Rattle.joint_ops.proofs.SeenLaws.{Known, grows-within}
use Rattle.joint_ops.proofs.GainLaws as gain
use Rattle.joint_ops.proofs.GainLaws.{local-place, known-came}
use Rattle.joint_held.specs.Keeping.{MayBeTouched, IsTouch, IsMaking}

module _ (old new : Heap) (before after : Outside Space) (was_sound : IsHeap old) (sound : IsHeap new) where
  pub touch-gains : (reference : Reference) → MayBeTouched old before reference → IsTouch old new before after reference → Gains old new before after
  touch-gains reference may t = record {
    was_sound = was_sound;
    sound = sound;
    keeps = t.keeps;
    grows = grows;
    came = λ x held. elim (t.only x held) [ inl was ↦ inl was | inr e ↦ of reference may x held e ];
    contents = t.contents;
  }
    where
      grows : Within (seen old before) (seen new after)
      grows = grows-within old new before after t.keeps t.joint.grows t.contents

      known : (x : ℕ) (r : Reference) → IsHeld new x → name_at new x ≡ r → Known old before r → IsHeld old x ⊎ (Came old new before x ⊎ WasMade old new before x)
      known x r held e k = known-came old new before after was_sound sound t.keeps grows x held (subst (λ (m : Reference). Known old before m) (sym e) k)

      of : (r : Reference) → MayBeTouched old before r → (x : ℕ) → IsHeld new x → name_at new x ≡ r → IsHeld old x ⊎ (Came old new before x ⊎ WasMade old new before x)
      of Nil m x held e = known x Nil held e (inl Rattle.std.proofs.Common.refl)
      of (Local z) m x held e = inl (subst (IsHeld old) (sym (local-place new x z e)) m)
      of (Pid p) m x held e = known x (Pid p) held e (inr m)

module _ (old new : Heap) (outside : Outside Space) (was_sound : IsHeap old) (sound : IsHeap new) where
  pub made-gains : (at : ℕ) (object : Object) → IsMaking old new at object → Gains old new outside outside
  made-gains at object m =
      gain.made-gains old new outside at object m.whole.contents was_sound sound m.inside m.unstored
      (subst (λ (o : Object). HasContents o.header m.whole.contents) (made-object old new at object m.made) m.whole.counts) m.made

-- Classes by the constants that name them.
use Rattle.std.proofs.Common.{inl, inr, ◌≡◌, ◌≢◌, ℕ, List, [], ◌∷◌, sym, ap, ◌∙◌, subst, Some, None}
use Rattle.std.specs.Prelude.{Ok, Err}
use Rattle.ps_base.specs.CodeUnit.{ConstantView, ConstantsView, unit, text, literal}
use Rattle.ps_base.specs.declared.code_unit.Frame.{Frame}
use Rattle.joint_ops.specs.ps_outside.Outside.{Outside}
use Rattle.joint_ops.specs.obj_layout.Stored.{Space}
use Rattle.joint_ops.specs.obj_layout.declared.kind.Kind.TheVariants.{Text, Code}
use Rattle.joint_ops.specs.obj_layout.declared.vault.VaultFault.TheVariants.{Damaged}
use Rattle.joint_ops.specs.swizzle.declared.fault.SwizzleFault.{SwizzleFault}
use Rattle.joint_ops.specs.swizzle.declared.fault.SwizzleFault.TheVariants.{Vault}
use Rattle.joint_ops.specs.swizzle.Heap.{Heap, IsHeap, IsHeld, header_at, ref_at}
use Rattle.joint_ops.specs.swizzle.Joint.{name_of}
use Rattle.joint_ops.specs.swizzle.Text.{text_at}
use Rattle.joint_ops.specs.swizzle.Touch.{Denotes, Keeps}
use Rattle.joint_ops.proofs.of_swizzle.NameLaws.{name-not_nil}
use Rattle.joint_ops.proofs.of_swizzle.ReadingLaws.{reads-none}
use Rattle.joint_ops.proofs.of_heap_places.PlaceLaws.{slot-name}
use Rattle.joint_ops.proofs.of_heap_ops.ClassLaws.{pid-kept}
use Rattle.joint_ops.specs.proc_values.Loaded.{constant_numbered}
use Rattle.joint_ops.specs.proc_values.Reading.{HasConstant, IsDamaged}
use Rattle.joint_ops.specs.World.{IsUnitIn}
use Rattle.joint_ops.specs.Code.{AnswersConstant, DenotesConstant}
use Rattle.joint_ops.proofs.SeenLaws.{text-denoted}
use Rattle.joint_ops.proofs.CodeLaws.{has-code, answers-constant}
use Rattle.objects.specs.Fields.{IsConstantText}
use Rattle.objects.specs.Classes.{AnswersClass, NamesClass}

-- an object that lies in the area after others came was damaged before
pub damaged-earlier : (old new : Heap) (code : ℕ) (fault : SwizzleFault) → Keeps old new → IsHeld old code → IsDamaged new code fault → IsDamaged old code fault
damaged-earlier old new code fault keeps held d =
    (d.0, d.1, d.2 ∙ ap (λ (pid : ℕ). Vault (Damaged pid (d.0) (d.1))) (pid-kept old new code keeps held))

-- A code object refers to a text of the area: the constant of its unit is that text.
pub constant-is : (here : Heap) (outside : Outside Space) (code constant named : ℕ) (bytes : List ℕ) (row : ConstantsView) (frame : Frame) → IsHeap here
    → IsUnitIn here outside code (unit bytes row frame) → IsConstantText here code constant named
    → constant_numbered row constant ≡ Some (text (text_at here named))
constant-is here outside code constant named bytes row frame h u is =
    let slot = slot-name here code constant in
    let has : HasConstant here code constant = record {
      kind = is.code_kind;
      below = is.below;
      some = λ nil. name-not_nil here named (is.denotes.1 ∙ slot ∙ ap (name_of here) nil);
    } in
    let denotes : Denotes here (Some named) (name_of here (ref_at here code constant)) = subst (Denotes here (Some named)) slot is.denotes in
    let a = answers-constant here here outside outside code constant row h h is.code_held (has-code here outside code bytes row frame h u) (Ok named)
    (has, denotes, reads-none here outside (name_of here (ref_at here code constant) ∷ [])) in
    of (a.0) (a.1) (a.2)
  where
    of : (c : ConstantView) → constant_numbered row constant ≡ Some c → DenotesConstant here outside named c
        → constant_numbered row constant ≡ Some (text (text_at here named))
    of (text b) e d = e ∙ ap (λ (x : List ℕ). Some (text x)) (sym (text-denoted here outside [] named b h (d.1 [])).bytes_are)
    of (literal (unit b r f)) e d = let bad : Text ≡ Code = sym is.kind ∙ (has-code here outside named b r f h d).kind_is in absurd (cc)

pub named-class : (here : Heap) (outside : Outside Space) (code constant named : ℕ) (class : List ℕ) → IsHeap here
    → NamesClass here outside code constant class → IsConstantText here code constant named → text_at here named ≡ class
named-class here outside code constant named class h n is =
    let both : Some (text (text_at here named)) ≡ Some (text class) =
    sym (constant-is here outside code constant named n.bytes n.row n.frame h n.unit_is is) ∙ n.class_is in
    let same : text_at here named ≡ class = cc in
    same

module _ (old new : Heap) (before after : Outside Space) (code constant : ℕ) (row : ConstantsView) (now : IsHeap new) where
  -- The object of a constant is a text,
  pub class-got : (at : ℕ) → (header_at new at).kind ≡ Text → AnswersConstant old new before after code row constant (Ok at)
      → AnswersClass old new before after code row constant (Ok at)
  class-got at kind a = of (a.0) (a.1) (a.2)
    where
      of : (c : ConstantView) → constant_numbered row constant ≡ Some c → DenotesConstant new after at c
          → AnswersClass old new before after code row constant (Ok at)
      of (text b) e d = (b, e, d.1)
      of (literal (unit b r f)) e d = let bad : Text ≡ Code = sym kind ∙ (has-code new after at b r f now d).kind_is in absurd (cc)

  -- or it is none,
  pub no-class : (at : ℕ) (fault : SwizzleFault) → (header_at new at).kind ≢ Text → IsDamaged old code fault
      → AnswersConstant old new before after code row constant (Ok at) → AnswersClass old new before after code row constant (Err fault)
  no-class at fault kind damaged a = of (a.0) (a.1) (a.2)
    where
      of : (c : ConstantView) → constant_numbered row constant ≡ Some c → DenotesConstant new after at c
          → AnswersClass old new before after code row constant (Err fault)
      of (text b) e d = absurd (kind (d.0))
      of (literal u) e d = inl (λ class is. let bad : Some (literal u) ≡ Some (text class) = sym e ∙ is in cc, damaged)

-- or it wasn't got.
pub class-failed : (old new : Heap) (before after : Outside Space) (code constant : ℕ) (row : ConstantsView) (fault : SwizzleFault)
    → AnswersConstant old new before after code row constant (Err fault) → AnswersClass old new before after code row constant (Err fault)
class-failed old new before after code constant row fault (inl a) = inl (λ class is. let bad : None ≡ Some (text class) = sym (a.0) ∙ is in cc, a.1)
class-failed old new before after code constant row fault (inr a) = inr (a.2)

-- Structures that are told by their class, and made of it, after its text was fetched.
use Rattle.std.proofs.Common.{◌≡◌, ℕ, List, Option, Some, Bool}
use Rattle.std.specs.Prelude.{Result, Ok}
use Rattle.ps_base.specs.CodeUnit.{ConstantsView, unit}
use Rattle.ps_base.specs.declared.code_unit.Frame.{Frame}
use Rattle.joint_ops.specs.ps_outside.Outside.{Outside}
use Rattle.joint_ops.specs.obj_layout.Stored.{Space}
use Rattle.joint_ops.specs.obj_layout.declared.reference.Reference.{Reference}
use Rattle.joint_ops.specs.swizzle.Heap as area
use Rattle.joint_ops.specs.swizzle.Heap.{IsHeap}
use Rattle.joint_ops.specs.swizzle.Reading.{LeavesOutside}
use Rattle.joint_ops.specs.swizzle.Touch.{Keeps}
use Rattle.joint_ops.specs.text_forms.Forms.{forms_of}
use Rattle.joint_ops.specs.heap_texts.declared.fault.OpFault.{OpFault}
use Rattle.joint_ops.specs.heap_places.declared.value.Value as given
use Rattle.joint_ops.specs.ps_heap.Texts.{Yields}
use Rattle.joint_ops.specs.ps_heap.Objects.{Heap, Structure, is_class}
use Rattle.joint_ops.specs.ps_heap.Values.{Value, Text, Pointer}
use Rattle.joint_ops.specs.World.{IsWorld, DenotesIn, IsUnitIn, Answers}
use Rattle.joint_ops.specs.Code.{StandsBy}
use Rattle.joint_ops.specs.Operands.{AreForIn}
use Rattle.joint_ops.specs.Made.{Makes}
use Rattle.objects.specs.Classes.{AnswersClass, NamesClass, LacksClass, MakesLater}
use Rattle.objects.proofs.LaterLaws.{IsGot, got-named, answers-later}
use Rattle.objects.proofs.MadeLaws.{makes-later, are-for-later}

abbrev pub TellsAll : area.Heap → area.Heap → Outside Space → Outside Space → ℕ → ℕ → Option ℕ → Result Bool OpFault → Type 0
TellsAll old new before after code constant object result =
    (of : Heap) (names : List Reference) (class : List ℕ) (o : Value) → IsWorld old before of names → NamesClass old before code constant class
    → DenotesIn old before names object o
    → Answers old new before after (λ (is : Bool) (wanted : Bool). is ≡ wanted) of names (Yields (is_class of o class)) result

abbrev pub MakesAll : area.Heap → area.Heap → Outside Space → Outside Space → ℕ → ℕ → List given.Value → Result ℕ OpFault → Type 0
MakesAll old new before after code constant fields result =
    (of : Heap) (names : List Reference) (class : List ℕ) (values : List Value) → IsWorld old before of names → NamesClass old before code constant class
    → AreForIn old before names (forms_of class) fields values
    → MakesLater old new before after of names Pointer (Yields (Structure class values)) result

module _ (old mid new : area.Heap) (start before after : Outside Space) (code constant at : ℕ) (h : IsHeap mid) (keeps : Keeps old mid)
    (leaves : LeavesOutside start before) (world : StandsBy old mid start before code)
    (got : (bytes : List ℕ) (row : ConstantsView) (frame : Frame) → IsUnitIn old start code (unit bytes row frame)
    → AnswersClass old mid start before code row constant (Ok at)) where
  class-of : (class : List ℕ) → NamesClass old start code constant class → IsGot mid before class at
  class-of class n = got-named old mid start before code constant n.row class at h n.class_is (got n.bytes n.row n.frame n.unit_is)

  pub class-lacks : LacksClass old start code constant → ⊥
  class-lacks lacks = let a = got lacks.bytes lacks.row lacks.frame lacks.unit_is in lacks.none (a.0) (a.1)

  pub class-told : (object : Option ℕ) (result : Result Bool OpFault)
      → ((of : Heap) (names : List Reference) (text : List ℕ) (o : Value) → IsWorld mid before of names → DenotesIn mid before names (Some at) (Text text)
      → DenotesIn mid before names object o
      → Answers mid new before after (λ (is : Bool) (wanted : Bool). is ≡ wanted) of names (Yields (is_class of o text)) result)
      → TellsAll old new start after code constant object result
  class-told object result told of names class o w n d =
      let s = world (unit n.bytes n.row n.frame) n.unit_is of names w in
      answers-later old mid new start before after of names h keeps leaves s (λ (is : Bool) (wanted : Bool). is ≡ wanted) (Yields (is_class of o class)) result
      (told of names class o s.world ((class-of class n).denotes names) (s.carries.values object o d))

  pub class-made : (fields : List given.Value) (result : Result ℕ OpFault)
      → ((of : Heap) (names : List Reference) (text : List ℕ) (values : List Value) → IsWorld mid before of names → DenotesIn mid before names (Some at) (Text text)
      → AreForIn mid before names (forms_of text) fields values → Makes mid new before of names Pointer (Yields (Structure text values)) result)
      → MakesAll old new start before code constant fields result
  class-made fields result made of names class values w n are =
      let s = world (unit n.bytes n.row n.frame) n.unit_is of names w in
      makes-later old mid new start before of names Pointer (Yields (Structure class values)) result s
      (made of names class values s.world ((class-of class n).denotes names)
      (are-for-later old mid start before names (forms_of class) fields values s.carries are))

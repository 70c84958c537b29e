-- The texts of an error record, one made after the other.
use Rattle.std.specs.Prelude.{ℕ, ◌+◌, List, length, Result, Ok, Err}
use Rattle.joint_held.specs.joint_ops.ps_heap.ps_typing.Library.{error_class}
use Rattle.joint_held.specs.joint_ops.obj_area.Words.{AreBytes}
use Rattle.joint_held.specs.joint_ops.swizzle.declared.fault.SwizzleFault.{SwizzleFault}
use Rattle.joint_held.specs.joint_ops.swizzle.Heap.{Heap, IsHeap, IsMade, IsFull}
use Rattle.joint_held.specs.joint_ops.swizzle.Touch.{Keeps}
use Rattle.joint_held.specs.joint_ops.heap_texts.Texts.{text_object, text_nums, wanted_of}
use Rattle.joint_held.specs.joint_ops.ps_heap.Databases.{Fault, fault_text, explain_text}
use Rattle.error_records.specs.declared.records.Texts.{Texts}
use Rattle.error_records.specs.Records.{LacksRoom}

-- the object of a text was made
pub record IsTextMade (old new : Heap) (bytes : List ℕ) (at : ℕ) : Type 0 where
  pub was_sound : IsHeap old
  pub sound : IsHeap new
  pub good : AreBytes bytes
  pub made : IsMade old new at (text_object bytes)

abbrev pub MakesPart : Heap → Heap → List ℕ → Result ℕ SwizzleFault → Type 0
MakesPart old new bytes (Ok at) = IsTextMade old new bytes at
MakesPart old new bytes (Err why) = IsFull old new (wanted_of (4 + text_nums (length bytes))) why

-- All four were made.
pub record AreMade (old new : Heap) (context : List ℕ) (fault : Fault) (texts : Texts) : Type 0 where
  pub first : Heap
  pub second : Heap
  pub third : Heap
  pub class : IsTextMade old first error_class texts.class
  pub context_made : IsTextMade first second context texts.context
  pub fault_made : IsTextMade second third (fault_text fault) texts.fault
  pub explain_made : IsTextMade third new (explain_text fault) texts.explain

abbrev pub MakesTexts : Heap → Heap → List ℕ → Fault → Result Texts SwizzleFault → Type 0
MakesTexts old new context fault (Ok texts) = AreMade old new context fault texts
MakesTexts old new context fault (Err why) = LacksRoom old new context fault why × Keeps old new

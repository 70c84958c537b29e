-- The object of a field, reached by its class and its shape.
use Rattle.std.specs.Prelude.{◌≡◌, ℕ, List, Option, Some, None, Result, Ok, Err}
use Rattle.heap_places.specs.ps_outside.Outside.{Outside}
use Rattle.heap_places.specs.obj_layout.Stored.{Space}
use Rattle.heap_places.specs.swizzle.Heap.{Heap}
use Rattle.heap_places.specs.swizzle.Joint.{shown_at}
use Rattle.heap_places.specs.swizzle.Reading.{Reads, FailsReading}
use Rattle.heap_places.specs.text_forms.declared.forms.Rows.{Rows}
use Rattle.heap_places.specs.heap_texts.declared.fault.OpFault.{OpFault}
use Rattle.heap_places.specs.heap_texts.declared.fault.OpFault.TheVariants as op
use Rattle.heap_ops.specs.Structures.{HasFields, IsFieldTrap, FailsFields, class_of}

-- A value denotes an object of the class with the shape of the class: this one.
pub record IsOpened (old new : Heap) (before after : Outside Space) (object : Option ℕ) (at : ℕ) (text : List ℕ) (rows : Rows) : Type 0 where
  pub is : object ≡ Some at
  pub fields : HasFields old new after at text rows
  pub reads : Reads old new before after (class_of (shown_at old at))

abbrev pub OpensFields : Heap → Heap → Outside Space → Outside Space → Option ℕ → List ℕ → Rows → Result ℕ OpFault → Type 0
OpensFields old new before after object text rows (Ok at) = IsOpened old new before after object at text rows
OpensFields old new before after object text rows (Err (op.Trap t)) = IsFieldTrap old new before after object text t
OpensFields old new before after None text rows (Err (op.Swizzle fault)) = ⊥
OpensFields old new before after (Some at) text rows (Err (op.Swizzle fault)) =
    FailsReading before after fault × FailsFields old new before after at text rows fault

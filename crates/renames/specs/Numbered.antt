-- Names after an object of the area got a PID, and what a vault holds of objects that aren't in the area.
use Rattle.std.specs.Prelude.{◌≡◌, ℕ, ◌==◌, if◌then◌else◌, List, None}
use Rattle.heap_meaning.specs.obj_layout.declared.reference.Reference.{Reference}
use Rattle.heap_meaning.specs.obj_layout.declared.reference.Reference.TheVariants.{Nil, Pid, Local}
use Rattle.heap_meaning.specs.swizzle.Heap.{Heap, local_of}

-- a name after the object at this index got this PID
abbrev pub renamed_at : ℕ → ℕ → Reference → Reference
renamed_at at pid Nil = Nil
renamed_at at pid (Pid other) = Pid other
renamed_at at pid (Local other) = if other == at then Pid pid else Local other

-- What a vault holds under the PIDs that aren't in the area is the same.
pub record SameAway (heap : Heap) (old new : ℕ → List ℕ → Type 0) : Type 0 where
  pub forth : (pid : ℕ) (words : List ℕ) → local_of heap pid ≡ None → old pid words → new pid words
  pub back : (pid : ℕ) (words : List ℕ) → local_of heap pid ≡ None → new pid words → old pid words

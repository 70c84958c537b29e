-- A field, an element or a kept name gets a value: in what a run holds.
use Rattle.std.specs.Prelude.{◌≡◌, ◌≢◌, ℕ, List, Some}
use Rattle.joint_ops.specs.ps_outside.Outside.{Outside}
use Rattle.joint_ops.specs.obj_layout.Stored.{Space}
use Rattle.joint_ops.specs.obj_layout.declared.reference.Reference.{Reference}
use Rattle.joint_ops.specs.swizzle.Heap as area
use Rattle.joint_ops.specs.ps_heap.Tables.{Table}
use Rattle.joint_ops.specs.ps_heap.Objects.{Heap, Keyed, object_at}
use Rattle.joint_ops.specs.ps_heap.Held.{Held}
use Rattle.joint_ops.specs.Writing.{IsWrite}
use Rattle.joint_ops.specs.World.{IsWorld}
use Rattle.joint_held.specs.Held.{IsOf}

-- Its id has another object, for which it stands now, and that is no table; all others have theirs.
pub record WritesObject (old new : area.Heap) (outside : Outside Space) (names : List Reference) (h : Held) (x id : ℕ) (objects : Heap) : Type 0 where
  pub write : IsWrite old new x
  pub of : IsOf old names x id
  pub world : IsWorld new outside objects names
  pub others : (i : ℕ) → i ≢ id → object_at objects i ≡ object_at h.objects i
  pub plain : (table : Table) → object_at objects id ≡ Some (Keyed table) → ⊥

-- the run with other touched objects, and another number of counted bytes
abbrev pub counting_as : Held → List ℕ → ℕ → Held
counting_as h touched counted = record h { touched = touched; counted = counted }

-- The same of the heap and of databases, and whether one was asked for: these runs may differ in touched objects, in what is counted, in replies and in weights.
pub record HoldsAlike (h k : Held) : Type 0 where
  pub objects : k.objects ≡ h.objects
  pub homes : k.homes ≡ h.homes
  pub directory : k.directory ≡ h.directory
  pub openings : k.openings ≡ h.openings
  pub created : k.created ≡ h.created
  pub assigned : k.assigned ≡ h.assigned
  pub asked : k.asked ≡ h.asked

-- How a run begins over a space that stands for a heap.
use Rattle.std.specs.Prelude.{ℕ, ◌<◌, List, [], length, None}
use Rattle.joint_held.specs.joint_ops.ps_outside.Outside.{Outside}
use Rattle.joint_held.specs.joint_ops.obj_layout.Stored.{Space}
use Rattle.joint_held.specs.joint_ops.obj_layout.declared.reference.Reference.{Reference}
use Rattle.joint_held.specs.joint_ops.swizzle.Heap.{fresh_heap}
use Rattle.joint_held.specs.joint_ops.ps_heap.Values.{Routine}
use Rattle.joint_held.specs.joint_ops.ps_heap.Held.{Reply, StoredHeap, started}
use Rattle.joint_held.specs.Held.{HoldsRun}
use Rattle.space_meaning.specs.ps_code_laws.Compiled.{compiled_held}
use Rattle.space_meaning.specs.heap_fit.database_meaning.Same.{IsInHeap, IsSame}
use Rattle.space_meaning.specs.Stands.{SpaceStands}

-- each id of the heap is reached
abbrev pub IsCompact : StoredHeap → Type 0
IsCompact heap = (id : ℕ) → id < length heap.objects → IsInHeap heap id

-- a heap that is the same but for its ids, all of which are reached
pub record HasCompact (heap : StoredHeap) : Type 0 where
  pub compact : StoredHeap
  pub same : IsSame heap compact
  pub all : IsCompact compact

-- Beside the vault an area without objects holds the run that begins over the heap, its procedures compiled, under some row of names.
pub record BeginsOver (size : ℕ) (outside : Outside Space) (weigh : Routine → ℕ) (replies : List Reply) (counted : ℕ) (heap : StoredHeap) : Type 0 where
  pub names : List Reference
  pub holds : HoldsRun (fresh_heap size) outside names [] None (compiled_held (started weigh replies counted heap))

-- There is a heap that is the same but for its ids, for which the space stands, and over which the run begins.
pub record BeginsOverSame (size : ℕ) (outside : Outside Space) (weigh : Routine → ℕ) (replies : List Reply) (counted : ℕ) (space : Space) (heap : StoredHeap) : Type 0 where
  pub compact : StoredHeap
  pub same : IsSame heap compact
  pub stands : SpaceStands space compact
  pub begins : BeginsOver size outside weigh replies counted compact

-- The slots before this one denote what those of the other object denote, and all objects stand.
use Rattle.joint_ops.specs.swizzle.Objects.{Object}
use Rattle.joint_ops.specs.swizzle.Heap.{Heap, IsHeld, IsMade, Stands, object_at}
use Rattle.db_dir.proofs.ExtendLaws.{with_first}
use Rattle.db_dir.proofs.create.copy_refs.Given as goal

abbrev pub invariant-loop-slot : goal.invariant-loop-slot
invariant-loop-slot l = record {
  copied : (base : Heap) (object : Object) → IsMade base l.initial.sw l.to object → IsHeld base l.from
      → IsMade base l.sw l.to (with_first object (object_at base l.from).refs l.slot);
  stands : Stands l.initial.sw l.sw;
}

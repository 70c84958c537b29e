-- What is so of an answer, whatever it is.
use Rattle.std.proofs.Common.{◌≡◌, ℕ, Result, Ok, Err, IfErr, OnOk}
use Rattle.joint_held.specs.joint_ops.ps_outside.Outside.{Outside}
use Rattle.joint_held.specs.joint_ops.obj_layout.Stored.{Space}
use Rattle.joint_held.specs.joint_ops.swizzle.declared.fault.SwizzleFault.{SwizzleFault}
use Rattle.joint_held.specs.joint_ops.swizzle.declared.fault.SwizzleFault.TheVariants.{AreaFull}
use Rattle.joint_held.specs.joint_ops.swizzle.Heap.{Heap, Stands}
use Rattle.joint_held.specs.joint_ops.swizzle.Reading.{FailsReading, LeavesOutside}
use Rattle.joint_held.specs.joint_ops.swizzle.Touch.{Keeps}
use Rattle.joint_ops.proofs.of_swizzle.ReadingLaws.{leaves-none}
use Rattle.joint_ops.proofs.of_heap_ops.ClassLaws.{stands-kept}
use Rattle.joint_held.specs.db_dir.Entries.{ReadsSome}

pub keeps-stands : {T : Type 0} (old new : Heap) (result : Result T SwizzleFault) → OnOk result (Keeps old new) → OnOk result (Stands old new)
keeps-stands old new (Ok x) keeps = stands-kept old new keeps
keeps-stands old new (Err fault) keeps = tt

pub keeps-size : {T : Type 0} (old new : Heap) (result : Result T SwizzleFault) → OnOk result (Keeps old new) → OnOk result (new.size ≡ old.size)
keeps-size old new (Ok x) keeps = keeps.size
keeps-size old new (Err fault) keeps = tt

-- A call that reads.

pub reads-keeps : {T : Type 0} (old new : Heap) (before after : Outside Space) (result : Result T SwizzleFault) → OnOk result (ReadsSome old new before after)
    → OnOk result (Keeps old new)
reads-keeps old new before after (Ok x) reads = reads.reads.keeps
reads-keeps old new before after (Err fault) reads = tt

pub reads-leaves : {T : Type 0} (old new : Heap) (before after : Outside Space) (result : Result T SwizzleFault) → OnOk result (ReadsSome old new before after)
    → IfErr result (FailsReading before after) → LeavesOutside before after
reads-leaves old new before after (Ok x) reads fails = reads.reads.outside
reads-leaves old new before after (Err fault) reads fails = fails.outside

-- There was no room.
pub full-fails : (outside : Outside Space) (fault : SwizzleFault) (top wanted size : ℕ) → fault ≡ AreaFull top wanted size → FailsReading outside outside fault
full-fails outside fault top wanted size e = record {
  outside = leaves-none outside;
  cause = λ f. absurd (cc (e, f));
  other = λ f. absurd (cc (e, f));
  full = λ used want capacity f. absurd (cc (e, f));
  pages = λ held want pages f. absurd (cc (e, f));
}

-- A pair is entered into a table: what a run holds then.
use Rattle.std.specs.Prelude.{◌≡◌, ◌⊎◌, ℕ, List, Option, Result, Ok, Err}
use Rattle.joint_ops.specs.ps_outside.Outside.{Outside}
use Rattle.joint_ops.specs.obj_layout.Stored.{Space}
use Rattle.joint_ops.specs.obj_layout.declared.reference.Reference.{Reference}
use Rattle.joint_ops.specs.swizzle.Heap as area
use Rattle.joint_ops.specs.heap_texts.declared.fault.OpFault.{OpFault}
use Rattle.joint_ops.specs.heap_texts.declared.fault.OpFault.TheVariants as op
use Rattle.joint_ops.specs.ps_heap.Values.{Value}
use Rattle.joint_ops.specs.ps_heap.Texts.{Yields, Fails}
use Rattle.joint_ops.specs.ps_heap.Tables.{Key}
use Rattle.joint_ops.specs.ps_heap.Objects.{Heap, id_of}
use Rattle.joint_ops.specs.ps_heap.Held.{Held, Under, assigning}
use Rattle.joint_ops.specs.World.{BreaksOff, Carries, Stands}
use Rattle.joint_tables.specs.Tables.{LacksNode, with_entry}
use Rattle.joint_held.specs.reach_commit.commit_walk.declared.homes.Source.{Source}
use Rattle.joint_held.specs.Held.{HoldsRun}

module _ (old new : area.Heap) (before after : Outside Space) (names : List Reference) (writing : List Source) (directory : Option ℕ) (h : Held) where
  -- What was denoted is denoted still, and area and vault hold the run with this heap, in which the key's place was assigned.
  pub record IsEntered (table : Value) (key : Key) (later : Heap) : Type 0 where
    pub carries : Carries old new before after names names
    pub run : HoldsRun new after names writing directory (assigning (Under (id_of table) key) later h)

  -- A value is entered under a key, or the key is taken out where it is nil: area and vault hold the run with the heap that the meaning yields; or it ends in
  -- the meaning's trap; or it broke off, or there was no room for a node of what the meaning yields.
  abbrev pub EntersRun : Value → Key → Value → Result (Unit {0}) OpFault → Type 0
  EntersRun table key v (Ok done) = (later : Heap) × (with_entry h.objects table key v ≡ Yields later) × IsEntered table key later
  EntersRun table key v (Err (op.Trap t)) = (with_entry h.objects table key v ≡ Fails t) × Stands old new before after h.objects names
  EntersRun table key v (Err (op.Swizzle fault)) =
      BreaksOff old new before after fault ⊎ (LacksNode old fault × ((later : Heap) × (with_entry h.objects table key v ≡ Yields later)))

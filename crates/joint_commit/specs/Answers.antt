-- A commit, beside that of the meaning, by what it answers.
use Rattle.std.specs.Prelude.{◌≡◌, ℕ, List, Option, Result, Ok, Err}
use Rattle.joint_held.specs.joint_ops.ps_outside.Outside.{Outside}
use Rattle.joint_held.specs.joint_ops.obj_layout.Stored.{Space}
use Rattle.joint_held.specs.joint_ops.obj_layout.declared.reference.Reference.{Reference}
use Rattle.joint_held.specs.joint_ops.swizzle.declared.fault.SwizzleFault.{SwizzleFault}
use Rattle.joint_held.specs.joint_ops.swizzle.Heap as area
use Rattle.joint_held.specs.joint_ops.ps_heap.Held.{Held}
use Rattle.joint_held.specs.joint_ops.ps_heap.Commit.{decision, saved, NotWritable, NothingToDo, Saves}
use Rattle.joint_held.specs.reach_commit.commit_walk.declared.homes.Source.{Source}
use Rattle.joint_held.specs.reach_commit.declared.commit.CommitAnswer.{CommitAnswer}
use Rattle.joint_held.specs.reach_commit.declared.commit.CommitAnswer.TheVariants as answer
use Rattle.joint_held.specs.Held.{HoldsRun}
use Rattle.joint_commit.specs.Saving.{LeavesEither, SavesRun}

module _ (old new : area.Heap) (before after : Outside Space) (names : List Reference) (writing : List Source) (directory : Option ℕ) (d : Held) where
  -- The meaning decides the same of the run that is held. Where it is refused or has nothing to do, area and vault hold the run as before. Where it saves, they hold
  -- the run after it, and the vault stands for the heap that was saved; where storing broke off, a crash leaves what it left before or what stands for that one.
  abbrev pub CommitsHeld : Result CommitAnswer SwizzleFault → Type 0
  CommitsHeld (Ok (answer.NotWritable object home)) = (decision d ≡ NotWritable) × HoldsRun new after names writing directory d
  CommitsHeld (Ok answer.Nothing) = (decision d ≡ NothingToDo) × HoldsRun new after names writing directory d
  CommitsHeld (Ok (answer.Saved fresh rewritten)) = (decision d ≡ Saves (saved d)) × SavesRun old new before after names writing directory d
  CommitsHeld (Err fault) = (decision d ≡ Saves (saved d)) × LeavesEither before after (saved d)

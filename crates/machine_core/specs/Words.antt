-- The words of a machine: what of it stands for a configuration, but for its objects.
use Rattle.std.specs.Prelude.{ℕ, ℤ, Bool, List, Option, vec_capacity}
use Rattle.ps_base.specs.declared.code_unit.Frame.{Frame}
use Rattle.joint_ops.specs.proc_values.declared.reading.CodePlace.{CodePlace}
use Rattle.frame_stack.specs.Frames.{Frames}
use Rattle.joint_held.specs.reach_commit.commit_walk.declared.homes.Source.{Source}
use Rattle.machine_core.specs.declared.caller.Caller.{Caller}
use Rattle.machine_core.specs.declared.machine.Machine.{Machine}

-- The code object that runs, where its bytes lie, its frame, its scope and the offset of its next instruction; the stacks; the bodies that wait; the
-- input that is left, and the turns; the databases that are open for writing, whether one was asked for, the directory, and how many databases there is room
-- for.
pub record Words : Type 0 where
  pub code : ℕ
  pub place : CodePlace
  pub frame : Frame
  pub scope : ℕ
  pub at : ℕ
  pub nums : Frames ℤ
  pub refs : Frames ℕ
  pub callers : List Caller
  pub input : List ℕ
  pub turns : ℕ
  pub writing : List Source
  pub asked : Bool
  pub directory : Option ℕ
  pub places : ℕ

abbrev pub words_of : Machine → Words
words_of m = record {
  code = m.code;
  place = m.place;
  frame = m.frame;
  scope = m.scope;
  at = m.at;
  nums = m.nums;
  refs = m.refs;
  callers = m.callers.items;
  input = m.input;
  turns = m.turns;
  writing = m.databases.writing.items;
  asked = m.databases.asked;
  directory = m.databases.directory;
  places = vec_capacity m.databases.writing;
}

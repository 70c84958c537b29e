-- A machine in code, over the objects of an area and of a vault, and the configuration that it stands for under a row of names.
use Rattle.std.specs.Prelude.{◌≡◌, ℕ, ◌≤◌, ◌*◌, Bool, List, Option, length, vec_capacity}
use Rattle.joint_ops.specs.ps_outside.Outside.{Outside}
use Rattle.joint_ops.specs.obj_layout.Stored.{Space}
use Rattle.joint_ops.specs.obj_layout.declared.reference.Reference.{Reference}
use Rattle.joint_ops.specs.swizzle.Heap as area
use Rattle.joint_ops.specs.proc_values.Loaded.{IsFitUnit}
use Rattle.ps_stepping.specs.Config.{Config, frame_words, frame_in}
use Rattle.joint_ops.specs.World.{IsWorld, DenotesScopeIn, IsUnitIn}
use Rattle.joint_ops.specs.ps_heap.Held.{Held as Meant}
use Rattle.joint_held.specs.reach_commit.commit_walk.declared.homes.Source.{Source}
use Rattle.joint_held.specs.Held.{HoldsRun}
use Rattle.machine_core.specs.declared.machine.Machine.{Machine}
pub use Rattle.machine_core.specs.Rows.{object_in, word_of, AreDenoted, IsRow, IsRefRow}
use Rattle.machine_core.specs.Waiting.{AreWaiting, IsOrderly}
pub use Rattle.machine_core.specs.Words.{Words, words_of}

-- the most values that an object is made of: all that one frame may have on both stacks
abbrev pub most_values : ℕ
most_values = 2 * frame_words

-- What code knows of databases is so of what the run holds, and area and vault hold that. This is no record, so that searches for proofs don't go into it.
pub data HoldsStore (here : area.Heap) (outside : Outside Space) (names : List Reference) (writing : List Source) (asked : Bool) (directory : Option ℕ) (h : Meant) : Type 0 where
  holding : h.asked ≡ asked → HoldsRun here outside names writing directory h → HoldsStore here outside names writing asked directory h

module _ {here : area.Heap} {outside : Outside Space} {names : List Reference} {writing : List Source} {asked : Bool} {directory : Option ℕ} {h : Meant} where
  abbrev pub asked_in : HoldsStore here outside names writing asked directory h → h.asked ≡ asked
  asked_in (holding is run) = is

  abbrev pub run_in : HoldsStore here outside names writing asked directory h → HoldsRun here outside names writing directory h
  run_in (holding is run) = run

  abbrev pub world_in : HoldsStore here outside names writing asked directory h → IsWorld here outside h.objects names
  world_in held = (run_in held).world

-- These words stand for the configuration, and with area and vault for what it holds of its heap and of databases.
pub record Held (here : area.Heap) (outside : Outside Space) (names : List Reference) (w : Words) (c : Config) : Type 0 where
  pub unit_is : IsUnitIn here outside w.code c.unit
  pub fit : IsFitUnit c.unit
  pub frame_is : frame_in c.unit ≡ w.frame
  pub at_is : c.at ≡ w.at
  pub nums_are : IsRow w.nums.own w.frame.nums c.nums c.locals.nums
  pub refs_are : IsRefRow here outside names w.refs.own w.frame.refs c.refs c.locals.refs
  pub scope_is : DenotesScopeIn here outside names (object_in w.scope) c.scope
  pub callers_are : AreWaiting here outside names w.callers w.nums.below w.refs.below c.callers
  pub input_is : w.input ≡ c.store.input
  pub turns_are : c.store.turns ≡ w.turns
  pub run : HoldsStore here outside names w.writing w.asked w.directory c.store.held

-- under some row of names
pub record Standing (here : area.Heap) (outside : Outside Space) (w : Words) (c : Config) : Type 0 where
  pub names : List Reference
  pub held : Held here outside names w c

abbrev pub HeldBy : Outside Space → List Reference → Machine → Config → Type 0
HeldBy outside names m c = Held m.objects outside names (words_of m) c

abbrev pub Holds : Outside Space → Machine → Config → Type 0
Holds outside m c = Standing m.objects outside (words_of m) c

-- and it did so when this was its area
abbrev pub HeldIn : area.Heap → Outside Space → List Reference → Machine → Config → Type 0
HeldIn here outside names m c = Held here outside names (words_of m) c

-- The body that runs has all its locals on each stack, and no more words than one frame may have. There is memory for those, and for as many values
-- as both stacks hold; and the bodies that wait are in order.
pub record IsSound (m : Machine) : Type 0 where
  pub nums_fit : m.frame.nums ≤ length m.nums.own
  pub refs_fit : m.frame.refs ≤ length m.refs.own
  pub nums_below : length m.nums.own ≤ frame_words
  pub refs_below : length m.refs.own ≤ frame_words
  pub nums_room : frame_words ≤ m.nums.room
  pub refs_room : frame_words ≤ m.refs.room
  pub values_room : most_values ≤ vec_capacity m.values
  pub waiting : IsOrderly m.callers m.nums m.refs

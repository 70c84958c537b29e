-- What the words of a machine name lies in the area, whatever area and vault stand for.
use Rattle.std.specs.Prelude.{ℕ, ◌≤◌, List, Option, All, IfSome}
use Rattle.joint_ops.specs.swizzle.Heap as area
use Rattle.joint_ops.specs.swizzle.Heap.{IsHeld}
use Rattle.joint_ops.specs.proc_values.Reading.{IsPlaceOf}
use Rattle.joint_ops.specs.ps_heap.ps_base.Limits.{most_databases}
use Rattle.joint_held.specs.db_dir.Directories.{IsShaped}
use Rattle.joint_held.specs.reach_commit.Becoming.{AreNewRoots}
use Rattle.joint_held.specs.reach_commit.commit_walk.declared.homes.Source.{Source}
use Rattle.machine_core.specs.declared.caller.Caller.{Caller}
use Rattle.machine_core.specs.declared.machine.Machine.{Machine}
use Rattle.machine_core.specs.declared.stepped.Item.{Item}
use Rattle.machine_core.specs.Items.{IsItem}
use Rattle.machine_core.specs.Rows.{object_in}
use Rattle.machine_core.specs.Words.{Words, words_of}

-- the word names none, or an object of the area
abbrev pub IsNamed : area.Heap → ℕ → Type 0
IsNamed here word = IfSome (object_in word) (IsHeld here)

-- the bytes of a body that waits lie at their place, and its scope is none or one of the area
pub record IsKept (here : area.Heap) (of : Caller) : Type 0 where
  pub code : IsPlaceOf here of.code of.place
  pub scope : IsNamed here of.scope

-- The directory has its shape, the roots of databases that were made are tables that aren't stored, each that of one database, and there is room for all
-- databases that may be open for writing. This is no record, so that searches for proofs don't go into it.
pub data NamesDatabases (here : area.Heap) (writing : List Source) (directory : Option ℕ) (places : ℕ) : Type 0 where
  naming : IfSome directory (IsShaped here) → AreNewRoots here writing → most_databases ≤ places → NamesDatabases here writing directory places

-- Each reference and scope names none or an object of the area, the bytes of each body's code lie at their place, and the text of the last write lies
-- in the area; and so do the directory and the roots of new databases.
pub record NamesIn (here : area.Heap) (w : Words) (written : Item) : Type 0 where
  pub code : IsPlaceOf here w.code w.place
  pub scope : IsNamed here w.scope
  pub own : All (λ word. IsNamed here word) w.refs.own
  pub below : All (λ word. IsNamed here word) w.refs.below
  pub callers : All (λ caller. IsKept here caller) w.callers
  pub item : IsItem here written
  pub databases : NamesDatabases here w.writing w.directory w.places

abbrev pub NamesObjects : Machine → Type 0
NamesObjects m = NamesIn m.objects (words_of m) m.writing.item

-- A key was entered into a table of the heap, or taken out, as the call on tables has it and as the meaning has it.
use Rattle.std.specs.Prelude.{◌≡◌, ◌≢◌, ℕ, List, Option, Some, Ok}
use Rattle.joint_held.specs.joint_ops.ps_outside.Outside.{Outside}
use Rattle.joint_held.specs.joint_ops.obj_layout.Stored.{Space}
use Rattle.joint_held.specs.joint_ops.obj_layout.declared.reference.Reference.{Reference}
use Rattle.joint_held.specs.joint_ops.swizzle.Heap as area
use Rattle.joint_held.specs.joint_ops.ps_heap.Tables.{Key, Table}
use Rattle.joint_held.specs.joint_ops.ps_heap.Texts.{Yields}
use Rattle.joint_held.specs.joint_ops.ps_heap.Values.{Value}
use Rattle.joint_held.specs.joint_ops.ps_heap.Objects.{Heap, Keyed, object_at}
use Rattle.joint_held.specs.joint_ops.ps_heap.Held.{Held}
use Rattle.joint_held.specs.joint_ops.World.{DenotesIn, IsWorld}
use Rattle.joint_held.specs.Held.{IsOf}
use Rattle.joint_tables.specs.Tables.{with_entry}
use Rattle.joint_tables.specs.table_lib.Entries.{Enters, SparesBut}
use Rattle.joint_tables.specs.table_lib.table_nodes.Steps.{place}
use Rattle.joint_tables.specs.table_lib.table_nodes.node_rows.Keys.{Keys, KeyOf}

-- The table lies in the area, with an id. The call was answered, and did to area and vault what the clauses `pairs` and `spares` of `joint_tables` say. Area and
-- vault stand now for a heap in which no object but the table's has changed.
pub record HasEntered (ks : Keys) (old new : area.Heap) (before after : Outside Space) (names : List Reference) (h : Held) (x id : ℕ) (key : KeyOf ks) (to : Option ℕ) (objects : Heap) : Type 0 where
  pub of : IsOf old names x id
  pub was : Table
  pub was_is : object_at h.objects id ≡ Some (Keyed was)
  pub enters : Enters {T = Unit {0}} ks (place old before) (place new after) (Some x) key to (Ok tt)
  pub spares : SparesBut x old new before after
  pub world : IsWorld new after objects names
  pub others : (i : ℕ) → i ≢ id → object_at objects i ≡ object_at h.objects i

-- The call was answered, with an operand that denotes a value, and area and vault stand now for the heap that the meaning's operator yields: the clauses `entered`,
-- `pairs` and `spares` of `joint_tables`.
pub record HasAnswered (ks : Keys) (old new : area.Heap) (before after : Outside Space) (names : List Reference) (h : Held) (x : ℕ) (table : Value) (named : Key) (v : Value) (key : KeyOf ks) (to : Option ℕ) (objects : Heap) : Type 0 where
  pub denotes : DenotesIn old before names (Some x) table
  pub yields : with_entry h.objects table named v ≡ Yields objects
  pub enters : Enters {T = Unit {0}} ks (place old before) (place new after) (Some x) key to (Ok tt)
  pub spares : SparesBut x old new before after
  pub world : IsWorld new after objects names

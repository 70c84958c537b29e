-- Why a call on nodes fails, whatever the area and the vault hold: the object of a reference couldn't be fetched, or a test of an object failed, at its PID.
-- The area is the one that the call leaves.
use Rattle.std.specs.Prelude.{◌≡◌, ◌≢◌, ◌⊎◌, ℕ, ◌≤◌, ◌<◌, ◌^◌, None}
use Rattle.heap_places.specs.ps_outside.Outside.{Outside}
use Rattle.heap_places.specs.obj_layout.Stored.{Space}
use Rattle.heap_places.specs.obj_layout.Kind.{kind_number}
use Rattle.heap_places.specs.obj_layout.declared.kind.Kind.TheVariants.{Text as TextKind}
use Rattle.heap_places.specs.obj_layout.declared.reference.Reference.TheVariants.{Nil}
use Rattle.heap_places.specs.obj_layout.declared.vault.VaultFault.TheVariants.{Damaged}
use Rattle.heap_places.specs.swizzle.declared.fault.SwizzleFault.{SwizzleFault}
use Rattle.heap_places.specs.swizzle.declared.fault.SwizzleFault.TheVariants.{Vault}
use Rattle.heap_places.specs.swizzle.Heap.{Heap, IsHeld, IsFull, header_at, num_at, ref_at}
use Rattle.heap_places.specs.swizzle.Reading.{FailsReading}
use Rattle.heap_places.specs.swizzle.Touch.{IsTouchFault}
use Rattle.heap_places.specs.Words.{int_in}
use Rattle.table_nodes.specs.declared.keys.Key.{Key}
use Rattle.table_nodes.specs.Nodes.{IsNode}
use Rattle.table_nodes.specs.Spans.{HasKey, key_number}

-- What was tested of an object and didn't hold: the number that was found, and its bound.
pub data IsMisfit (heap : Heap) (at found wanted : ℕ) : Type 0 where
  no_node : (IsNode heap at → ⊥) → found ≡ 0 → wanted ≡ 0 → IsMisfit heap at found wanted
  wrong_height : IsNode heap at → found ≡ num_at heap at 2 → (found ≡ 0) ⊎ (wanted ≤ found) → IsMisfit heap at found wanted
  no_int : IsNode heap at → found ≡ num_at heap at 1 → int_in found ≡ None → wanted ≡ 2 ^ 31 → IsMisfit heap at found wanted
  no_key : IsNode heap at → ref_at heap at 2 ≡ Nil → found ≡ 0 → wanted ≡ 1 → IsMisfit heap at found wanted
  no_text : (header_at heap at).kind ≢ TextKind → found ≡ kind_number (header_at heap at).kind → wanted ≡ 1 → IsMisfit heap at found wanted
  out_of_order : (own end : Key) (other : ℕ) → HasKey heap at own → HasKey heap other end → found ≡ key_number heap own → wanted ≡ key_number heap end → IsMisfit heap at found wanted
  no_value : IsNode heap at → ref_at heap at 3 ≡ Nil → found ≡ 0 → wanted ≡ 1 → IsMisfit heap at found wanted

-- The object of a reference couldn't be fetched: the vault's own tests name it, or there was no room for it; the device is named only where it failed. Or a
-- test of an object of the area failed.
pub data IsNodeFault (before after : Outside Space) (heap : Heap) (fault : SwizzleFault) : Type 0 where
  unfetched : (at slot : ℕ) → IsHeld heap at → slot < (header_at heap at).refs → IsTouchFault heap before (ref_at heap at slot) fault → FailsReading before after fault → IsNodeFault before after heap fault
  misfit : (at found wanted : ℕ) → IsHeld heap at → IsMisfit heap at found wanted → fault ≡ Vault (Damaged (header_at heap at).pid found wanted) → IsNodeFault before after heap fault

-- and where a node is made, also that there was no room for its 11 words
abbrev pub IsChangeFault : Outside Space → Outside Space → Heap → SwizzleFault → Type 0
IsChangeFault before after heap fault = IsNodeFault before after heap fault ⊎ IsFull heap heap 11 fault

-- Why a call on a table failed, whatever the area and the vault hold: a trap, a test of the table or of a node at its PID, a reference's object that
-- couldn't be fetched, or no room for a node.
use Rattle.std.specs.Prelude.{◌≡◌, ◌≢◌, ◌⊎◌, ℕ, ◌≤◌, ◌^◌, Option, Some}
use Rattle.table_nodes.specs.heap_places.obj_layout.declared.reference.Reference.TheVariants.{Nil}
use Rattle.table_nodes.specs.heap_places.obj_layout.declared.vault.VaultFault.TheVariants.{Damaged}
use Rattle.table_nodes.specs.heap_places.swizzle.declared.fault.SwizzleFault.{SwizzleFault}
use Rattle.table_nodes.specs.heap_places.swizzle.declared.fault.SwizzleFault.TheVariants.{Vault}
use Rattle.table_nodes.specs.heap_places.swizzle.Heap.{Heap, header_at, num_at, ref_at}
use Rattle.table_nodes.specs.heap_places.heap_texts.declared.fault.OpFault.{OpFault}
use Rattle.table_nodes.specs.heap_places.heap_texts.declared.fault.OpFault.TheVariants.{Trap, Swizzle}
use Rattle.table_lib.specs.Tables.{IsTableAt}

-- the table has no root and tells of no pairs
pub record IsEmpty (heap : Heap) (at : ℕ) : Type 0 where
  pub root : ref_at heap at 0 ≡ Nil
  pub count : num_at heap at 2 ≡ 0

-- What was tested of a table and didn't hold: the number that was found, and its bound.
pub data IsTableMisfit (heap : Heap) (at found wanted : ℕ) : Type 0 where
  no_table : (IsTableAt heap at → ⊥) → found ≡ 0 → wanted ≡ 0 → IsTableMisfit heap at found wanted
  unused_with_pairs : IsTableAt heap at → num_at heap at 1 ≡ 0 → (IsEmpty heap at → ⊥) → found ≡ 0 → wanted ≡ 1 → IsTableMisfit heap at found wanted
  no_kind : IsTableAt heap at → found ≡ num_at heap at 1 → 3 ≤ found → wanted ≡ 3 → IsTableMisfit heap at found wanted
  root_without_pairs : IsTableAt heap at → ref_at heap at 0 ≢ Nil → num_at heap at 2 ≡ 0 → found ≡ 0 → wanted ≡ 0 → IsTableMisfit heap at found wanted
  pairs_without_root : IsTableAt heap at → ref_at heap at 0 ≡ Nil → found ≡ num_at heap at 2 → found ≢ 0 → wanted ≡ 0 → IsTableMisfit heap at found wanted
  too_many : IsTableAt heap at → found ≡ num_at heap at 2 → 2 ^ 32 ≤ found → wanted ≡ 2 ^ 32 → IsTableMisfit heap at found wanted

-- The fault tells of this table, at its PID.
pub record IsDamagedTable (heap : Heap) (at : ℕ) (fault : SwizzleFault) : Type 0 where
  pub found : ℕ
  pub wanted : ℕ
  pub misfit : IsTableMisfit heap at found wanted
  pub is : fault ≡ Vault (Damaged (header_at heap at).pid found wanted)

-- Why a table wasn't opened; what traps there are is told elsewhere.
abbrev pub IsOpenFault : Heap → Option ℕ → OpFault → Type 0
IsOpenFault heap table (Trap trap) = Unit {0}
IsOpenFault heap table (Swizzle fault) = (at : ℕ) × (table ≡ Some at) × IsDamagedTable heap at fault

-- Why a call on a table of the area failed, where such faults come of its nodes.
abbrev pub IsFaultAt : (SwizzleFault → Type 0) → Heap → ℕ → SwizzleFault → Type 0
IsFaultAt nodes heap at fault = IsDamagedTable heap at fault ⊎ nodes fault

abbrev pub IsOpFault : (SwizzleFault → Type 0) → Heap → Option ℕ → OpFault → Type 0
IsOpFault nodes heap table (Trap trap) = Unit {0}
IsOpFault nodes heap table (Swizzle fault) = ((at : ℕ) × (table ≡ Some at) × IsDamagedTable heap at fault) ⊎ nodes fault

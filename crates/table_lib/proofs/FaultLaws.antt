-- Why a call on a table failed, one step after another.
use Rattle.std.proofs.Common.{◌≡◌, ℕ, Option, Some, Result, Ok, Err, IfErr, inl, inr}
use Rattle.table_nodes.specs.heap_places.ps_outside.Outside.{Outside}
use Rattle.table_nodes.specs.heap_places.obj_layout.Stored.{Space}
use Rattle.table_nodes.specs.heap_places.swizzle.declared.fault.SwizzleFault.{SwizzleFault}
use Rattle.table_nodes.specs.heap_places.swizzle.Heap.{Heap}
use Rattle.table_nodes.specs.heap_places.heap_texts.declared.fault.OpFault.{OpFault}
use Rattle.table_nodes.specs.heap_places.heap_texts.declared.fault.OpFault.TheVariants.{Trap, Swizzle}
use Rattle.table_nodes.specs.Faults.{IsChangeFault, IsNodeFault}
use Rattle.table_lib.specs.Faults.{IsFaultAt, IsOpFault, IsOpenFault}

-- a table that wasn't opened
pub not_opened : (nodes : SwizzleFault → Type 0) (heap : Heap) (table : Option ℕ) (fault : OpFault) → IsOpenFault heap table fault → IsOpFault nodes heap table fault
not_opened nodes heap table (Trap trap) f = f
not_opened nodes heap table (Swizzle fault) f = inl f

-- the table that was opened is that of the call
pub opened_failed : (nodes : SwizzleFault → Type 0) (heap : Heap) (table : Option ℕ) (at : ℕ) (fault : SwizzleFault) → table ≡ Some at → IsFaultAt nodes heap at fault → IsOpFault nodes heap table (Swizzle fault)
opened_failed nodes heap table at fault e (inl f) = inl (at, e, f)
opened_failed nodes heap table at fault e (inr f) = inr f

-- what is so of a fault of the nodes is so of one of the table
pub at_nodes : {T : Type 0} (nodes : SwizzleFault → Type 0) (heap : Heap) (at : ℕ) (result : Result T SwizzleFault) → IfErr result nodes → IfErr result (IsFaultAt nodes heap at)
at_nodes nodes heap at (Ok x) f = tt
at_nodes nodes heap at (Err fault) f = inr f

pub at_change : (before after : Outside Space) (heap : Heap) (at : ℕ) (fault : SwizzleFault) → IsFaultAt (IsNodeFault before after heap) heap at fault → IsFaultAt (IsChangeFault before after heap) heap at fault
at_change before after heap at fault (inl f) = inl f
at_change before after heap at fault (inr f) = inr (inl f)

pub at_changes : {T : Type 0} (before after : Outside Space) (heap : Heap) (at : ℕ) (result : Result T SwizzleFault) → IfErr result (IsFaultAt (IsNodeFault before after heap) heap at) → IfErr result (IsFaultAt (IsChangeFault before after heap) heap at)
at_changes before after heap at (Ok x) f = tt
at_changes before after heap at (Err fault) f = at_change before after heap at fault f

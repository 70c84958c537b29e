-- Why a call on nodes failed, one step after another.
use Rattle.std.proofs.Common.{◌≡◌, ◌⊎◌, ℕ, ◌+◌, ◌≤◌, ◌<◌, Option, Some, Err, IfSome, refl, sym, subst, inl, inr}
use Rattle.heap_places.specs.ps_outside.Outside.{Outside}
use Rattle.heap_places.specs.obj_layout.Stored.{Space}
use Rattle.heap_places.specs.obj_layout.declared.vault.VaultFault.TheVariants.{Damaged}
use Rattle.heap_places.specs.swizzle.declared.fault.SwizzleFault.{SwizzleFault}
use Rattle.heap_places.specs.swizzle.declared.fault.SwizzleFault.TheVariants.{AreaFull, Vault}
use Rattle.heap_places.specs.swizzle.Heap.{Heap, IsFull, IsHeld, header_at, num_at, ref_at, top_of}
use Rattle.heap_places.specs.swizzle.Reading.{FailsReading, LeavesOutside}
use Rattle.heap_places.specs.swizzle.Touch.{IsTouchCall, IsTouchFault}
use Rattle.heap_places.proofs.of_swizzle.ReadingLaws.{fails-touch, leaves-then}
use Rattle.heap_places.proofs.of_swizzle.TouchLaws.{rose_more}
use Rattle.table_nodes.specs.Faults.{IsNodeFault, IsChangeFault, unfetched, misfit, wrong_height}
use Rattle.table_nodes.specs.Nodes.{IsNode}
use Rattle.table_nodes.proofs.NodeLaws.{touch_back}

-- A reading that failed after the outside was left as it was.
fails_after : (a b c : Outside Space) (fault : SwizzleFault) → LeavesOutside a b → FailsReading b c fault → FailsReading a c fault
fails_after a b c fault first second = record {
  outside = leaves-then a b c first second.outside;
  cause = λ e. rose_more a.device_faults b.device_faults c.device_faults first.counts (second.cause e);
  other = second.other;
  full = second.full;
  pages = second.pages;
}

pub node_fault_back : (a b c : Outside Space) (heap : Heap) (fault : SwizzleFault) → LeavesOutside a b → IsNodeFault b c heap fault → IsNodeFault a c heap fault
node_fault_back a b c heap fault leaves (unfetched at slot held below f fails) =
    unfetched at slot held below (touch_back a b heap (ref_at heap at slot) fault leaves.contents f) (fails_after a b c fault leaves fails)
node_fault_back a b c heap fault leaves (misfit at found wanted held m e) = misfit at found wanted held m e

pub change_fault_back : (a b c : Outside Space) (heap : Heap) (fault : SwizzleFault) → LeavesOutside a b → IsChangeFault b c heap fault → IsChangeFault a c heap fault
change_fault_back a b c heap fault leaves (inl f) = inl (node_fault_back a b c heap fault leaves f)
change_fault_back a b c heap fault leaves (inr f) = inr f

-- a touch that was refused leaves the area as it was
pub touch_failed : {T : Type 0} (a b : Outside Space) (old new : Heap) (at slot : ℕ) (fault : SwizzleFault) → IsHeld old at → slot < (header_at old at).refs → new ≡ old → IsTouchFault old a (ref_at old at slot) fault
    → IsTouchCall {T = T} old new a b (Err fault) → IsNodeFault a b new fault
touch_failed a b old new at slot fault held below same f call =
    subst (λ (heap : Heap). IsNodeFault a b heap fault) (sym same) (unfetched at slot held below f (fails-touch old new a b fault call))

-- a node that has the height 0, or isn't lower than the bound
pub height_failed : (a b : Outside Space) (heap : Heap) (at height bound : ℕ) (fault : SwizzleFault) → IsNode heap at → height ≡ num_at heap at 2 → (height ≡ 0) ⊎ (bound ≤ height) → fault ≡ Vault (Damaged (header_at heap at).pid height bound)
    → IsNodeFault a b heap fault
height_failed a b heap at height bound fault node e why is = misfit at height bound node.held (wrong_height node e why) is

pub height_tested : (a b : Outside Space) (heap : Heap) (at height bound : ℕ) (fault : SwizzleFault) → IsNode heap at → height ≡ num_at heap at 2 → (height ≡ 0) ⊎ ((height ≡ 0 → ⊥) × (bound ≤ height)) → fault ≡ Vault (Damaged (header_at heap at).pid height bound)
    → IsNodeFault a b heap fault
height_tested a b heap at height bound fault node e (inl zero) is = height_failed a b heap at height bound fault node e (inl zero) is
height_tested a b heap at height bound fault node e (inr w) is = height_failed a b heap at height bound fault node e (inr w.1) is

pub the_node : (heap : Heap) (side : Option ℕ) (at : ℕ) → side ≡ Some at → IfSome side (IsNode heap) → IsNode heap at
the_node heap side at e h = subst (λ s. IfSome s (IsNode heap)) e h

pub full_here : (old new : Heap) (wanted : ℕ) (fault : SwizzleFault) → IsFull old new wanted fault → IsFull new new wanted fault
full_here old new wanted fault f = record {
  full = subst (λ (heap : Heap). heap.size < top_of heap + wanted) (sym f.stays) f.full;
  fault_is = subst (λ (heap : Heap). fault ≡ AreaFull (top_of heap) wanted heap.size) (sym f.stays) f.fault_is;
  stays = refl;
}

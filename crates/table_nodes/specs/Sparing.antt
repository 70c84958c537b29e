-- What a change of nodes spares: the objects of the area last, and what is no node is seen as it was.
use Rattle.std.specs.Prelude.{◌≡◌, ◌≢◌, ◌⊎◌, ℕ, ◌≤◌}
use Rattle.heap_places.specs.ps_outside.Outside.{Outside, SameContents}
use Rattle.heap_places.specs.obj_layout.Stored.{Space}
use Rattle.heap_places.specs.obj_layout.declared.kind.Kind.{Kind}
use Rattle.heap_places.specs.obj_layout.declared.kind.Kind.TheVariants.{Node}
use Rattle.heap_places.specs.obj_layout.declared.reference.Reference.{Reference}
use Rattle.heap_places.specs.swizzle.Heap.{Heap, IsHeld, IsListed, header_at, top_of, num_at}
use Rattle.heap_places.specs.swizzle.Joint.{Shown, shown_at, name_at}
use Rattle.heap_places.specs.swizzle.Reading.{joint}
use Rattle.heap_places.specs.Shapes.{slot_of}
use Rattle.table_nodes.specs.Nodes.{IsNode, IsSingle}

-- An object of the area is there still, with its name, its kind and its counts.
pub record Lasts (old new : Heap) (at : ℕ) : Type 0 where
  pub held : IsHeld new at
  pub name : name_at new at ≡ name_at old at
  pub kind : (header_at new at).kind ≡ (header_at old at).kind
  pub refs : (header_at new at).refs ≡ (header_at old at).refs
  pub nums : (header_at new at).nums ≡ (header_at old at).nums
  pub bytes : (header_at new at).bytes ≡ (header_at old at).bytes

-- an object of this kind is seen
pub record IsOfKind (heap : Heap) (outside : Outside Space) (n : Reference) (of : Kind) : Type 0 where
  pub it : Shown
  pub there : joint heap outside n it
  pub kind_is : it.kind ≡ of

-- a node that is noted as assigned
abbrev pub IsNoted : Heap → ℕ → Type 0
IsNoted heap at = IsNode heap at × IsListed at heap.assigned

-- Each object of the area lasts, and shows as it did, or is a node that is noted as assigned. None but nodes are noted that weren't, and all others keep
-- their flags. Each object of the area keeps its home and its third reference, a node's key text. What is seen of an object that is no node stays, and each object that is seen keeps its kind; the
-- area doesn't shrink, and the vault holds what it held.
pub record Spares (old new : Heap) (before after : Outside Space) : Type 0 where
  pub lasts : (at : ℕ) → IsHeld old at → Lasts old new at
  pub kept : (at : ℕ) → IsHeld old at → (shown_at new at ≡ shown_at old at) ⊎ IsNoted new at
  pub noted : (at : ℕ) → IsListed at old.assigned → IsListed at new.assigned
  pub only : (at : ℕ) → IsListed at new.assigned → IsListed at old.assigned ⊎ IsNode new at
  pub others : IsSingle before → (n : Reference) (it : Shown) → it.kind ≢ Node → joint old before n it → joint new after n it
  pub kinds : IsSingle before → (n : Reference) (it : Shown) → joint old before n it → IsOfKind new after n it.kind
  pub flags : (at : ℕ) → IsHeld old at → ((header_at new at).flags ≡ (header_at old at).flags) ⊎ IsNode new at
  pub homes : (at : ℕ) → IsHeld old at → num_at new at 0 ≡ num_at old at 0
  pub texts : (at : ℕ) → IsHeld old at → slot_of (shown_at new at) 2 ≡ slot_of (shown_at old at) 2
  pub size : new.size ≡ old.size
  pub top : top_of old ≤ top_of new
  pub contents : SameContents before after

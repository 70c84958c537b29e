-- The nodes of a table's tree: what is seen of one under a name.
use Rattle.std.specs.Prelude.{◌≡◌, ◌≢◌, ◌⊎◌, ℕ, ◌+◌, ◌≤◌, ◌<◌, zero, suc, List, length, Option, Some, None}
use Rattle.heap_places.specs.ps_outside.Outside.{Outside}
use Rattle.heap_places.specs.obj_layout.Stored.{Space, Holds}
use Rattle.heap_places.specs.obj_layout.declared.header.Header.{Header}
use Rattle.heap_places.specs.obj_layout.declared.kind.Kind.TheVariants.{Node}
use Rattle.heap_places.specs.obj_layout.declared.reference.Reference.{Reference}
use Rattle.heap_places.specs.obj_layout.declared.vault.VaultFault.TheVariants.{Device, Output, Full, NoPages, Damaged}
use Rattle.heap_places.specs.swizzle.declared.fault.SwizzleFault.{SwizzleFault}
use Rattle.heap_places.specs.swizzle.declared.fault.SwizzleFault.TheVariants.{AreaFull, Vault}
use Rattle.heap_places.specs.swizzle.Heap.{Heap, IsHeap, IsHeld, IsListed, top_of, local_of, header_at, ref_at, num_at, reference_to}
use Rattle.heap_places.specs.swizzle.Fetched.{IsFar}
use Rattle.heap_places.specs.swizzle.Joint.{Shown, Joint, name_at, name_of}
use Rattle.heap_places.specs.swizzle.Changes.{Within}
use Rattle.heap_places.specs.swizzle.Reading.{joint, LeavesOutside}
use Rattle.heap_places.specs.swizzle.Touch.{Keeps}
use Rattle.avl_trees.specs.Standing.{Row, Rows, IsWritten}
use Rattle.node_rows.specs.Keys.{Keys, KeyOf}
use Rattle.node_rows.specs.Nodes.{Seat, HasNode}

-- A vault holds these words under the PID, they may come into the area, and their header is clean: without flags, PID and chain.
pub record IsStored (outside : Outside Space) (pid : ℕ) (words : List ℕ) : Type 0 where
  pub there : Holds outside pid words
  pub header : Header
  pub far : IsFar words header
  pub clean : (header.flags ≡ 0) × (header.pid ≡ 0) × (header.chain ≡ 0)

-- what is seen of area and vault: the objects of the area, and those of the vault that may come into it
abbrev pub seen : Heap → Outside Space → Reference → Shown → Type 0
seen heap outside = Joint heap (IsStored outside)

-- the rows that area and vault show together
abbrev pub rows_in : (ks : Keys) → Heap → Outside Space → Rows Reference (KeyOf ks) Reference
rows_in ks heap outside = HasNode ks (seen heap outside)

-- the vault holds one object at most under a PID
pub record IsSingle (outside : Outside Space) : Type 0 where
  pub one : (pid : ℕ) (a b : List ℕ) → Holds outside pid a → Holds outside pid b → a ≡ b

-- an object of the area that has a node's shape
pub record IsNode (heap : Heap) (at : ℕ) : Type 0 where
  pub held : IsHeld heap at
  pub kind : (header_at heap at).kind ≡ Node
  pub refs : (header_at heap at).refs ≡ 4
  pub nums : (header_at heap at).nums ≡ 3

-- and its name
pub record IsNamed (heap : Heap) (at : ℕ) (n : Reference) : Type 0 where
  pub node : IsNode heap at
  pub name : name_at heap at ≡ n

-- a node of the area has this name
pub record IsHere (heap : Heap) (n : Reference) : Type 0 where
  pub at : ℕ
  pub named : IsNamed heap at n

-- it isn't stored, or is noted as assigned
pub record IsChanged (heap : Heap) (n : Reference) : Type 0 where
  pub at : ℕ
  pub named : IsNamed heap at n
  pub why : ((header_at heap at).pid ≡ 0) ⊎ IsListed at heap.assigned

-- what a write of a node leaves: no node of another name has changed that hadn't
abbrev pub IsSteady : Heap → Heap → ℕ → Type 0
IsSteady old new at = (n : Reference) → n ≢ name_at old at → IsChanged new n → IsChanged old n

-- the node of a side, if there is one, and its name
abbrev pub IsLinked : Heap → Option ℕ → Option Reference → Type 0
IsLinked heap None None = Unit {0}
IsLinked heap (Some at) (Some n) = IsNamed heap at n
IsLinked heap _ _ = ⊥

-- What touches leave: what is seen stays, rows among it, and objects of the area stay, nodes with their names. Nothing is output, what a crash may leave
-- and what the vault holds stay, and no count sinks.
pub record Grows (old new : Heap) (before after : Outside Space) : Type 0 where
  pub rows : (ks : Keys) (n : Reference) (row : Seat ks) → rows_in ks old before n row → rows_in ks new after n row
  pub nodes : (at : ℕ) → IsNode old at → IsNode new at
  pub named : (at : ℕ) (n : Reference) → IsNamed old at n → IsNamed new at n
  pub heap : IsHeap new
  pub leaves : LeavesOutside before after
  pub seen : Within (joint old before) (joint new after)
  pub keeps : Keeps old new

abbrev pub side_of : {K : Type 0} → ℕ → Row Reference K Reference → Option Reference
side_of zero row = row.left
side_of (suc n) row = row.right

-- the row with other sides
abbrev pub with_sides : {K : Type 0} → Option Reference → Option Reference → ℕ → Row Reference K Reference → Row Reference K Reference
with_sides left right height row = record { left = left; right = right; entry = row.entry; height = height }

-- all objects but this one are seen as they were
abbrev pub OthersStay : Heap → Heap → Outside Space → ℕ → Type 0
OthersStay old new outside at = (n : Reference) (it : Shown) → n ≢ name_at old at → joint old outside n it → joint new outside n it

-- A node was given other sides and another height.
pub record Links (old new : Heap) (outside : Outside Space) (at : ℕ) (left right : Option ℕ) (height : ℕ) : Type 0 where
  pub written : (ks : Keys) (n : Reference) (l r : Option Reference) (row : Seat ks) → IsSingle outside → IsNamed old at n → IsLinked old left l → IsLinked old right r
      → rows_in ks old outside n row → IsWritten (rows_in ks old outside) n (with_sides l r height row) (rows_in ks new outside)
  pub nodes : (at : ℕ) → IsNode old at → IsNode new at
  pub named : (at : ℕ) (n : Reference) → IsNamed old at n → IsNamed new at n
  pub heap : IsHeap new
  pub others : IsSingle outside → OthersStay old new outside at
  pub steady : IsSteady old new at

-- a slot of an object denotes this object, or none
abbrev pub IsSlot : Heap → ℕ → ℕ → Option ℕ → Type 0
IsSlot heap at slot to = name_of heap (ref_at heap at slot) ≡ name_of heap (reference_to to)

-- a node has these sides and this height already
pub record HasSides (heap : Heap) (at : ℕ) (left right : Option ℕ) (height : ℕ) : Type 0 where
  pub left_is : IsSlot heap at 0 left
  pub right_is : IsSlot heap at 1 right
  pub height_is : num_at heap at 2 ≡ height

-- what a side names is a node that is seen
abbrev pub IsSide : Keys → Heap → Outside Space → Option Reference → Type 0
IsSide ks heap outside None = Unit {0}
IsSide ks heap outside (Some n) = (row : Seat ks) × rows_in ks heap outside n row

-- An object that the vault holds and that may come into the area, where it isn't yet.
pub record IsAway (heap : Heap) (outside : Outside Space) (pid : ℕ) : Type 0 where
  pub words : List ℕ
  pub stored : IsStored outside pid words
  pub away : local_of heap pid ≡ None

-- Why a call on nodes that stand failed, from this area and vault on: the device failed, or there was no room for an object that wasn't in the area
-- then. Nothing is damaged.
abbrev pub IsFetchFault : Heap → Outside Space → SwizzleFault → Type 0
IsFetchFault heap outside (AreaFull top wanted size) =
    (top_of heap ≤ top) × (size ≡ heap.size) × (size < top + wanted) × ((pid : ℕ) × (a : IsAway heap outside pid) × (length a.words ≡ wanted))
IsFetchFault heap outside (Vault Device) = Unit {0}
IsFetchFault heap outside (Vault Output) = ⊥
IsFetchFault heap outside (Vault (Full used wanted capacity)) = ⊥
IsFetchFault heap outside (Vault (NoPages held wanted pages)) = ⊥
IsFetchFault heap outside (Vault (Damaged at found wanted)) = ⊥

-- What is seen of area and vault together, and how the area gains objects.
use Rattle.std.specs.Prelude.{◌≡◌, ◌⊎◌, ℕ, ◌≤◌, List, None}
use Rattle.heap_meaning.specs.ps_outside.Outside.{Outside, SameContents}
use Rattle.heap_meaning.specs.obj_layout.Objects.{Contents, HasContents}
use Rattle.heap_meaning.specs.obj_layout.Stored.{Space, Holds}
use Rattle.heap_meaning.specs.obj_layout.declared.header.Header.{Header}
use Rattle.heap_meaning.specs.obj_layout.declared.reference.Reference.{Reference}
use Rattle.heap_meaning.specs.swizzle.Fetched.{IsFar}
use Rattle.heap_meaning.specs.swizzle.Heap.{Heap, IsHeap, IsHeld, header_at, local_of}
use Rattle.heap_meaning.specs.swizzle.Joint.{Shown, Joint, name_at, shown_at, shown_words}
use Rattle.heap_meaning.specs.swizzle.Changes.{Within}
use Rattle.heap_meaning.specs.swizzle.Touch.{Keeps}

-- an object on a volume has no flags, no PID in its header and no chain
pub record IsClean (header : Header) : Type 0 where
  pub flags : header.flags ≡ 0
  pub pid : header.pid ≡ 0
  pub chain : header.chain ≡ 0

-- A vault holds these words under the PID, they may come into the area, and they are clean.
pub record IsStored (outside : Outside Space) (pid : ℕ) (words : List ℕ) : Type 0 where
  pub there : Holds outside pid words
  pub header : Header
  pub far : IsFar words header
  pub clean : IsClean header

-- what is seen of area and vault
abbrev pub seen : Heap → Outside Space → Reference → Shown → Type 0
seen here outside = Joint here (IsStored outside)

-- An object of the area came from the vault: it shows what the vault has under its PID.
pub record Came (old new : Heap) (before : Outside Space) (x : ℕ) : Type 0 where
  pub stored : 1 ≤ (header_at new x).pid
  pub away : local_of old (header_at new x).pid ≡ None
  pub words : List ℕ
  pub there : IsStored before (header_at new x).pid words
  pub shown : shown_at new x ≡ shown_words words

-- An object of the area was made: it isn't stored, nothing was seen under its name, and it has the counts of its kind.
pub record WasMade (old new : Heap) (before : Outside Space) (x : ℕ) : Type 0 where
  pub unstored : (header_at new x).pid ≡ 0
  pub unseen : (it : Shown) → seen old before (name_at new x) it → ⊥
  pub whole : (contents : Contents) × HasContents (header_at new x) contents

-- The area gained objects: those that it had stay, what was seen is seen still, what is new came from the vault or was made, and the vault holds what it held.
pub record Gains (old new : Heap) (before after : Outside Space) : Type 0 where
  pub was_sound : IsHeap old
  pub sound : IsHeap new
  pub keeps : Keeps old new
  pub grows : Within (seen old before) (seen new after)
  pub came : (x : ℕ) → IsHeld new x → IsHeld old x ⊎ (Came old new before x ⊎ WasMade old new before x)
  pub contents : SameContents before after

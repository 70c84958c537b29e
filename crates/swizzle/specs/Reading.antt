-- What reading does, by touches one after another.
use Rattle.std.specs.Prelude.{◌≡◌, ◌≢◌, ◌⊎◌, ℕ, ◌+◌, ◌-◌, ◌*◌, ◌≤◌, List, [], ◌∷◌}
use Rattle.obj_layout.specs.ps_outside.Outside.{Outside, LeavesSame, SameContents, TellsNothing, Rose}
use Rattle.obj_layout.specs.Stored.{Space, Holds}
use Rattle.obj_layout.specs.declared.reference.Reference.{Reference}
use Rattle.obj_layout.specs.declared.reference.Reference.TheVariants.{Nil}
use Rattle.obj_layout.specs.declared.kind.Kind.TheVariants.{Text}
use Rattle.obj_layout.specs.declared.vault.VaultFault.TheVariants.{Device, Output, Full, NoPages}
use Rattle.swizzle.specs.declared.fault.SwizzleFault.{SwizzleFault}
use Rattle.swizzle.specs.declared.fault.SwizzleFault.TheVariants.{Vault}
use Rattle.swizzle.specs.Heap.{Heap, IsHeld, top_of, header_at}
use Rattle.swizzle.specs.Joint.{Shown, Joint, name_at}
use Rattle.swizzle.specs.Changes.{IsKnown, Within}
use Rattle.swizzle.specs.Text.{text_at}
use Rattle.swizzle.specs.Touch.{Keeps, IsNear}

-- what is seen of area and vault together
abbrev pub joint : Heap → Outside Space → Reference → Shown → Type 0
joint heap outside = Joint heap (Holds outside)

-- each of these names is nil or has an object
abbrev pub AreKnown : (Reference → Shown → Type 0) → List Reference → Type 0
AreKnown seen [] = Unit {0}
AreKnown seen (name ∷ names) = ((name ≡ Nil) ⊎ IsKnown seen name) × AreKnown seen names

-- each of these names is nil, or that of an object of the area
abbrev pub AreNear : Heap → List Reference → Type 0
AreNear heap [] = Unit {0}
AreNear heap (name ∷ names) = IsNear heap name × AreNear heap names

-- the name stands in the list
abbrev pub IsAmong : Reference → List Reference → Type 0
IsAmong n [] = ⊥
IsAmong n (m ∷ ms) = (n ≡ m) ⊎ IsAmong n ms

-- Nothing is output, what a crash may leave and what is held stay, and no count sinks.
pub record LeavesOutside (before after : Outside Space) : Type 0 where
  pub told : TellsNothing before after
  pub images : LeavesSame before after
  pub contents : SameContents before after
  pub counts : before.device_faults ≤ after.device_faults
  pub output : after.output_faults ≡ before.output_faults

-- The objects of these names were touched: the area keeps its objects, no object is lost, and where all names were known none is seen more.
-- Where all were nil or in the area, no object came, and each that came has one of the names. For each word that came there were at most two
-- device calls.
pub record Reads (old new : Heap) (before after : Outside Space) (names : List Reference) : Type 0 where
  pub keeps : Keeps old new
  pub grows : Within (joint old before) (joint new after)
  pub no_more : AreKnown (joint old before) names → Within (joint new after) (joint old before)
  pub idle : AreNear old names → top_of new ≡ top_of old
  pub only : (at : ℕ) → IsHeld new at → IsHeld old at ⊎ IsAmong (name_at new at) names
  pub outside : LeavesOutside before after
  pub calls : after.device_calls ≤ before.device_calls + 2 * (top_of new - top_of old)

-- A reading that failed. It is never the output that failed, nor was the vault full or in want of pages, and the device is named only where it failed.
pub record FailsReading (before after : Outside Space) (fault : SwizzleFault) : Type 0 where
  pub outside : LeavesOutside before after
  pub cause : fault ≡ Vault Device → Rose before.device_faults after.device_faults
  pub other : fault ≢ Vault Output
  pub full : (used wanted capacity : ℕ) → fault ≢ Vault (Full used wanted capacity)
  pub pages : (held wanted pages : ℕ) → fault ≢ Vault (NoPages held wanted pages)

-- a text of the area keeps its place and its bytes
pub record TextStays (old new : Heap) (at : ℕ) : Type 0 where
  pub held : IsHeld new at
  pub kind : (header_at new at).kind ≡ Text
  pub bytes : text_at new at ≡ text_at old at

-- so does each
abbrev pub TextsStay : Heap → Heap → Type 0
TextsStay old new = (at : ℕ) → IsHeld old at → (header_at old at).kind ≡ Text → TextStays old new at

-- What a touch does: to the area, to what is seen of the outside, and why it is refused.
use Rattle.std.specs.Prelude.{◌≡◌, ◌≢◌, ◌⊎◌, ℕ, ◌+◌, ◌-◌, ◌/◌, ◌≤◌, ◌<◌, List, length, Option, Some, None, Result, Err, OnOk}
use Rattle.obj_layout.specs.ps_outside.Outside.{Outside, LeavesSame, SameContents, TellsNothing, Rose}
use Rattle.obj_layout.specs.Stored.{Space, Holds}
use Rattle.obj_layout.specs.declared.reference.Reference.{Reference}
use Rattle.obj_layout.specs.declared.reference.Reference.TheVariants.{Nil, Pid}
use Rattle.obj_layout.specs.declared.vault.VaultFault.TheVariants.{Device, Output, Full, NoPages}
use Rattle.swizzle.specs.declared.fault.SwizzleFault.{SwizzleFault}
use Rattle.swizzle.specs.declared.fault.SwizzleFault.TheVariants.{AreaFull, Vault}
use Rattle.swizzle.specs.Heap.{Heap, IsHeld, header_at, top_of, local_of}
use Rattle.swizzle.specs.Damaged.{IsSound, PassesVault, ReportsDamage}
use Rattle.swizzle.specs.Joint.{name_at, shown_at}

-- An object of the area lies as it did and shows as it did.
pub record Stays (old new : Heap) (at : ℕ) : Type 0 where
  pub held : IsHeld new at
  pub name : name_at new at ≡ name_at old at
  pub shown_as : shown_at new at ≡ shown_at old at
  pub flags : (header_at new at).flags ≡ (header_at old at).flags
  pub refs : (header_at new at).refs ≡ (header_at old at).refs
  pub nums : (header_at new at).nums ≡ (header_at old at).nums

-- Objects of the area stay where they are, and show as they did; the list of the assigned stays, and the top doesn't sink.
pub record Keeps (old new : Heap) : Type 0 where
  pub size : new.size ≡ old.size
  pub top : top_of old ≤ top_of new
  pub assigned : new.assigned ≡ old.assigned
  pub objects : (at : ℕ) → IsHeld old at → Stays old new at

-- This is the object of the area that has that name, or none for nil.
abbrev pub Denotes : Heap → Option ℕ → Reference → Type 0
Denotes heap None name = name ≡ Nil
Denotes heap (Some at) name = IsHeld heap at × (name_at heap at ≡ name)

-- The name is nil, or that of an object of the area.
abbrev pub IsNear : Heap → Reference → Type 0
IsNear heap name = (name ≡ Nil) ⊎ ((at : ℕ) × IsHeld heap at × (name_at heap at ≡ name))

-- No device call was made; or words came, five at least, and few calls were made for them.
abbrev pub AreFew : ℕ → ℕ → ℕ → Type 0
AreFew before after words = (after ≡ before) ⊎ ((5 ≤ words) × (after ≤ before + words / 512 + 6))

-- How many words came: none, or those of the object of this reference, which is stored and wasn't in the area.
abbrev pub Came : Heap → Heap → Outside Space → Reference → Type 0
Came old new outside reference =
    (top_of new ≡ top_of old)
    ⊎ ((pid : ℕ) × (reference ≡ Pid pid) × (local_of old pid ≡ None) × ((words : List ℕ) → Holds outside pid words → top_of new ≡ top_of old + length words))

-- What is held and wasn't before is the object of this reference.
abbrev pub Only : Heap → Heap → Reference → Type 0
Only old new reference = (at : ℕ) → IsHeld new at → IsHeld old at ⊎ (name_at new at ≡ reference)

-- What a touch does to the outside: it outputs nothing, leaves what a crash may leave and what is held, fails as the device only where that
-- did, and where it is answered takes few device calls, by the words of the object that came.
pub record IsTouchCall {T : Type 0} (old new : Heap) (before after : Outside Space) (result : Result T SwizzleFault) : Type 0 where
  pub told : TellsNothing before after
  pub images : LeavesSame before after
  pub contents : SameContents before after
  pub counts : before.device_faults ≤ after.device_faults
  pub output : after.output_faults ≡ before.output_faults
  pub cause : result ≡ Err (Vault Device) → Rose before.device_faults after.device_faults
  pub other : result ≢ Err (Vault Output)
  pub full : (used wanted capacity : ℕ) → result ≢ Err (Vault (Full used wanted capacity))
  pub pages : (held wanted pages : ℕ) → result ≢ Err (Vault (NoPages held wanted pages))
  pub calls : OnOk result (AreFew before.device_calls after.device_calls (top_of new - top_of old))

-- Where the object of this reference came, it is one that passes all tests.
abbrev pub Sound : Heap → Outside Space → Reference → Type 0
Sound old outside reference = (pid : ℕ) → reference ≡ Pid pid → local_of old pid ≡ None → IsSound outside pid

-- Why a reference's object isn't in the area: it is stored, passes the vault's tests, and there is no room for it; or the vault refused it or
-- gave no object, and the numbers are those of the first test that failed.
abbrev pub IsTouchFault : Heap → Outside Space → Reference → SwizzleFault → Type 0
IsTouchFault heap outside reference (AreaFull top wanted size) =
    (top ≡ top_of heap) × (size ≡ heap.size) × (size < top + wanted)
    × ((pid : ℕ) × (reference ≡ Pid pid) × (local_of heap pid ≡ None) × PassesVault outside pid
    × ((words : List ℕ) → Holds outside pid words → length words ≡ wanted))
IsTouchFault heap outside reference (Vault fault) =
    (pid : ℕ) × (reference ≡ Pid pid) × (local_of heap pid ≡ None) × ReportsDamage outside pid fault

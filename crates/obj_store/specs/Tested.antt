-- The tests of an object, and what they answer.
use Rattle.std.specs.Prelude.{◌≡◌, ◌⊎◌, ℕ, ◌+◌, ◌<◌, ◌≤◌, List, length, take, drop, Option, Some, None, IfSome}
use Rattle.obj_layout.specs.ps_outside.Outside.{Outside, Rose}
use Rattle.obj_layout.specs.declared.header.Header.{Header}
use Rattle.obj_layout.specs.declared.vault.VaultFault.{VaultFault}
use Rattle.obj_layout.specs.declared.vault.VaultFault.TheVariants.{Device, Full, Damaged}
use Rattle.obj_layout.specs.Header.{HasFitLengths, HasFitFields, header_words, object_length}
use Rattle.paged_volume.specs.Planning.{wanted_pages}
use Rattle.paged_volume.specs.Committing.{HasRoom}
use Rattle.paged_volume.specs.declared.committed.Committed.{Committed}
use Rattle.paged_volume.specs.declared.table.Table.{Table}
use Rattle.obj_layout.specs.Stored.{Space, Damage, damage_at}
use Rattle.obj_store.specs.Lacking.{IsShort}

-- an object with this header has its place, and is as long as is wanted
pub record Fits (pid used : ℕ) (wanted : Option ℕ) (header : Header) : Type 0 where
  pub fields : HasFitFields header
  pub lengths : HasFitLengths header
  pub low : 1 ≤ pid
  pub within : pid + object_length header ≤ used
  pub as_wanted : IfSome wanted (λ count. object_length header ≡ count)

-- The fault tells the damage of the object at a PID, in all words that are of this kind.
pub record TellsDamage (pid : ℕ) (wanted : Option ℕ) (could_be : List ℕ → Type 0) (fault : VaultFault) : Type 0 where
  pub damage : Damage
  pub fault_is : fault ≡ Damaged pid damage.found damage.wanted
  pub is : (words : List ℕ) → could_be words → damage_at words pid wanted ≡ Some damage

-- words of a space, of which these four stand at a PID
pub record HasFour (used pid : ℕ) (four words : List ℕ) : Type 0 where
  pub long : length words ≡ used
  pub there : take 4 (drop pid words) ≡ four

-- the words of a space that is held
pub record AreHeld (outside : Outside Space) (words : List ℕ) : Type 0 where
  pub space : Space
  pub held : outside.contents space
  pub are : words ≡ space.words

-- why an object isn't answered: the device failed, or the object is damaged
abbrev pub IsObjectFault : Outside Space → Outside Space → ℕ → Option ℕ → VaultFault → Type 0
IsObjectFault old new pid wanted fault =
    ((fault ≡ Device) × Rose old.device_faults new.device_faults) ⊎ TellsDamage pid wanted (AreHeld old) fault

-- why an object isn't written over: the same, or there are too few pages, each page wanting one
abbrev pub IsOverwriteFault : Outside Space → Outside Space → Table → ℕ → Option ℕ → VaultFault → Type 0
IsOverwriteFault old new table pid wanted fault = IsObjectFault old new pid wanted fault ⊎ IsShort table 1 fault

-- why no object is appended: the device failed, it doesn't fit, or there are too few pages
abbrev pub IsAppendFault : {X : Type 0} → Outside X → Outside X → Table → ℕ → ℕ → ℕ → VaultFault → Type 0
IsAppendFault old new table used wanted capacity fault =
    ((fault ≡ Device) × Rose old.device_faults new.device_faults) ⊎ (((fault ≡ Full used wanted capacity) × (capacity < used + wanted)) ⊎ IsShort table 1 fault)

-- why nothing is settled: the device failed, though there were the pages for it; or there are too few for what is committed next
abbrev pub IsSettleFault : Table → Committed → VaultFault → Type 0
IsSettleFault table next fault = ((fault ≡ Device) × HasRoom table next) ⊎ IsShort table (wanted_pages table.map next) fault

-- the object of this PID passes all tests in what is held
abbrev pub IsWhole : Outside Space → ℕ → Option ℕ → Type 0
IsWhole outside pid wanted = (space : Space) → outside.contents space → damage_at space.words pid wanted ≡ None

-- and this is its header
pub record IsObjectHeader (outside : Outside Space) (pid : ℕ) (wanted : Option ℕ) (header : Header) : Type 0 where
  pub spelled : (space : Space) → outside.contents space → take 4 (drop pid space.words) ≡ header_words header
  pub whole : IsWhole outside pid wanted

-- the fault tells this damage at this PID
pub record IsDamageAt (pid : ℕ) (found : Option Damage) (fault : VaultFault) : Type 0 where
  pub damage : Damage
  pub is : found ≡ Some damage
  pub fault_is : fault ≡ Damaged pid damage.found damage.wanted

-- What the tests of an object answer.
use Rattle.std.specs.Prelude.{◌≡◌, ℕ, ◌+◌, ◌≤◌, List, length, take, drop, Option, Some, None, IfSome}
use Rattle.obj_layout.specs.declared.header.Header.{Header}
use Rattle.obj_layout.specs.declared.vault.VaultFault.{VaultFault}
use Rattle.obj_layout.specs.declared.vault.VaultFault.TheVariants.{Damaged}
use Rattle.obj_layout.specs.Header.{HasFitLengths, HasFitFields, header_words, object_length}
use Rattle.obj_layout.specs.Stored.{Damage, damage_at}

-- the object of this PID passes all tests, and this is its header
pub record IsTested (words : List ℕ) (pid : ℕ) (wanted : Option ℕ) (header : Header) : Type 0 where
  pub fields : HasFitFields header
  pub lengths : HasFitLengths header
  pub spelled : take 4 (drop pid words) ≡ header_words header
  pub low : 1 ≤ pid
  pub within : pid + object_length header ≤ length words
  pub as_wanted : IfSome wanted (λ count. object_length header ≡ count)
  pub whole : damage_at words pid wanted ≡ None

-- the fault tells this damage at this PID
pub record IsDamageAt (pid : ℕ) (found : Option Damage) (fault : VaultFault) : Type 0 where
  pub damage : Damage
  pub is : found ≡ Some damage
  pub fault_is : fault ≡ Damaged pid damage.found damage.wanted

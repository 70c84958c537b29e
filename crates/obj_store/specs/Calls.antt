-- What the calls of a store say, as those of a vault do.
use Rattle.std.specs.Prelude.{◌≡◌, ℕ, ◌+◌, ◌≤◌, ◌<◌, List, length, Some, None, Result, Err, IfOk, OnOk}
use Rattle.obj_layout.specs.ps_outside.Outside.{Outside, SameContents}
use Rattle.obj_layout.specs.declared.vault.VaultFault.{VaultFault}
use Rattle.obj_layout.specs.declared.vault.VaultFault.TheVariants.{Full}
use Rattle.obj_layout.specs.Stored.{Space, Holds, IsHeaded, length_there, words_there, appended, overwritten, directed}
use Rattle.obj_layout.specs.Storing.{Access, IsStoreCall, IsStagingCall, TestsObject, NeverDamaged, NeverFull, LacksPages, NeverLacksPages, Becomes, Settles, reading, writing, settling}

-- a length is asked
pub record Measures (old new : Outside Space) (pid : ℕ) (result : Result ℕ VaultFault) : Type 0 where
  pub told : IfOk result (λ count. (words : List ℕ) → Holds old pid words → length words ≡ count)
  pub stands : IfOk result (λ count. (space : Space) → old.contents space → length_there pid space ≡ count)
  pub tested : TestsObject old pid None result
  pub call : IsStoreCall old new 2 result
  pub same : SameContents old new
  pub full : NeverFull result
  pub pages : NeverLacksPages result

-- so many words are fetched
pub record Fetches (old new : Outside Space) (pid count : ℕ) (into : List ℕ) (result : Result (Unit {0}) VaultFault) : Type 0 where
  pub told : ((words : List ℕ) → Holds old pid words → length words ≡ count) → OnOk result ((words : List ℕ) → Holds old pid words → words ≡ into)
  pub stands : OnOk result ((space : Space) → old.contents space → words_there pid count space ≡ into)
  pub headed : OnOk result (IsHeaded into)
  pub tested : TestsObject old pid (Some count) result
  pub call : IsStoreCall old new (reading count) result
  pub same : SameContents old new
  pub full : NeverFull result
  pub pages : NeverLacksPages result

-- an object is appended
pub record Appends (old new : Outside Space) (words : List ℕ) (used next most : ℕ) {L : Type 0} (access : Access L) (result : Result ℕ VaultFault) : Type 0 where
  pub pid : IfOk result (λ pid. pid ≡ used)
  pub told : OnOk result (Becomes old new (appended words))
  pub full : (found wanted capacity : ℕ) → result ≡ Err (Full found wanted capacity) →
      (found ≡ used) × (wanted ≡ length words) × (capacity ≡ most) × (capacity < found + wanted)
  pub room : OnOk result (used + length words ≤ most)
  pub pages : LacksPages access result
  pub call : IsStagingCall old new (writing (length words)) result
  pub sound : NeverDamaged result
  pub used_is : OnOk result (next ≡ used + length words)

-- an object is written over
pub record Overwrites (old new : Outside Space) (pid : ℕ) (words : List ℕ) {L : Type 0} (access : Access L) (result : Result (Unit {0}) VaultFault) : Type 0 where
  pub told : OnOk result (Becomes old new (overwritten pid words))
  pub tested : TestsObject old pid (Some (length words)) result
  pub call : IsStagingCall old new (writing (length words)) result
  pub full : NeverFull result
  pub pages : LacksPages access result

-- all is settled
pub record SettlesAll (old new : Outside Space) (used directory : ℕ) {L : Type 0} (access : Access L) (result : Result (Unit {0}) VaultFault) : Type 0 where
  pub told : OnOk result (Becomes old new (directed directory))
  pub settled : Settles old new (settling used) (directed directory) result
  pub full : NeverFull result
  pub pages : LacksPages access result
  pub sound : NeverDamaged result

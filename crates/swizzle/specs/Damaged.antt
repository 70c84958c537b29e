-- Why an object of a vault doesn't come into the area: the vault's tests refuse it, or its words aren't such as may lie there.
use Rattle.std.specs.Prelude.{◌≡◌, ◌≢◌, ◌⊎◌, ℕ, ◌+◌, ◌*◌, ◌^◌, ◌==◌, List, [], ◌∷◌, length, take, drop, nat_lt, if◌then◌else◌, Option, Some, None, IfSome}
use Rattle.obj_layout.specs.ps_outside.Outside.{Outside}
use Rattle.obj_layout.specs.declared.header.Header.{Header}
use Rattle.obj_layout.specs.declared.vault.VaultFault.{VaultFault}
use Rattle.obj_layout.specs.declared.vault.VaultFault.TheVariants.{Damaged, Full, NoPages}
use Rattle.obj_layout.specs.Stored.{Space, Damage, Holds, IsHeaded, damage, damage_at}
use Rattle.swizzle.specs.Objects.{header_in, words_before}

-- the first of these words that is neither nil nor a PID
abbrev pub near_word : List ℕ → Option ℕ
near_word [] = None
near_word (word ∷ words) = if word == 0 then near_word words else (if nat_lt (2 ^ 63) word then near_word words else Some word)

-- in its place nil was wanted
abbrev pub of_reference : Option ℕ → Option Damage
of_reference None = None
of_reference (Some word) = damage word 0

-- Why words with this header may not come into the area: the first of these tests that they fail. There is a number word, for the home; the
-- bytes of a text or of code fit after the home and the frame; each reference is nil or a PID.
abbrev pub damage_by : Header → List ℕ → Option Damage
damage_by header words =
    let bytes = 8 * words_before header.kind + header.bytes in
    let room = 8 * header.nums in
    if nat_lt header.nums 1 then damage header.nums 1 else
    (if nat_lt room bytes then damage bytes room else of_reference (near_word (take header.refs (drop 4 words))))

-- the same of words by the header that they begin with
abbrev pub far_damage : List ℕ → Option Damage
far_damage words = damage_by (header_in words) words

-- The vault's tests find the object damaged so, in each content of the vault: no length of it is wanted, or the one that the vault gave.
pub record IsRefused (outside : Outside Space) (pid : ℕ) (what : Damage) : Type 0 where
  pub wanted : Option ℕ
  pub length_is : IfSome wanted (λ count. (words : List ℕ) → Holds outside pid words → length words ≡ count)
  pub tested : (space : Space) → outside.contents space → damage_at space.words pid wanted ≡ Some what

-- The vault gave words for the object, those that it holds where it holds any, and this is why they may not come into the area.
pub record IsUnfit (outside : Outside Space) (pid : ℕ) (what : Damage) : Type 0 where
  pub words : List ℕ
  pub headed : IsHeaded words
  pub held : (list : List ℕ) → Holds outside pid list → list ≡ words
  pub why : far_damage words ≡ Some what

-- an object of a vault is damaged so
abbrev pub IsDamaged : Outside Space → ℕ → Damage → Type 0
IsDamaged outside pid what = IsRefused outside pid what ⊎ IsUnfit outside pid what

-- a fault that reports an object as damaged reports this one, with the numbers of the test that failed
abbrev pub ReportsDamage : Outside Space → ℕ → VaultFault → Type 0
ReportsDamage outside pid fault =
    (at found wanted : ℕ) → fault ≡ Damaged at found wanted → (at ≡ pid) × IsDamaged outside pid (record { found = found; wanted = wanted })

-- the object passes the vault's tests, in each content of the vault
abbrev pub PassesVault : Outside Space → ℕ → Type 0
PassesVault outside pid = (space : Space) → outside.contents space → damage_at space.words pid None ≡ None

-- and what is held of it may come into the area
pub record IsSound (outside : Outside Space) (pid : ℕ) : Type 0 where
  pub passes : PassesVault outside pid
  pub fits : (words : List ℕ) → Holds outside pid words → far_damage words ≡ None

-- Why no object was fetched: the vault was never full nor in want of pages, and a damaged one is the one that was asked for.
pub record IsStoredFault (outside : Outside Space) (pid : ℕ) (fault : VaultFault) : Type 0 where
  pub full : (used wanted capacity : ℕ) → fault ≢ Full used wanted capacity
  pub pages : (held wanted pages : ℕ) → fault ≢ NoPages held wanted pages
  pub damaged : ReportsDamage outside pid fault

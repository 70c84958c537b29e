-- What a commit does outside, and why it breaks off.
use Rattle.std.proofs.Common.{◌≡◌, ℕ, List, Option, refl, sym, subst, arith}
use Rattle.std.specs.Prelude.{Result, Ok, Err}
use Rattle.machine_core.specs.ps_outside.Outside.{Outside}
use Rattle.machine_core.specs.obj_layout.Stored.{Space}
use Rattle.machine_core.specs.obj_layout.Storing.{Access, Settles}
use Rattle.machine_core.specs.obj_layout.declared.vault.VaultFault.{VaultFault}
use Rattle.machine_core.specs.obj_layout.declared.vault.VaultFault.TheVariants as vault
use Rattle.machine_core.specs.swizzle.declared.fault.SwizzleFault.{SwizzleFault}
use Rattle.machine_core.specs.swizzle.declared.fault.SwizzleFault.TheVariants.{AreaFull, Vault}
use Rattle.machine_core.specs.swizzle.Heap.{Heap}
use Rattle.machine_core.proofs.of_swizzle.ReadingLaws.{leaves-none}
use Rattle.machine_core.specs.joint_held.reach_commit.Answers.{Lacks, LeavesAll, Stores}
use Rattle.machine_core.specs.joint_held.reach_commit.commit_walk.declared.homes.Source.{Source}
use Rattle.machine_core.specs.joint_held.reach_commit.declared.commit.CommitAnswer.{CommitAnswer}
use Rattle.machine_core.specs.joint_held.reach_commit.declared.commit.CommitAnswer.TheVariants as answer
use Rattle.machine_commits.specs.Committing.{FailsBy, IsSilent, IsOfVault}

-- nothing was done
pub silent-none : (outside : Outside Space) → IsSilent outside outside
silent-none outside = record {
  told = (leaves-none outside).told;
  past = record { later = omega arith; kept = λ m x low is. is; no_other = λ m x low is. is };
  device = omega arith;
  output = refl;
}

silent-settles : (before after : Outside Space) (most : ℕ) (step : Space → Space) (result : Result (Unit {0}) VaultFault) → Settles before after most step result
    → IsSilent before after
silent-settles before after most step result s = record { told = s.told; past = s.past; device = s.counts; output = s.output }

module _ {V : Type 0} (outside : V → Outside Space) (v w : V) (old new : Heap) (writing : List Source) (directory : Option ℕ) (used now most named : ℕ) where
  abbrev Stored : Result CommitAnswer SwizzleFault → Type 0
  Stored r = Stores old new writing directory (outside v) (outside w) used now most named r

  silent-still : w ≡ v → IsSilent (outside v) (outside w)
  silent-still same = subst (λ (x : V). IsSilent (outside v) (outside x)) (sym same) (silent-none (outside v))

  -- a commit is silent, whatever it answers
  pub silent : (result : Result CommitAnswer SwizzleFault) → LeavesAll old new v w result → Stored result → IsSilent (outside v) (outside w)
  silent (Ok (answer.NotWritable object home)) still stores = silent-still still.1
  silent (Ok answer.Nothing) still stores = silent-still still.1
  silent (Ok (answer.Saved fresh rewritten)) still stores = silent-settles (outside v) (outside w) _ _ _ stores.settles
  silent (Err (Vault fault)) still stores = silent-settles (outside v) (outside w) _ _ _ stores.settles
  silent (Err (AreaFull top wanted size)) still stores = absurd stores

  -- Why it broke off.
  -- what breaks off the storing is of the vault, and none of the output
  pub of-vault : (fault : SwizzleFault) → Stored (Err fault) → IsOfVault fault
  of-vault (AreaFull top wanted size) stores = absurd stores
  of-vault (Vault vault.Device) stores = tt
  of-vault (Vault vault.Output) stores = absurd (stores.fails.output refl)
  of-vault (Vault (vault.Full found wanted capacity)) stores = tt
  of-vault (Vault (vault.NoPages held wanted pages)) stores = tt
  of-vault (Vault (vault.Damaged at found wanted)) stores = tt

  pub fails-by : {L : Type 0} (access : Access L) (fault : SwizzleFault) → Stored (Err fault) → Lacks access (Err fault) → FailsBy (outside v) (outside w) access fault
  fails-by access (AreaFull top wanted size) stores lacks = tt
  fails-by access (Vault vault.Device) stores lacks = stores.fails.device refl
  fails-by access (Vault vault.Output) stores lacks = absurd (stores.fails.output refl)
  fails-by access (Vault (vault.Full found wanted capacity)) stores lacks = (stores.fails.full found wanted capacity refl).full
  fails-by access (Vault (vault.NoPages held wanted pages)) stores lacks = lacks held wanted pages refl
  fails-by access (Vault (vault.Damaged at found wanted)) stores lacks = tt

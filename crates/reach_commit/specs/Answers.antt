-- What a commit answers: when, and what it leaves.
use Rattle.std.specs.Prelude.{◌≡◌, ℕ, ◌+◌, ◌<◌, false, List, Option, Result, Ok, Err}
use Rattle.swizzle.specs.obj_layout.ps_outside.Outside.{Outside}
use Rattle.swizzle.specs.obj_layout.Stored.{Space}
use Rattle.swizzle.specs.obj_layout.Storing.{Access}
use Rattle.swizzle.specs.obj_layout.declared.vault.VaultFault.TheVariants.{NoPages}
use Rattle.swizzle.specs.declared.fault.SwizzleFault.{SwizzleFault}
use Rattle.swizzle.specs.declared.fault.SwizzleFault.TheVariants.{AreaFull, Vault}
use Rattle.swizzle.specs.Heap.{Heap}
use Rattle.commit_walk.specs.declared.homes.Source.{Source}
use Rattle.reach_commit.specs.declared.commit.CommitAnswer.{CommitAnswer}
use Rattle.reach_commit.specs.declared.commit.CommitAnswer.TheVariants.{Nothing, Saved, NotWritable}
use Rattle.reach_commit.specs.Deciding.{AreWritable, IsRefused, HasWork, IsIdle}
use Rattle.reach_commit.specs.Committing.{Saves, BreaksOff}

-- It is refused where an assigned object is at home in a database that isn't open for writing; else there is nothing to do where nothing was assigned and
-- no database was made; else it stores, or breaks off.
abbrev pub Decides : Heap → List Source → Result CommitAnswer SwizzleFault → Type 0
Decides heap writing (Ok (NotWritable object home)) = IsRefused heap writing object home
Decides heap writing (Ok Nothing) = AreWritable heap writing × IsIdle heap writing
Decides heap writing (Ok (Saved fresh rewritten)) = AreWritable heap writing × HasWork heap writing
Decides heap writing (Err fault) = AreWritable heap writing × HasWork heap writing

-- one that is refused or has nothing to do changes nothing
abbrev pub LeavesAll : {V : Type 0} → Heap → Heap → V → V → Result CommitAnswer SwizzleFault → Type 0
LeavesAll old new before after (Ok (NotWritable object home)) = (new ≡ old) × (after ≡ before)
LeavesAll old new before after (Ok Nothing) = (new ≡ old) × (after ≡ before)
LeavesAll old new before after (Ok (Saved fresh rewritten)) = Unit {0}
LeavesAll old new before after (Err fault) = Unit {0}

-- one that stores does what a commit does, or breaks off at a fault of the vault
abbrev pub Stores : Heap → Heap → List Source → Option ℕ → Outside Space → Outside Space → ℕ → ℕ → ℕ → ℕ → Result CommitAnswer SwizzleFault → Type 0
Stores old new writing directory before after used now most named (Ok (NotWritable object home)) = Unit {0}
Stores old new writing directory before after used now most named (Ok Nothing) = Unit {0}
Stores old new writing directory before after used now most named (Ok (Saved fresh rewritten)) =
    Saves old new writing directory before after used now most named fresh rewritten
Stores old new writing directory before after used now most named (Err (Vault fault)) = BreaksOff old new writing directory before after used most fault
Stores old new writing directory before after used now most named (Err (AreaFull top wanted size)) = ⊥

-- pages are lacked only beside snapshots, and where those that are held and those that are wanted are more than there are
abbrev pub Lacks : {L : Type 0} → Access L → Result CommitAnswer SwizzleFault → Type 0
Lacks access (Ok answer) = Unit {0}
Lacks access (Err (Vault fault)) = (held wanted pages : ℕ) → fault ≡ NoPages held wanted pages → (access.alone ≡ false) × (pages < held + wanted)
Lacks access (Err (AreaFull top wanted size)) = Unit {0}

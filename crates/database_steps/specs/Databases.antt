-- What a run holds of databases: when it is the same, and what is so of it where no other session runs beside it.
use Rattle.std.specs.Prelude.{◌≡◌, ℕ, ◌≤◌, [], length}
use Rattle.std.specs.List.{AllByRecursion}
use Rattle.ps_heap.specs.Held.{Held}

-- The directory is the same, and counted or not as before; so are the databases that are open, those that were created and the homes of objects. The
-- same replies are left, and code weighs the same.
pub record SameDatabases (before after : Held) : Type 0 where
  pub homes : after.homes ≡ before.homes
  pub directory : after.directory ≡ before.directory
  pub openings : after.openings ≡ before.openings
  pub created : after.created ≡ before.created
  pub asked : after.asked ≡ before.asked
  pub replies : after.replies ≡ before.replies
  pub weigh : after.weigh ≡ before.weigh

-- one of so many databases has this number
pub record IsNumber (count number : ℕ) : Type 0 where
  pub first : 1 ≤ number
  pub last : number ≤ count

-- each database that was made or opened is one of the directory
abbrev pub AreNamed : Held → Type 0
AreNamed h = AllByRecursion (λ opening. IsNumber (length h.directory) opening.number) h.openings

-- the databases that are open are those of the directory alone, and no other session answers what the run asks
pub record IsAlone (h : Held) : Type 0 where
  pub named : AreNamed h
  pub replies : h.replies ≡ []

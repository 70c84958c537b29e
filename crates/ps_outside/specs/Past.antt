-- What is seen of the moments that have been stays.
use Rattle.std.specs.Prelude.{ℕ, ◌≤◌}
use Rattle.ps_outside.specs.Outside.{Outside}

-- What is seen of the moments up to the first stays at the second, and nothing is added to it.
pub record Past {X : Type 0} (before now : ℕ) (old new : ℕ → X → Type 0) : Type 0 where
  pub later : before ≤ now
  pub kept : (m : ℕ) (x : X) → m ≤ before → old m x → new m x
  pub no_other : (m : ℕ) (x : X) → m ≤ before → new m x → old m x

-- what a crash could leave at each moment that has been
abbrev pub KeepsPast : {X : Type 0} → Outside X → Outside X → Type 0
KeepsPast old new = Past old.clock new.clock old.images new.images

-- what had been output at each moment that has been
abbrev pub KeepsTold : {X : Type 0} → Outside X → Outside X → Type 0
KeepsTold old new = Past old.clock new.clock old.told new.told

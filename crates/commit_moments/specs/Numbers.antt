-- The same as `Amid`, by a number of steps, of which the last may be cut.
use Rattle.std.specs.Prelude.{◌≡◌, ◌⊎◌, ℕ, ◌+◌, List, [], ◌∷◌, take, drop, None}
use Rattle.ps_outside.specs.Outside.{Adds, IsPrefix}
use Rattle.commit_moments.specs.Steps.{Step, output_by, heap_after, commit_next, StandsForSome}

-- a step that commits outputs nothing, as an event does
abbrev pub AreEvents : {H : Type 0} → List (Step H) → Type 0
AreEvents [] = Unit {0}
AreEvents (step ∷ steps) = ((step.commits ≡ None) ⊎ (step.output ≡ [])) × AreEvents steps

-- The first k steps were output, of which the last may be cut; and each image stands for the heap after those k, or for the one that the step after
-- them commits.
pub record ShowsFirst {X H : Type 0} (stands : X → H → Type 0) (start : H) (steps : List (Step H)) (told_before : List ℕ → Type 0) (bytes : List ℕ) (images : X → Type 0) : Type 0 where
  pub k : ℕ
  pub front : List ℕ
  pub told : Adds told_before front bytes
  pub no_more : IsPrefix front (output_by (take k steps))
  pub no_less : (j : ℕ) → j + 1 ≡ k → IsPrefix (output_by (take j steps)) front
  pub leaves : (x : X) → images x → stands x (heap_after start (take k steps)) ⊎ StandsForSome stands x (commit_next (drop k steps))

-- The same steps, where heaps are seen as something else.
use Rattle.std.specs.Prelude.{◌≡◌, List, [], ◌∷◌, Option, Some, None}
use Rattle.commit_moments.specs.Steps.{Step}

-- A heap goes with what it is seen as, where there is one.
abbrev pub GoWith : {H K : Type 0} → (H → K → Type 0) → Option H → Option K → Type 0
GoWith goes None None = Unit {0}
GoWith goes (Some heap) (Some other) = goes heap other
GoWith goes _ other = ⊥

-- Steps output the same, and the heaps that they commit go with one another.
abbrev pub AreLike : {H K : Type 0} → (H → K → Type 0) → List (Step H) → List (Step K) → Type 0
AreLike goes [] [] = Unit {0}
AreLike goes (step ∷ steps) (other ∷ others) = (other.output ≡ step.output) × GoWith goes step.commits other.commits × AreLike goes steps others
AreLike goes _ others = ⊥

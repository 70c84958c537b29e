-- What is noted after a number was.
use Rattle.std.specs.Prelude.{◌≡◌, ℕ, List, [], ◌∷◌, ◌++◌, Option, Some, None}

-- the number was noted behind the others; or not all are noted
abbrev pub IsNoted : ℕ → Option (List ℕ) → Option (List ℕ) → Type 0
IsNoted number old None = Unit {0}
IsNoted number old (Some now) = (was : List ℕ) × (old ≡ Some was) × (now ≡ was ++ number ∷ [])

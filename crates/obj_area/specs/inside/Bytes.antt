-- What is so of the bytes of an area.
use Rattle.std.specs.Prelude.{ℕ, ◌≡◌, ◌*◌, ◌/◌, List, length}

-- these bytes spell whole words
abbrev pub AreWhole : List ℕ → Type 0
AreWhole bytes = length bytes ≡ 8 * (length bytes / 8)

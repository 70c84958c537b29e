-- The first entry of a name.
use Rattle.std.specs.Prelude.{ℕ, Option, Some, None, List, [], ◌∷◌, if◌then◌else◌}
use Rattle.std.specs.Str.{bytes_eq}

abbrev pub first_named : {T : Type 0} → (T → List ℕ) → List T → List ℕ → Option T
first_named name_of [] name = None
first_named name_of (entry ∷ rest) name = if bytes_eq (name_of entry) name then Some entry else first_named name_of rest name

-- What stands before a parameter or a field: a mark, but before the first nothing.
use Rattle.std.specs.Prelude.{ℕ, nat_eq, List, [], ◌∷◌, if◌then◌else◌}

abbrev pub comma_at : ℕ → List ℕ
comma_at place = if nat_eq place 0 then [] else 44 ∷ []

abbrev pub semicolon_at : ℕ → List ℕ
semicolon_at place = if nat_eq place 0 then [] else 59 ∷ []

-- The steps by which the text of a class or of a scope is read from field to field.
use Rattle.std.specs.Prelude.{ℕ, ◌==◌, Bool, false, not, if◌then◌else◌, List, [], ◌∷◌}

-- the bytes after the first such mark, none where there is none
unfoldable pub behind_first : ℕ → List ℕ → List ℕ
behind_first mark [] = []
behind_first mark (b ∷ bs) = if b == mark then bs else behind_first mark bs

-- whether a field begins here, and not the bracket that closes
abbrev pub is_field : List ℕ → Bool
is_field [] = false
is_field (b ∷ bs) = not (b == 41)

-- A table: rows that are told apart by their codes, and by their names.
use Rattle.std.specs.Prelude.{ℕ, Bool, true, not, ◌&&◌, nat_eq, List, [], ◌∷◌, map}
use Rattle.std.specs.List.{list_any}
use Rattle.std.specs.Str.{bytes_eq}
use Rattle.ps_cases.specs.declared.row.Row.{Row}

abbrev pub codes : List Row → List ℕ
codes rows = map (λ row. row.code) rows

abbrev pub names : List Row → List (List ℕ)
names rows = map (λ row. row.name.now) rows

-- no two of these are equal, as a test
abbrev pub all_distinct : {A : Type 0} → (A → A → Bool) → List A → Bool
all_distinct eq [] = true
all_distinct eq (x ∷ xs) = not (list_any (eq x) xs) && all_distinct eq xs

abbrev pub is_table : List Row → Bool
is_table rows = all_distinct nat_eq (codes rows) && all_distinct bytes_eq (names rows)

-- The text of the demo program for so many entries.
use Rattle.std.specs.Prelude.{ℕ, ◌+◌, ◌*◌, List, [], ◌∷◌, ◌++◌, map, flat_map, codes, decimal}
use Rattle.std.specs.List.{range_with_len}

-- the lines before the entries
unfoldable pub opening_lines : List (List ℕ)
opening_lines =
    codes "structure entry(string town; int code)"
    ∷ codes "let d := open.database(\"demo\", \"demo\", \"write\")"
    ∷ codes "if d is error.record do d := create.database(\"demo\", \"demo\")"
    ∷ []

-- the line of the entry i of n: its key, its town and its code
unfoldable pub entry_line : ℕ → ℕ → List ℕ
entry_line n i =
    codes "s.enter(\"k" ++ (decimal (1000 * n + i) ++ (codes "\", d, entry(\"town" ++ (decimal i ++ (codes "\", " ++ (decimal (n + i) ++ codes "))")))))

-- the lines of the entries 1 to n
unfoldable pub entry_lines : ℕ → List (List ℕ)
entry_lines n = map (entry_line n) (range_with_len 1 n)

-- the lines behind the entries
unfoldable pub closing_lines : ℕ → List (List ℕ)
closing_lines n =
    codes "let sum := 0"
    ∷ codes "let count = s.scan(d, proc(string k; pntr p -> bool); { sum := sum + p(code); true })"
    ∷ codes "let e = commit()"
    ∷ (codes "write " ++ (decimal n ++ codes ", \" \", count, \" \", cardinality(d), \" \", sum, \"'n\""))
    ∷ []

-- each line is ended by a newline
abbrev pub ended : List ℕ → List ℕ
ended line = line ++ codes "\n"

unfoldable pub text_of_lines : List (List ℕ) → List ℕ
text_of_lines lines = flat_map ended lines

unfoldable pub demo_text : ℕ → List ℕ
demo_text n = text_of_lines (opening_lines ++ (entry_lines n ++ closing_lines n))

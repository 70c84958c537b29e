-- How an int and a string are spelled.
use Rattle.std.specs.Prelude.{ℕ, ◌==◌, List, [], ◌∷◌, ◌++◌, flat_map, if◌then◌else◌}
use Rattle.std.specs.Fmt as text

-- the decimal digits of a number
abbrev pub int_text : ℕ → List ℕ
int_text n = text.decimal n

-- a byte in a string: some have an escape
abbrev pub escaped_byte : ℕ → List ℕ
escaped_byte byte =
    if byte == 10 then 39 ∷ 110 ∷ []
    else (if byte == 9 then 39 ∷ 116 ∷ []
    else (if byte == 39 then 39 ∷ 39 ∷ []
    else (if byte == 34 then 39 ∷ 34 ∷ []
    else byte ∷ [])))

-- a string that spells these bytes, after a quote and before one
abbrev pub string_text : List ℕ → List ℕ
string_text bytes = 34 ∷ (flat_map escaped_byte bytes ++ 34 ∷ [])

-- The reserved words and the marks, by their names.
use Rattle.std.specs.Prelude.{ℕ, List, Option, map}
use Rattle.std.specs.List.{position}
use Rattle.std.specs.Str.{bytes_eq}
use Rattle.ps_scan.specs.declared.word.TheConstants as word
use Rattle.ps_scan.specs.declared.mark.TheConstants as mark

-- the reserved words in their order, and the marks in theirs
abbrev pub reserved_words : List (List ℕ)
reserved_words = map (λ name. name.now) word.SPELLINGS

abbrev pub marks : List (List ℕ)
marks = map (λ name. name.now) mark.SPELLINGS

-- the place of a name among these, from 0 on
abbrev pub place_among : List (List ℕ) → List ℕ → Option ℕ
place_among names name = position (λ other. bytes_eq other name) names

abbrev pub word_place : List ℕ → Option ℕ
word_place name = place_among reserved_words name

abbrev pub mark_place : List ℕ → Option ℕ
mark_place name = place_among marks name

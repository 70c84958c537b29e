-- What is written piece by piece is the line, and line by line the text.
use Rattle.std.proofs.Common.{◌≡◌, ℕ, ◌+◌, ◌*◌, List, [], ◌∷◌, ◌++◌, refl, sym, ap, codes, decimal, append_assoc, ◌∙◌, arith, map, append-nil}
use Rattle.std.specs.Prelude.{flat_map}
use Rattle.std.specs.List.{range_with_len}
use Rattle.std.proofs.lemmas.List.{flat_map_more}
use Rattle.std.proofs.lemmas.List.FromFn.{map-range_with_len_more}
use Rattle.std.proofs.lemmas.List.Concat.{flat_map-append}
use Rattle.ps_demo.specs.Demo.{entry_line, opening_lines, entry_lines, closing_lines, ended, text_of_lines, demo_text}

-- seven pieces, one after the other
seven : (bytes a b c d e f g last : List ℕ) →
    ((((((bytes ++ a) ++ b) ++ c) ++ d) ++ e) ++ f) ++ (g ++ last) ≡ bytes ++ ((a ++ (b ++ (c ++ (d ++ (e ++ (f ++ g)))))) ++ last)
seven bytes a b c d e f g last = simp append_assoc refl

-- three of them
three : (bytes a b c last : List ℕ) → ((bytes ++ a) ++ b) ++ (c ++ last) ≡ bytes ++ (a ++ (((b ++ c) ++ last) ++ []))
three bytes a b c last = simp (append_assoc, append-nil) refl

-- the pieces of the line of an entry
pub entry_written : (bytes : List ℕ) (n i : ℕ) →
    ((((((bytes ++ codes "s.enter(\"k") ++ decimal (1000 * n + i)) ++ codes "\", d, entry(\"town") ++ decimal i) ++ codes "\", ") ++ decimal (n + i)) ++ codes "))\n"
    ≡ bytes ++ ended (entry_line n i)
unfolding entry_line
entry_written bytes n i = seven bytes (codes "s.enter(\"k") (decimal (1000 * n + i)) (codes "\", d, entry(\"town") (decimal i) (codes "\", ") (decimal (n + i)) (codes "))") (codes "\n")

-- the lines before the entries
pub opening_written : (bytes : List ℕ) →
    bytes ++ codes "structure entry(string town; int code)\nlet d := open.database(\"demo\", \"demo\", \"write\")\nif d is error.record do d := create.database(\"demo\", \"demo\")\n" ≡ bytes ++ text_of_lines opening_lines
unfolding opening_lines text_of_lines
opening_written bytes = refl

-- one line more
pub entry_more : (bytes : List ℕ) (n k : ℕ) →
    (bytes ++ text_of_lines (map (entry_line n) (range_with_len 1 k))) ++ ended (entry_line n (k + 1)) ≡ bytes ++ text_of_lines (map (entry_line n) (range_with_len 1 (k + 1)))
unfolding text_of_lines
entry_more bytes n k =
    let line = entry_line n (k + 1) in
    let lines = map (entry_line n) (range_with_len 1 k) in
    let more : map (entry_line n) (range_with_len 1 (k + 1)) ≡ lines ++ line ∷ [] = map-range_with_len_more (entry_line n) 1 k (k + 1) (omega arith) in
    flat_map_more ended bytes lines line ∙ ap (λ all. bytes ++ flat_map ended all) (sym more)

-- the lines behind the entries
pub closing_written : (bytes : List ℕ) (n : ℕ) →
    ((bytes ++ codes "let sum := 0\nlet count = s.scan(d, proc(string k; pntr p -> bool); { sum := sum + p(code); true })\nlet e = commit()\nwrite ") ++ decimal n) ++ codes ", \" \", count, \" \", cardinality(d), \" \", sum, \"'n\"\n"
    ≡ bytes ++ text_of_lines (closing_lines n)
unfolding closing_lines text_of_lines
closing_written bytes n = three bytes (codes "let sum := 0\nlet count = s.scan(d, proc(string k; pntr p -> bool); { sum := sum + p(code); true })\nlet e = commit()\nwrite ") (decimal n) (codes ", \" \", count, \" \", cardinality(d), \" \", sum, \"'n\"") (codes "\n")

-- all lines
pub demo_written : (n : ℕ) → (text_of_lines opening_lines ++ text_of_lines (entry_lines n)) ++ text_of_lines (closing_lines n) ≡ demo_text n
unfolding text_of_lines demo_text
demo_written n =
    append_assoc (flat_map ended opening_lines) (flat_map ended (entry_lines n)) (flat_map ended (closing_lines n))
    ∙ ap (λ rest. flat_map ended opening_lines ++ rest) (sym (flat_map-append ended (entry_lines n) (closing_lines n)))
    ∙ sym (flat_map-append ended opening_lines (entry_lines n ++ closing_lines n))

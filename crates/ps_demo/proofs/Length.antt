-- The text is short.
use Rattle.std.proofs.Common.{◌≤◌, ℕ, ◌+◌, ◌*◌, zero, suc, List, ◌++◌, length, decimal, arith, map, length-append}
use Rattle.std.specs.List.{range_with_len}
use Rattle.std.proofs.lemmas.Fmt.{length-decimal-le}
use Rattle.ps_demo.specs.Demo.{entry_line, opening_lines, entry_lines, closing_lines, ended, text_of_lines}

-- the line of an entry: at most eight digits of its key, five of its town and five of its code
entry_is_short : (n i : ℕ) → n ≤ 10000 → i ≤ n → length (ended (entry_line n i)) ≤ 60
unfolding entry_line
entry_is_short n i few one =
    let key : length (decimal (1000 * n + i)) ≤ 8 = length-decimal-le 8 (1000 * n + i) (omega arith) (omega arith) (omega arith) in
    let town : length (decimal i) ≤ 5 = length-decimal-le 5 i (omega arith) (omega arith) (omega arith) in
    let code : length (decimal (n + i)) ≤ 5 = length-decimal-le 5 (n + i) (omega arith) (omega arith) (omega arith) in
    simp length-append (omega arith)

entries_are_short : (n a k : ℕ) → n ≤ 10000 → a + k ≤ n + 1 → length (text_of_lines (map (entry_line n) (range_with_len a k))) ≤ 60 * k
unfolding text_of_lines
entries_are_short n a zero few one = omega arith
entries_are_short n a (suc k) few one =
    let line = entry_is_short n a few (omega arith) in
    let others = entries_are_short n (a + 1) k few (omega arith) in
    rw (length-append (ended (entry_line n a)) (text_of_lines (map (entry_line n) (range_with_len (a + 1) k)))) (omega arith)

opening_is_short : length (text_of_lines opening_lines) ≤ 160
unfolding opening_lines text_of_lines
opening_is_short = omega arith

closing_is_short : (n : ℕ) → n ≤ 10000 → length (text_of_lines (closing_lines n)) ≤ 200
unfolding closing_lines text_of_lines
closing_is_short n few =
    let number : length (decimal n) ≤ 5 = length-decimal-le 5 n (omega arith) (omega arith) (omega arith) in
    simp length-append (omega arith)

-- as long as its three parts
parts_are_short : (xs ys zs : List ℕ) (k : ℕ) → length xs ≤ 160 → length ys ≤ 60 * k → length zs ≤ 200 → k ≤ 10000 → length ((xs ++ ys) ++ zs) ≤ 1048576
parts_are_short xs ys zs k x y z few = simp length-append (omega arith)

pub demo_is_short : (n : ℕ) → n ≤ 10000 → length ((text_of_lines opening_lines ++ text_of_lines (entry_lines n)) ++ text_of_lines (closing_lines n)) ≤ 1048576
unfolding entry_lines
demo_is_short n few =
    parts_are_short (text_of_lines opening_lines) (text_of_lines (map (entry_line n) (range_with_len 1 n))) (text_of_lines (closing_lines n)) n
    opening_is_short (entries_are_short n 1 n few (omega arith)) (closing_is_short n few) few

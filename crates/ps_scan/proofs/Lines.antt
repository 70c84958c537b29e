-- How the newlines of a text are counted.
use Rattle.std.proofs.Common.{◌≡◌, ℕ, suc, ◌+◌, ◌==◌, Bool, true, false, not, cond, List, [], ◌∷◌, ◌++◌, take, drop, ap, sym, ◌∙◌, refl, arith, zero-add}
use Rattle.std.specs.List.{AllPass}
use Rattle.std.specs.Char.{is_ascii_digit}
use Rattle.std.proofs.Math.Seq.{take-add}
use Rattle.std.proofs.lemmas.Bool.Decides.{nat_tests}
use Rattle.std.proofs.lemmas.List.Elements.{All-head, All-tail}
use Rattle.std.proofs.lemmas.List.Sums.{sum_by-cons, sum_by-append}
use Rattle.ps_scan.specs.Class.{is_name_byte}
use Rattle.ps_scan.specs.Tokens.{newlines, line_number}

pub take_behind : (n byte : ℕ) (rest : List ℕ) → take (1 + n) (byte ∷ rest) ≡ byte ∷ take n rest
take_behind n byte rest = rw one_more refl
  where
    one_more : 1 + n ≡ suc n
    one_more = omega arith

newlines-cons : (byte : ℕ) (rest : List ℕ) → newlines (byte ∷ rest) ≡ cond (byte == 10) 1 0 + newlines rest
unfolding newlines
newlines-cons byte rest = sum_by-cons (λ b. cond (b == 10) 1 0) byte rest

newlines-other : (byte : ℕ) (rest : List ℕ) → (byte == 10) ≡ false → newlines (byte ∷ rest) ≡ newlines rest
newlines-other byte rest other = newlines-cons byte rest ∙ ap (λ t. cond t 1 0 + newlines rest) other ∙ zero-add (newlines rest)

newlines-append : (xs ys : List ℕ) → newlines (xs ++ ys) ≡ newlines xs + newlines ys
unfolding newlines
newlines-append xs ys = sum_by-append (λ b. cond (b == 10) 1 0) xs ys

newlines-nil : newlines [] ≡ 0
unfolding newlines
newlines-nil = refl

-- one byte more
pub no_newline_more : (byte n : ℕ) (rest : List ℕ) → (byte == 10) ≡ false → newlines (take n rest) ≡ 0 → newlines (take (1 + n) (byte ∷ rest)) ≡ 0
no_newline_more byte n rest other none =
    ap newlines (take_behind n byte rest) ∙ newlines-other byte (take n rest) other ∙ none

pub no_newline_first : (byte : ℕ) (rest : List ℕ) → (byte == 10) ≡ false → newlines (take 1 (byte ∷ rest)) ≡ 0
no_newline_first byte rest other = newlines-other byte [] other ∙ newlines-nil

pub newline_first : (byte : ℕ) (rest : List ℕ) → (byte == 10) ≡ true → newlines (take 1 (byte ∷ rest)) ≡ 1
newline_first byte rest same = newlines-cons byte [] ∙ ap (λ t. cond t 1 0 + newlines []) same ∙ ap (λ n. 1 + n) newlines-nil

-- bytes that pass a test which no newline passes
no_newline_passing : (p : ℕ → Bool) → ((byte : ℕ) → p byte ≡ true → (byte == 10) ≡ false) → (xs : List ℕ) → AllPass p xs → newlines xs ≡ 0
no_newline_passing p other [] pass = newlines-nil
no_newline_passing p other (byte ∷ rest) pass =
    newlines-other byte rest (other byte (All-head (λ b. p b ≡ true) byte rest pass)) ∙ no_newline_passing p other rest (All-tail (λ b. p b ≡ true) byte rest pass)

name_byte_other : (byte : ℕ) → is_name_byte byte ≡ true → (byte == 10) ≡ false
unfolding is_name_byte
name_byte_other byte passes = grind (arith, nat_tests)

digit_other : (byte : ℕ) → is_ascii_digit byte ≡ true → (byte == 10) ≡ false
digit_other byte passes = grind (arith, nat_tests)

not_true : (test : Bool) → not test ≡ true → test ≡ false
not_true true passes = sym passes
not_true false passes = refl

not_newline : (byte : ℕ) → not (byte == 10) ≡ true → (byte == 10) ≡ false
not_newline byte passes = not_true (byte == 10) passes

pub no_newline_in_comment : (run : List ℕ) → AllPass (λ byte. not (byte == 10)) run → newlines run ≡ 0
no_newline_in_comment run = no_newline_passing (λ byte. not (byte == 10)) not_newline run

pub no_newline_in_name : (run : List ℕ) → AllPass is_name_byte run → newlines run ≡ 0
no_newline_in_name run = no_newline_passing is_name_byte name_byte_other run

pub no_newline_in_digits : (run : List ℕ) → AllPass is_ascii_digit run → newlines run ≡ 0
no_newline_in_digits run = no_newline_passing is_ascii_digit digit_other run

-- the line of a place further on
pub line_number-add : (text : List ℕ) (at n : ℕ) → line_number text (at + n) ≡ line_number text at + newlines (take n (drop at text))
line_number-add text at n =
    let split = ap newlines (take-add at n text) ∙ newlines-append (take at text) (take n (drop at text)) in
    omega (arith, split)

pub line_number-start : (text : List ℕ) → line_number text 0 ≡ 1
line_number-start text = ap (λ n. 1 + n) newlines-nil

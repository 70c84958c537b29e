-- Each piece that is a token is spelled as one.
use Rattle.std.proofs.Common.{◌≡◌, ℕ, suc, ◌+◌, ◌==◌, not, ◌-◌, ◌≤◌, ◌<◌, Bool, true, false, IsTrue, cond, List, [], ◌∷◌, length, take, Option, Some, None, sym, ◌∙◌, ap, refl, arith, subst, nat_le, length-take-le, get_or, get_or-take, slice_index}
use Rattle.std.specs.List.{take_while, prefix_len, AllPass}
use Rattle.std.specs.Char.{is_ascii_digit, is_ascii_alphabetic}
use Rattle.std.proofs.lemmas.Bool.{leb-true}
use Rattle.std.proofs.lemmas.Bool.Decides.{nat_tests}
use Rattle.std.proofs.lemmas.List.Folds.{length-prefix_len}
use Rattle.std.proofs.lemmas.List.Sums.{prefix_len-le-length}
use Rattle.ps_base.specs.declared.line.Line.{Line}
use Rattle.ps_scan.specs.declared.class.Class.{Class}
use Rattle.ps_scan.specs.declared.class.Class.TheVariants.{Letter, Digit}
use Rattle.ps_scan.specs.declared.piece.Piece.{Piece}
use Rattle.ps_scan.specs.declared.piece.Piece.TheVariants.{End, Fault}
use Rattle.ps_scan.specs.declared.token.TokenKind.{TokenKind}
use Rattle.ps_scan.specs.Class.{class_of, is_name_byte, decimal}
use Rattle.ps_scan.specs.Names.{word_place}
use Rattle.ps_scan.specs.Piece.{Quoted, Closes, StaysOpen, HasBadByte, HasBadEscape, quoted, bytes_of, comment, word_or_name, int, string, double_mark_here, single_mark, mark, piece_of, first_piece}
use Rattle.ps_scan.specs.Tokens.{newlines, IsName, IsInt, IsString, IsSpelled}
use Rattle.ps_scan.proofs.Named.{second_other}
use Rattle.ps_scan.proofs.Runs.{run_passes}
use Rattle.ps_scan.proofs.Lines.{take_behind, no_newline_more, no_newline_first, newline_first, no_newline_in_name, no_newline_in_digits, no_newline_in_comment}
use Rattle.ps_scan.proofs.Closing.{closes_within}

-- so many bytes at the start of the rest are spelled as a token of this kind
pub record Fits (what : TokenKind) (rest : List ℕ) (n : ℕ) : Type 0 where
  pub nonempty : 1 ≤ n
  pub within : n ≤ length rest
  pub one_line : newlines (take n rest) ≡ 0
  pub spelling : IsSpelled what (take n rest)

-- so many bytes at the start of the rest, at least one and on one line
pub record IsOnLine (rest : List ℕ) (n : ℕ) : Type 0 where
  pub nonempty : 1 ≤ n
  pub within : n ≤ length rest
  pub one_line : newlines (take n rest) ≡ 0

-- a piece is spelled as a token if it is one; a newline is one byte, and nothing else has one
FitsPiece : List ℕ → Piece → Type 0
FitsPiece rest End = Unit {0}
FitsPiece rest Piece.Blank = newlines (take 1 rest) ≡ 0
FitsPiece rest Piece.Newline = newlines (take 1 rest) ≡ 1
FitsPiece rest (Piece.Comment n) = IsOnLine rest n
FitsPiece rest (Piece.Token what n) = Fits what rest n
FitsPiece rest (Fault fault) = Unit {0}

-- a run that is not empty, at the start of the rest
record IsRun (p : ℕ → Bool) (rest run : List ℕ) : Type 0 where
  nonempty : 1 ≤ length run
  within : length run ≤ length rest
  front : take (length run) rest ≡ run
  passes : AllPass p run

run_front : (p : ℕ → Bool) (byte : ℕ) (rest : List ℕ) → p byte ≡ true → IsRun p (byte ∷ rest) (take_while p (byte ∷ rest))
run_front p byte rest first =
    let size = length-prefix_len p (byte ∷ rest) in
    let more : prefix_len p (byte ∷ rest) ≡ 1 + prefix_len p rest = rw first in
    record {
      nonempty = omega arith;
      within = omega (arith, prefix_len-le-length p (byte ∷ rest));
      front = ap (λ n. take n (byte ∷ rest)) size;
      passes = run_passes p (byte ∷ rest) _ refl;
    }

-- the classes of bytes
letter_passes : (byte : ℕ) → class_of byte ≡ Letter → is_ascii_alphabetic byte ≡ true
unfolding class_of
letter_passes byte kind = grind (arith, nat_tests)

letter_goes_on : (byte : ℕ) → class_of byte ≡ Letter → is_name_byte byte ≡ true
unfolding class_of is_name_byte
letter_goes_on byte kind = grind (arith, nat_tests)

digit_passes : (byte : ℕ) → class_of byte ≡ Digit → is_ascii_digit byte ≡ true
unfolding class_of
digit_passes byte kind = grind (arith, nat_tests)

quote_is : (byte : ℕ) → class_of byte ≡ Class.Quote → byte ≡ 34
unfolding class_of
quote_is byte kind = grind (arith, nat_tests)

quote_other : (byte : ℕ) → byte ≡ 34 → (byte == 10) ≡ false
quote_other byte kind = grind (arith, nat_tests)

blank_other : (byte : ℕ) → class_of byte ≡ Class.Blank → (byte == 10) ≡ false
unfolding class_of
blank_other byte kind = grind (arith, nat_tests)

newline_is : (byte : ℕ) → class_of byte ≡ Class.Newline → (byte == 10) ≡ true
unfolding class_of
newline_is byte kind = grind (arith, nat_tests)

comment_goes_on : (byte : ℕ) → class_of byte ≡ Class.Comment → not (byte == 10) ≡ true
unfolding class_of
comment_goes_on byte kind = grind (arith, nat_tests)

other_other : (byte : ℕ) → class_of byte ≡ Class.Other → (byte == 10) ≡ false
unfolding class_of
other_other byte kind = grind (arith, nat_tests)

-- a choice between two pieces
choice : (rest : List ℕ) (test : Bool) (yes_ no_ : Piece) → (test ≡ true → FitsPiece rest yes_) → FitsPiece rest no_ → FitsPiece rest (cond test yes_ no_)
choice rest true yes_ no_ fits other = fits refl
choice rest false yes_ no_ fits other = other

module _ (line : Line) (byte : ℕ) (rest : List ℕ) where
  run_begins : (run : List ℕ) → IsRun is_name_byte (byte ∷ rest) run → slice_index run 0 ≡ byte
  run_begins run is_run =
      let some : 0 < length run = omega (arith, is_run.nonempty) in
      ap (λ l. get_or l 0 0) (sym is_run.front) ∙ get_or-take (length run) (byte ∷ rest) 0 0 some

  slice_size : (n : ℕ) → n ≤ length rest → n ≡ suc (length (take n rest)) - 1
  slice_size n within = omega (arith, length-take-le n rest within)

  word_fits : (run : List ℕ) (place : Option ℕ) → IsRun is_name_byte (byte ∷ rest) run → is_ascii_alphabetic byte ≡ true → word_place run ≡ place → FitsPiece (byte ∷ rest) (word_or_name line run place)
  unfolding FitsPiece word_or_name
  word_fits run (Some place) is_run first found = record {
    nonempty = is_run.nonempty;
    within = is_run.within;
    one_line = ap newlines is_run.front ∙ no_newline_in_name run is_run.passes;
    spelling = ap word_place is_run.front ∙ found;
  }
  word_fits run None is_run first found =
      choice (byte ∷ rest) (nat_le (length run) 64) _ _
      (λ short. record {
        nonempty = is_run.nonempty;
        within = is_run.within;
        one_line = ap newlines is_run.front ∙ no_newline_in_name run is_run.passes;
        spelling = subst IsName (sym is_run.front) (record {
          begins = subst (λ b. IsTrue (is_ascii_alphabetic b)) (sym (run_begins run is_run)) first;
          goes_on = is_run.passes;
          size = (is_run.nonempty, leb-true _ _ short);
          free = found;
        });
      })
      tt

  int_fits : (digits : List ℕ) → IsRun is_ascii_digit (byte ∷ rest) digits → FitsPiece (byte ∷ rest) (int line digits)
  unfolding FitsPiece int
  int_fits digits is_run =
      choice (byte ∷ rest) (nat_le (decimal digits) 2147483647) _ _
      (λ small. record {
        nonempty = is_run.nonempty;
        within = is_run.within;
        one_line = ap newlines is_run.front ∙ no_newline_in_digits digits is_run.passes;
        spelling = subst IsInt (sym is_run.front) (record {
          size = is_run.nonempty;
          digits = is_run.passes;
          fits = leb-true _ _ small;
        });
      })
      tt

  string_fits : (q : Quoted) → byte ≡ 34 → quoted rest ≡ q → FitsPiece (byte ∷ rest) (string line q)
  unfolding FitsPiece string bytes_of
  string_fits (Closes bytes n) first closes =
      let ends = closes_within rest bytes n closes in
      choice (byte ∷ rest) (nat_le (length bytes) 65535) _ _
      (λ short. record {
        nonempty = omega arith;
        within = omega (arith, ends.within);
        one_line = no_newline_more byte n rest (quote_other byte first) ends.one_line;
        spelling = subst IsString (sym (take_behind n byte rest)) (record {
          begins = ap Some first;
          closes = ends.alone ∙ ap (λ all. Closes all n) (sym (ap bytes_of ends.alone)) ∙ ap (Closes (bytes_of (quoted (take n rest)))) (slice_size n ends.within);
          fits = omega (arith, ap (λ q. length (bytes_of q)) ends.alone, leb-true _ _ short);
        });
      })
      tt
  string_fits StaysOpen first closes = tt
  string_fits (HasBadByte bad) first closes = tt
  string_fits (HasBadEscape bad) first closes = tt

mark_fits : (line : Line) (byte : ℕ) (rest : List ℕ) (double single : Option ℕ) → (byte == 10) ≡ false → double_mark_here byte rest ≡ double → single_mark byte ≡ single → FitsPiece (byte ∷ rest) (mark line byte double single)
unfolding FitsPiece mark
mark_fits line byte [] (Some place) single other two one = absurd (cc)
mark_fits line byte (second ∷ rest) (Some place) single other two one = record {
  nonempty = omega arith;
  within = omega arith;
  one_line = no_newline_more byte 1 (second ∷ rest) other (no_newline_first second rest (second_other byte second place two));
  spelling = two;
}
mark_fits line byte rest None (Some place) other two one = record {
  nonempty = omega arith;
  within = omega arith;
  one_line = no_newline_first byte rest other;
  spelling = one;
}
mark_fits line byte rest None None other two one = tt

comment_run : (byte : ℕ) (rest : List ℕ) → IsRun (λ b. not (b == 10)) (byte ∷ rest) (comment (byte ∷ rest)) → IsOnLine (byte ∷ rest) (length (comment (byte ∷ rest)))
comment_run byte rest is_run = record {
  nonempty = is_run.nonempty;
  within = is_run.within;
  one_line = ap newlines is_run.front ∙ no_newline_in_comment _ is_run.passes;
}

class_fits : (line : Line) (class : Class) (byte : ℕ) (rest : List ℕ) → class_of byte ≡ class → FitsPiece (byte ∷ rest) (piece_of class line byte rest)
unfolding FitsPiece piece_of
class_fits line Class.Blank byte rest kind = no_newline_first byte rest (blank_other byte kind)
class_fits line Class.Newline byte rest kind = newline_first byte rest (newline_is byte kind)
class_fits line Class.Comment byte rest kind = comment_run byte rest (run_front (λ b. not (b == 10)) byte rest (comment_goes_on byte kind))
class_fits line Letter byte rest kind =
    word_fits line byte rest _ _ (run_front is_name_byte byte rest (letter_goes_on byte kind)) (letter_passes byte kind) refl
class_fits line Digit byte rest kind = int_fits line byte rest _ (run_front is_ascii_digit byte rest (digit_passes byte kind))
class_fits line Class.Quote byte rest kind = string_fits line byte rest (quoted rest) (quote_is byte kind) refl
class_fits line Class.Other byte rest kind = mark_fits line byte rest _ _ (other_other byte kind) refl refl

piece_fits : (line : Line) (rest : List ℕ) → FitsPiece rest (first_piece line rest)
unfolding FitsPiece first_piece
piece_fits line [] = tt
piece_fits line (byte ∷ rest) = class_fits line (class_of byte) byte rest refl

pub blank_fits : (line : Line) (rest : List ℕ) → first_piece line rest ≡ Piece.Blank → newlines (take 1 rest) ≡ 0
unfolding FitsPiece
blank_fits line rest here = subst (FitsPiece rest) here (piece_fits line rest)

pub newline_fits : (line : Line) (rest : List ℕ) → first_piece line rest ≡ Piece.Newline → newlines (take 1 rest) ≡ 1
unfolding FitsPiece
newline_fits line rest here = subst (FitsPiece rest) here (piece_fits line rest)

pub comment_fits : (line : Line) (rest : List ℕ) (n : ℕ) → first_piece line rest ≡ Piece.Comment n → IsOnLine rest n
unfolding FitsPiece
comment_fits line rest n here = subst (FitsPiece rest) here (piece_fits line rest)

-- a piece that is a token is spelled as one
pub token_fits : (line : Line) (rest : List ℕ) (what : TokenKind) (n : ℕ) → first_piece line rest ≡ Piece.Token what n → Fits what rest n
unfolding FitsPiece
token_fits line rest what n here = subst (FitsPiece rest) here (piece_fits line rest)

-- What is spelled as a token, and not glued to more of it, is scanned as that token.
use Rattle.std.proofs.Common.{◌≡◌, ℕ, ◌+◌, ◌-◌, ◌==◌, Bool, true, false, not, cond, ◌&&◌, ◌||◌, List, [], ◌∷◌, ◌++◌, length, Option, Some, None, refl, ap, ◌∙◌, subst, arith, nat_le}
use Rattle.std.specs.Option.{is_none, unwrap_or}
use Rattle.std.specs.List.{list_all, list_any}
use Rattle.std.specs.Char.{is_ascii_digit, is_ascii_alphabetic}
use Rattle.std.proofs.lemmas.Bool.{le-leb}
use Rattle.std.proofs.lemmas.Bool.Decides.{nat_tests}
use Rattle.ps_layout.specs.ps_base.declared.line.Line.{Line}
use Rattle.ps_parse.specs.ps_scan.declared.class.Class.{Class}
use Rattle.ps_parse.specs.ps_scan.declared.class.Class.TheVariants.{Letter, Digit}
use Rattle.ps_parse.specs.ps_scan.declared.piece.Piece.{Piece}
use Rattle.ps_parse.specs.ps_scan.declared.token.TokenKind.{TokenKind}
use Rattle.ps_parse.specs.ps_scan.declared.token.TokenKind.TheVariants.{Name, Int, Text, Word, Mark}
use Rattle.ps_parse.specs.ps_scan.Class.{class_of, is_name_byte, decimal}
use Rattle.ps_parse.specs.ps_scan.Names.{reserved_words, marks, word_place, mark_place}
use Rattle.ps_parse.specs.ps_scan.Piece.{quoted, bytes_of, word_or_name, int, string, double_mark_here, single_mark, mark, piece_of, first_piece}
use Rattle.ps_parse.specs.ps_scan.Tokens.{IsName, IsInt, IsString, IsSpelled}
use Rattle.ps_parse.proofs.of_ps_scan.Named.{named_at, named_fails}
use Rattle.ps_reread.specs.Printable.{ends_before, first_passes, mark_name}
use Rattle.ps_reread.proofs.Glued.{both, not_false, all_passes, run_is, closes_too}

-- the classes of first bytes
letter_class : (byte : ℕ) → is_ascii_alphabetic byte ≡ true → class_of byte ≡ Letter
unfolding class_of
letter_class byte first = grind (arith, nat_tests)

digit_class : (byte : ℕ) → is_ascii_digit byte ≡ true → class_of byte ≡ Digit
unfolding class_of
digit_class byte first = grind (arith, nat_tests)

piece_is : (line : Line) (byte : ℕ) (rest : List ℕ) (class : Class) → class_of byte ≡ class → first_piece line (byte ∷ rest) ≡ piece_of class line byte rest
unfolding first_piece
piece_is line byte rest class kind = ap (λ c. piece_of c line byte rest) kind

if_true : (test : Bool) (one other : Piece) → test ≡ true → cond test one other ≡ one
if_true true one other yes_ = refl
if_true false one other yes_ = absurd (cc)

-- a word or a name, from the run that it is
run_here : (line : Line) (byte : ℕ) (more rest : List ℕ) → is_ascii_alphabetic byte ≡ true → list_all is_name_byte (byte ∷ more) ≡ true → first_passes (λ b. not (is_name_byte b)) rest ≡ true → first_piece line ((byte ∷ more) ++ rest) ≡ word_or_name line (byte ∷ more) (word_place (byte ∷ more))
unfolding piece_of
run_here line byte more rest first pass ends =
    piece_is line byte (more ++ rest) Letter (letter_class byte first) ∙ ap (λ run. word_or_name line run (word_place run)) (run_is is_name_byte (byte ∷ more) rest pass ends)

name_here : (line : Line) (spelling rest : List ℕ) → IsName spelling → first_passes (ends_before Name) rest ≡ true → first_piece line (spelling ++ rest) ≡ Piece.Token Name (length spelling)
unfolding word_or_name
name_here line [] rest is ends = absurd (omega (arith, is.size.0))
name_here line (byte ∷ more) rest is ends =
    run_here line byte more rest is.begins (all_passes is_name_byte (byte ∷ more) is.goes_on) ends
    ∙ ap (word_or_name line (byte ∷ more)) is.free
    ∙ if_true (nat_le (length (byte ∷ more)) 64) _ _ (le-leb (length (byte ∷ more)) 64 is.size.1)

-- each reserved word is a run that begins with a letter
is_run : List ℕ → Bool
is_run [] = false
is_run (byte ∷ more) = is_ascii_alphabetic byte && list_all is_name_byte (byte ∷ more)

words_are_runs : list_any (λ name. not (is_run name)) reserved_words ≡ false
unfolding is_run is_name_byte
words_are_runs = refl

word_is_run : (name : List ℕ) (place : ℕ) → word_place name ≡ Some place → is_run name ≡ true
word_is_run name place found = not_false (is_run name) (named_fails (λ n. not (is_run n)) reserved_words name place words_are_runs found)

pub word_begins : (byte : ℕ) (more : List ℕ) (place : ℕ) → word_place (byte ∷ more) ≡ Some place → is_ascii_alphabetic byte ≡ true
unfolding is_run
word_begins byte more place found = (both (is_ascii_alphabetic byte) (list_all is_name_byte (byte ∷ more)) (word_is_run (byte ∷ more) place found)).0

word_here : (line : Line) (spelling rest : List ℕ) (place : ℕ) → word_place spelling ≡ Some place → first_passes (ends_before (Word place)) rest ≡ true → first_piece line (spelling ++ rest) ≡ Piece.Token (Word place) (length spelling)
unfolding is_run word_or_name
word_here line [] rest place found ends = let bad = word_is_run [] place found in absurd (cc)
word_here line (byte ∷ more) rest place found ends =
    let parts = both (is_ascii_alphabetic byte) (list_all is_name_byte (byte ∷ more)) (word_is_run (byte ∷ more) place found) in
    run_here line byte more rest parts.0 parts.1 ends ∙ ap (word_or_name line (byte ∷ more)) found

int_here : (line : Line) (spelling rest : List ℕ) → IsInt spelling → first_passes (ends_before Int) rest ≡ true → first_piece line (spelling ++ rest) ≡ Piece.Token Int (length spelling)
unfolding piece_of int
int_here line [] rest is ends = absurd (omega (arith, is.size))
int_here line (byte ∷ more) rest is ends =
    let pass = all_passes is_ascii_digit (byte ∷ more) is.digits in
    piece_is line byte (more ++ rest) Digit (digit_class byte (both (is_ascii_digit byte) (list_all is_ascii_digit more) pass).0)
    ∙ ap (int line) (run_is is_ascii_digit (byte ∷ more) rest pass ends)
    ∙ if_true (nat_le (decimal (byte ∷ more)) 2147483647) _ _ (le-leb (decimal (byte ∷ more)) 2147483647 is.fits)

quote_class : (byte : ℕ) → Some byte ≡ Some 34 → class_of byte ≡ Class.Quote
unfolding class_of
quote_class byte first = let same : byte ≡ 34 = cc in rw same refl

string_here : (line : Line) (spelling rest : List ℕ) → IsString spelling → first_piece line (spelling ++ rest) ≡ Piece.Token Text (length spelling)
unfolding piece_of string
string_here line [] rest is = let bad = is.begins in absurd (cc)
string_here line (byte ∷ more) rest is =
    let bytes = bytes_of (quoted more) in
    let size : 1 + (length (byte ∷ more) - 1) ≡ length (byte ∷ more) = omega arith in
    piece_is line byte (more ++ rest) Class.Quote (quote_class byte is.begins)
    ∙ ap (string line) (closes_too more rest bytes (length (byte ∷ more) - 1) is.closes)
    ∙ if_true (nat_le (length bytes) 65535) _ _ (le-leb (length bytes) 65535 is.fits)
    ∙ ap (Piece.Token Text) size

-- each mark is one or two bytes, of which the first begins nothing else
is_other : Class → Bool
is_other Class.Blank = false
is_other Class.Newline = false
is_other Class.Comment = false
is_other Letter = false
is_other Digit = false
is_other Class.Quote = false
is_other Class.Other = true

other_class : (class : Class) → is_other class ≡ true → class ≡ Class.Other
unfolding is_other
other_class Class.Blank e = absurd (cc)
other_class Class.Newline e = absurd (cc)
other_class Class.Comment e = absurd (cc)
other_class Letter e = absurd (cc)
other_class Digit e = absurd (cc)
other_class Class.Quote e = absurd (cc)
other_class Class.Other e = refl

is_short_mark : List ℕ → Bool
is_short_mark [] = false
is_short_mark (byte ∷ []) = is_other (class_of byte)
is_short_mark (first ∷ second ∷ []) = is_other (class_of first)
is_short_mark (first ∷ second ∷ third ∷ more) = false

marks_are_short : list_any (λ name. not (is_short_mark name)) marks ≡ false
unfolding is_short_mark is_other class_of
marks_are_short = refl

mark_is_short : (name : List ℕ) (place : ℕ) → mark_place name ≡ Some place → is_short_mark name ≡ true
mark_is_short name place found = not_false (is_short_mark name) (named_fails (λ n. not (is_short_mark n)) marks name place marks_are_short found)

pub mark_name_is : (name : List ℕ) (place : ℕ) → mark_place name ≡ Some place → mark_name place ≡ name
mark_name_is name place found = ap (λ n. unwrap_or n []) (named_at marks name place found)

is_none_true : (place : Option ℕ) → is_none place ≡ true → place ≡ None
is_none_true None e = refl
is_none_true (Some place) e = absurd (cc)

single_here : (byte : ℕ) (rest : List ℕ) (place : ℕ) → mark_place (byte ∷ []) ≡ Some place → first_passes (ends_before (Mark place)) rest ≡ true → double_mark_here byte rest ≡ None
single_here byte [] place found ends = refl
single_here byte (next ∷ rest) place found ends =
    is_none_true (mark_place (byte ∷ next ∷ [])) (subst (λ name. is_none (mark_place (name ++ next ∷ [])) ≡ true) (mark_name_is (byte ∷ []) place found) ends)

mark_here : (line : Line) (spelling rest : List ℕ) (place : ℕ) → mark_place spelling ≡ Some place → first_passes (ends_before (Mark place)) rest ≡ true → first_piece line (spelling ++ rest) ≡ Piece.Token (Mark place) (length spelling)
unfolding is_short_mark piece_of mark
mark_here line [] rest place found ends = let bad = mark_is_short [] place found in absurd (cc)
mark_here line (byte ∷ []) rest place found ends =
    piece_is line byte rest Class.Other (other_class (class_of byte) (mark_is_short (byte ∷ []) place found))
    ∙ ap (λ double. mark line byte double (single_mark byte)) (single_here byte rest place found ends)
    ∙ ap (mark line byte None) found
mark_here line (first ∷ second ∷ []) rest place found ends =
    piece_is line first (second ∷ rest) Class.Other (other_class (class_of first) (mark_is_short (first ∷ second ∷ []) place found))
    ∙ ap (λ double. mark line first double (single_mark first)) found
mark_here line (first ∷ second ∷ third ∷ more) rest place found ends =
    let bad = mark_is_short (first ∷ second ∷ third ∷ more) place found in absurd (cc)

pub token_here : (line : Line) (what : TokenKind) (spelling rest : List ℕ) → IsSpelled what spelling → first_passes (ends_before what) rest ≡ true → first_piece line (spelling ++ rest) ≡ Piece.Token what (length spelling)
token_here line Name spelling rest is ends = name_here line spelling rest is ends
token_here line Int spelling rest is ends = int_here line spelling rest is ends
token_here line Text spelling rest is ends = string_here line spelling rest is
token_here line (Word place) spelling rest is ends = word_here line spelling rest place is ends
token_here line (Mark place) spelling rest is ends = mark_here line spelling rest place is ends

-- what is spelled as a token isn't empty
pub spelled_nonempty : (what : TokenKind) → IsSpelled what [] → ⊥
unfolding is_run is_short_mark
spelled_nonempty Name is = omega (arith, is.size.0)
spelled_nonempty Int is = omega (arith, is.size)
spelled_nonempty Text is = let bad = is.begins in cc
spelled_nonempty (Word place) is = let bad = word_is_run [] place is in cc
spelled_nonempty (Mark place) is = let bad = mark_is_short [] place is in cc

-- a blank and a newline leave each token as it is
any_last : (test : ℕ → Bool) (xs : List ℕ) (x : ℕ) → test x ≡ true → list_any test (xs ++ x ∷ []) ≡ true
any_last test [] x yes_ = rw yes_ refl
any_last test (y ∷ ys) x yes_ = elim (test y) as (λ b. (b || list_any test (ys ++ x ∷ [])) ≡ true) [ true ↦ refl | false ↦ any_last test ys x yes_ ]

no_mark_ends : (byte : ℕ) (name : List ℕ) (place : Option ℕ) → list_any (list_any (λ b. b == byte)) marks ≡ false → (byte == byte) ≡ true → mark_place (name ++ byte ∷ []) ≡ place → is_none place ≡ true
no_mark_ends byte name None none same found = refl
no_mark_ends byte name (Some place) none same found =
    let has = any_last (λ b. b == byte) name byte same in
    let hasnt = named_fails (list_any (λ b. b == byte)) marks (name ++ byte ∷ []) place none found in
    absurd (cc)

pub ends_before_blank : (what : TokenKind) → ends_before what 32 ≡ true
unfolding is_name_byte
ends_before_blank Name = refl
ends_before_blank Int = refl
ends_before_blank Text = refl
ends_before_blank (Word place) = refl
ends_before_blank (Mark place) = no_mark_ends 32 (mark_name place) _ refl refl refl

pub ends_before_newline : (what : TokenKind) → ends_before what 10 ≡ true
unfolding is_name_byte
ends_before_newline Name = refl
ends_before_newline Int = refl
ends_before_newline Text = refl
ends_before_newline (Word place) = refl
ends_before_newline (Mark place) = no_mark_ends 10 (mark_name place) _ refl refl refl

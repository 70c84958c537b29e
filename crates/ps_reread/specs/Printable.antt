-- Which lexemes are printed as a text that has their tokens again.
use Rattle.std.specs.Prelude.{◌≡◌, ℕ, ◌+◌, Bool, true, false, not, ◌&&◌, IsTrue, List, [], ◌∷◌, ◌++◌, length, slice_get}
use Rattle.std.specs.Option.{is_none, unwrap_or}
use Rattle.std.specs.List.{AllByRecursion, sum_by}
use Rattle.std.specs.Char.{is_ascii_digit}
use Rattle.ps_parse.specs.ps_scan.declared.token.Token.{Token}
use Rattle.ps_parse.specs.ps_scan.declared.token.TokenKind.{TokenKind}
use Rattle.ps_parse.specs.ps_scan.declared.token.TokenKind.TheVariants.{Name, Int, Text, Word, Mark}
use Rattle.ps_parse.specs.ps_scan.Class.{is_name_byte}
use Rattle.ps_parse.specs.ps_scan.Names.{marks, mark_place}
use Rattle.ps_parse.specs.ps_scan.Tokens.{token_at, slice_of, IsSpelled}
use Rattle.ps_layout.specs.Lexemes.{Gap, nothing, blank, newline, Lexeme, gap_bytes, text_of}

-- how many newlines a gap has
abbrev pub gap_lines : Gap → ℕ
gap_lines nothing = 0
gap_lines blank = 0
gap_lines (newline indent) = 1

-- the tokens that lexemes are meant to be, where the first gap begins at this place, on this line
unfoldable pub tokens_of : ℕ → ℕ → List Lexeme → List Token
tokens_of at line [] = []
tokens_of at line (lexeme ∷ lexemes) =
    let from = at + length (gap_bytes lexeme.gap) in
    let here = line + gap_lines lexeme.gap in
    token_at lexeme.what here from (length lexeme.spelling) ∷ tokens_of (from + length lexeme.spelling) here lexemes

-- a test of what comes first, if anything does
abbrev pub first_passes : {A : Type 0} → (A → Bool) → List A → Bool
first_passes test [] = true
first_passes test (x ∷ xs) = test x

-- the bytes of the mark of this place
abbrev pub mark_name : ℕ → List ℕ
mark_name place = unwrap_or (slice_get marks place) []

-- a token of this kind stays as it is where this byte stands right after it
abbrev pub ends_before : TokenKind → ℕ → Bool
ends_before Name byte = not (is_name_byte byte)
ends_before Int byte = not (is_ascii_digit byte)
ends_before Text byte = true
ends_before (Word place) byte = not (is_name_byte byte)
ends_before (Mark place) byte = is_none (mark_place (mark_name place ++ byte ∷ []))

abbrev pub is_mark : TokenKind → Bool
is_mark Name = false
is_mark Int = false
is_mark Text = false
is_mark (Word place) = false
is_mark (Mark place) = true

-- a lexeme may stand after another: there is a gap, or its first byte leaves the other as it is
abbrev pub may_follow_glued : Gap → TokenKind → List ℕ → Bool
may_follow_glued nothing what spelling = first_passes (ends_before what) spelling
may_follow_glued blank what spelling = true
may_follow_glued (newline indent) what spelling = true

abbrev pub may_follow : Lexeme → Lexeme → Bool
may_follow first second = may_follow_glued second.gap first.what second.spelling

-- a test of each two neighbours
unfoldable pub neighbours_pass : {A : Type 0} → (A → A → Bool) → List A → Bool
neighbours_pass test [] = true
neighbours_pass test (x ∷ xs) = first_passes (test x) xs && neighbours_pass test xs

-- a test of what comes last, if anything does
unfoldable pub last_passes : {A : Type 0} → (A → Bool) → List A → Bool
last_passes test [] = true
last_passes test (x ∷ []) = test x
last_passes test (x ∷ y ∷ xs) = last_passes test (y ∷ xs)

-- each lexeme is spelled as its kind is, and none changes the one before it
pub record IsPrintable (lexemes : List Lexeme) : Type 0 where
  pub spelled : AllByRecursion (λ lexeme. IsSpelled lexeme.what lexeme.spelling) lexemes
  pub apart : IsTrue (neighbours_pass may_follow lexemes)

-- each token is spelled by its lexeme, and is of its kind
abbrev pub AreSpelledBy : List ℕ → List Token → List Lexeme → Type 0
AreSpelledBy text [] [] = Unit {0}
AreSpelledBy text [] (lexeme ∷ lexemes) = ⊥
AreSpelledBy text (token ∷ tokens) [] = ⊥
AreSpelledBy text (token ∷ tokens) (lexeme ∷ lexemes) =
    (slice_of text token ≡ lexeme.spelling) × (token.what ≡ lexeme.what) × AreSpelledBy text tokens lexemes

-- how many newlines stand before lexemes and between them
abbrev pub lines_of : List Lexeme → ℕ
lines_of lexemes = sum_by (λ lexeme. gap_lines lexeme.gap) lexemes

-- the token of a lexeme of a printed text that stands after these
abbrev pub token_behind : List Lexeme → Lexeme → Token
token_behind front lexeme =
    token_at lexeme.what (1 + lines_of front + gap_lines lexeme.gap) (length (text_of front) + length (gap_bytes lexeme.gap)) (length lexeme.spelling)

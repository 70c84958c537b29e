-- A text as it is printed: lexemes, each after a gap.
use Rattle.std.specs.Prelude.{ℕ, List, [], ◌∷◌, ◌++◌, replicate}
use Rattle.ps_tree.specs.ps_scan.declared.token.TokenKind.{TokenKind}

-- what stands before a lexeme: nothing, one blank, or a newline and so many blanks
pub data Gap : Type 0 where
  nothing : Gap
  blank : Gap
  newline : (indent : ℕ) → Gap

pub record Lexeme : Type 0 where
  pub gap : Gap
  pub what : TokenKind
  pub spelling : List ℕ

-- the bytes of a gap
abbrev pub gap_bytes : Gap → List ℕ
gap_bytes nothing = []
gap_bytes blank = 32 ∷ []
gap_bytes (newline indent) = 10 ∷ replicate indent 32

-- the bytes of lexemes
unfoldable pub text_of : List Lexeme → List ℕ
text_of [] = []
text_of (lexeme ∷ lexemes) = gap_bytes lexeme.gap ++ (lexeme.spelling ++ text_of lexemes)

-- a whole printed text: its last byte is a newline, if it has one
abbrev pub printed : List Lexeme → List ℕ
printed [] = []
printed (lexeme ∷ lexemes) = text_of (lexeme ∷ lexemes) ++ 10 ∷ []

-- The definitions on a small text.
use Rattle.std.proofs.Common.{◌≡◌, ℕ, true, false, List, [], ◌∷◌, ◌++◌, refl, codes}
use Rattle.ps_parse.specs.ps_scan.declared.mark.TheConstants.{COLON, BECOMES, EQUALS, SEMICOLON, MINUS, GREATER, OPEN_ROUND}
use Rattle.ps_parse.specs.ps_scan.declared.word.TheConstants.{LET, WRITE}
use Rattle.ps_parse.specs.ps_scan.declared.token.TokenKind.{TokenKind}
use Rattle.ps_parse.specs.ps_scan.declared.token.TokenKind.TheVariants.{Name, Int, Text, Word, Mark}
use Rattle.ps_parse.specs.ps_scan.Class.{is_name_byte}
use Rattle.ps_parse.specs.ps_scan.Tokens.{token_at}
use Rattle.ps_layout.specs.Lexemes.{Gap, nothing, blank, newline, Lexeme, text_of, printed}
use Rattle.ps_reread.specs.Printable.{tokens_of, neighbours_pass, may_follow}
use Rattle.ps_reread.specs.Lines.{goes_on}
use Rattle.ps_layout.specs.Spellings.{string_text}

abbrev lexeme : Gap → TokenKind → List ℕ → Lexeme
lexeme gap what spelling = record { gap = gap; what = what; spelling = spelling }

-- `let a := -1;`, and on the next line `  write "x'n"`
abbrev two_lines : List Lexeme
two_lines =
    lexeme nothing (Word LET) (codes "let") ∷ lexeme blank Name (codes "a") ∷ lexeme blank (Mark BECOMES) (codes ":=") ∷ lexeme blank (Mark MINUS) (codes "-")
    ∷ lexeme nothing Int (codes "1") ∷ lexeme nothing (Mark SEMICOLON) (codes ";") ∷ lexeme (newline 2) (Word WRITE) (codes "write") ∷ lexeme blank Text (string_text (120 ∷ 10 ∷ [])) ∷ []

their_text : printed two_lines ≡ codes "let a := -1;" ++ (10 ∷ (codes "  write " ++ (34 ∷ 120 ∷ 39 ∷ 110 ∷ 34 ∷ 10 ∷ [])))
unfolding text_of
their_text = refl

their_tokens : tokens_of 0 1 two_lines ≡ token_at (Word LET) 1 0 3 ∷ token_at Name 1 4 1 ∷ token_at (Mark BECOMES) 1 6 2 ∷ token_at (Mark MINUS) 1 9 1 ∷ token_at Int 1 10 1 ∷ token_at (Mark SEMICOLON) 1 11 1 ∷ token_at (Word WRITE) 2 15 5 ∷ token_at Text 2 21 5 ∷ []
unfolding tokens_of
their_tokens = refl

they_stand_apart : neighbours_pass may_follow two_lines ≡ true
unfolding neighbours_pass is_name_byte
they_stand_apart = refl

they_go_on : neighbours_pass goes_on two_lines ≡ true
unfolding neighbours_pass
they_go_on = refl

-- glued, these would be other tokens
two_names : neighbours_pass may_follow (lexeme nothing Name (codes "a") ∷ lexeme nothing Name (codes "b") ∷ []) ≡ false
unfolding neighbours_pass is_name_byte
two_names = refl

colon_equals : neighbours_pass may_follow (lexeme nothing (Mark COLON) (codes ":") ∷ lexeme nothing (Mark EQUALS) (codes "=") ∷ []) ≡ false
unfolding neighbours_pass
colon_equals = refl

minus_greater : neighbours_pass may_follow (lexeme nothing (Mark MINUS) (codes "-") ∷ lexeme nothing (Mark GREATER) (codes ">") ∷ []) ≡ false
unfolding neighbours_pass
minus_greater = refl

-- an int and a name, and a name and a mark, may be glued
int_name : neighbours_pass may_follow (lexeme nothing Int (codes "1") ∷ lexeme nothing Name (codes "a") ∷ lexeme nothing (Mark OPEN_ROUND) (codes "(") ∷ []) ≡ true
unfolding neighbours_pass is_name_byte
int_name = refl

-- at this newline a `;` would be read
broken : neighbours_pass goes_on (lexeme nothing Name (codes "a") ∷ lexeme (newline 0) Name (codes "b") ∷ []) ≡ false
unfolding neighbours_pass
broken = refl

-- Where no newline breaks a clause, the tokens of a printed text are read one for one.
use Rattle.std.proofs.Common.{◌≡◌, ℕ, zero, suc, ◌+◌, Bool, true, false, not, ◌&&◌, IsTrue, List, [], ◌∷◌, ◌++◌, length, Some, refl, ap, ◌∙◌, arith, slice_get}
use Rattle.std.specs.Prelude.{nat_lt, if◌then◌else◌}
use Rattle.std.proofs.lemmas.Bool.Decides.{nat_tests}
use Rattle.ps_parse.specs.ps_scan.declared.token.Token.{Token}
use Rattle.ps_parse.specs.ps_scan.declared.token.TokenKind.{TokenKind}
use Rattle.ps_parse.specs.ps_scan.Tokens.{token_at}
use Rattle.ps_layout.specs.ps_symbols.Kinds.{kind_of}
use Rattle.ps_layout.specs.ps_symbols.Newline.{can_end, can_continue}
use Rattle.ps_layout.specs.ps_symbols.declared.symbol.Symbol.{Symbol}
use Rattle.ps_layout.specs.ps_symbols.Symbols.{breaks, semicolon_behind, symbol, symbols_behind, symbols}
use Rattle.ps_layout.specs.Lexemes.{Gap, nothing, blank, newline, Lexeme, gap_bytes}
use Rattle.ps_reread.specs.Printable.{gap_lines, tokens_of, first_passes, neighbours_pass, token_behind}
use Rattle.ps_reread.specs.Lines.{goes_on_over, goes_on, one_for_one}
use Rattle.ps_reread.proofs.Glued.{both}
use Rattle.ps_reread.proofs.Parts.{tokens_count, get_token_between}

same_line : (here line : ℕ) → here ≡ line → nat_lt here (line + 0) ≡ false
same_line here line same = grind (arith, nat_tests)

not_break : (ends more : Bool) → not (ends && not more) ≡ true → (ends && not more) ≡ false
not_break true true ok = refl
not_break true false ok = absurd (cc)
not_break false more ok = refl

-- no break where the tokens go on over the gap
unbroken : (gap : Gap) (first : TokenKind) (second : TokenKind) (here line : ℕ) → here ≡ line → goes_on_over gap first second ≡ true → (nat_lt here (line + gap_lines gap) && can_end (kind_of first) && not (can_continue (kind_of second))) ≡ false
unbroken nothing first second here line same ok = ap (λ t. t && can_end (kind_of first) && not (can_continue (kind_of second))) (same_line here line same)
unbroken blank first second here line same ok = ap (λ t. t && can_end (kind_of first) && not (can_continue (kind_of second))) (same_line here line same)
unbroken (newline indent) first second here line same ok = either (nat_lt here (line + 1)) (can_end (kind_of first)) (can_continue (kind_of second)) ok
  where
    either : (less ends more : Bool) → not (ends && not more) ≡ true → (less && ends && not more) ≡ false
    either true ends more fine = not_break ends more fine
    either false ends more fine = refl

none_between : (test : Bool) (some : List Symbol) → test ≡ false → (if test then some else []) ≡ []
none_between true some no_ = absurd (cc)
none_between false some no_ = refl

next_passes : (lexeme : Lexeme) (lexemes : List Lexeme) → neighbours_pass goes_on (lexeme ∷ lexemes) ≡ true → (first_passes (goes_on lexeme) lexemes ≡ true) × (neighbours_pass goes_on lexemes ≡ true)
unfolding neighbours_pass
next_passes lexeme lexemes pass = both (first_passes (goes_on lexeme) lexemes) (neighbours_pass goes_on lexemes) pass

read_behind : (last : Token) (at line number : ℕ) (lexemes : List Lexeme) → last.line.0 ≡ line → first_passes (λ next. goes_on_over next.gap last.what next.what) lexemes ≡ true → neighbours_pass goes_on lexemes ≡ true → symbols_behind (Some last) number (tokens_of at line lexemes) ≡ one_for_one number (tokens_of at line lexemes)
unfolding tokens_of symbols_behind
read_behind last at line number [] on_line first rest = refl
read_behind last at line number (lexeme ∷ lexemes) on_line first rest =
    let from = at + length (gap_bytes lexeme.gap) in
    let here = line + gap_lines lexeme.gap in
    let token : Token = token_at lexeme.what here from (length lexeme.spelling) in
    let parts = next_passes lexeme lexemes rest in
    let more = read_behind token (from + length lexeme.spelling) here (number + 1) lexemes refl parts.0 parts.1 in
    let none = none_between (breaks last token) (symbol number (semicolon_behind last) ∷ []) (unbroken lexeme.gap last.what lexeme.what last.line.0 line on_line first) in
    ap (λ s. s ++ symbol number token ∷ symbols_behind (Some token) (number + 1) (tokens_of (from + length lexeme.spelling) here lexemes)) none
    ∙ ap (λ s. symbol number token ∷ s) more

pub read_one_for_one : (lexemes : List Lexeme) → IsTrue (neighbours_pass goes_on lexemes) → symbols (tokens_of 0 1 lexemes) ≡ one_for_one 0 (tokens_of 0 1 lexemes)
unfolding tokens_of symbols_behind
read_one_for_one [] goes = refl
read_one_for_one (lexeme ∷ lexemes) goes =
    let from = 0 + length (gap_bytes lexeme.gap) in
    let here = 1 + gap_lines lexeme.gap in
    let token : Token = token_at lexeme.what here from (length lexeme.spelling) in
    let parts = next_passes lexeme lexemes goes in
    ap (λ s. symbol 0 token ∷ s) (read_behind token (from + length lexeme.spelling) here 1 lexemes refl parts.0 parts.1)

-- so the symbol of each lexeme stands at its number
read_get : (number : ℕ) (tokens : List Token) (k : ℕ) (token : Token) → slice_get tokens k ≡ Some token → slice_get (one_for_one number tokens) k ≡ Some (symbol (number + k) token)
read_get number [] k token at = absurd (cc)
read_get number (first ∷ tokens) zero token at =
    let same : first ≡ token = cc in
    let here : number ≡ number + 0 = omega arith in
    ap (λ t. Some (symbol number t)) same ∙ ap (λ n. Some (symbol n token)) here
read_get number (first ∷ tokens) (suc k) token at =
    let there : number + 1 + k ≡ number + suc k = omega arith in
    read_get (number + 1) tokens k token at ∙ ap (λ n. Some (symbol n token)) there

read_count : (number : ℕ) (tokens : List Token) → length (one_for_one number tokens) ≡ length tokens
read_count number [] = refl
read_count number (token ∷ tokens) = ap suc (read_count (number + 1) tokens)

pub symbol_between : (front : List Lexeme) (lexeme : Lexeme) (back : List Lexeme) → IsTrue (neighbours_pass goes_on (front ++ lexeme ∷ back)) → slice_get (symbols (tokens_of 0 1 (front ++ lexeme ∷ back))) (length front) ≡ Some (symbol (length front) (token_behind front lexeme))
symbol_between front lexeme back goes =
    let here : 0 + length front ≡ length front = omega arith in
    ap (λ s. slice_get s (length front)) (read_one_for_one (front ++ lexeme ∷ back) goes)
    ∙ read_get 0 (tokens_of 0 1 (front ++ lexeme ∷ back)) (length front) (token_behind front lexeme) (get_token_between front lexeme back)
    ∙ ap (λ n. Some (symbol n (token_behind front lexeme))) here

pub symbols_count : (lexemes : List Lexeme) → IsTrue (neighbours_pass goes_on lexemes) → length (symbols (tokens_of 0 1 lexemes)) ≡ length lexemes
symbols_count lexemes goes =
    ap length (read_one_for_one lexemes goes) ∙ read_count 0 (tokens_of 0 1 lexemes) ∙ tokens_count 0 1 lexemes

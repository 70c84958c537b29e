-- The names, the ints and the strings among the symbols of a text are such as a tree may have.
use Rattle.std.proofs.Common.{◌≡◌, ℕ, ◌≤◌, pos, List, [], ◌∷◌, length, true, false, Some, None, slice_get, subst, arith}
use Rattle.std.specs.List.{AllPass}
use Rattle.std.proofs.lemmas.Bool.Decides.{nat_tests}
use Rattle.std.proofs.lemmas.List.Elements.{All-head, All-tail, All-get_or}
use Rattle.std.proofs.lemmas.Option.{slice_get_within, get_or_from_slice_get}
use Rattle.ps_parse.specs.ps_scan.declared.token.Token.{Token}
use Rattle.ps_parse.specs.ps_scan.declared.token.TokenKind.{TokenKind}
use Rattle.ps_parse.specs.ps_scan.declared.token.TokenKind.TheVariants as scanned
use Rattle.ps_parse.specs.ps_scan.Class as scan
use Rattle.ps_parse.specs.ps_scan.Tokens.{HasTokens, IsSpelled, slice_of, int_value, spelled}
use Rattle.ps_parse.proofs.of_ps_scan.Scanning.{all_tokens}
use Rattle.ps_parse.specs.ps_symbols.declared.kind.Kind.{Kind}
use Rattle.ps_parse.specs.ps_symbols.declared.kind.Kind.TheVariants as kind
use Rattle.ps_parse.specs.ps_symbols.declared.symbol.Symbol.{Symbol}
use Rattle.ps_parse.specs.ps_symbols.Kinds.{kind_of}
use Rattle.ps_parse.specs.ps_symbols.Symbols.{symbols}
use Rattle.ps_parse.proofs.of_ps_symbols.SymbolLemmas.{leaf, not_word, not_mark, all_symbols}
use Rattle.ps_soundness.specs.ps_type_text.Texts.{IsName, is_name_byte}
use Rattle.ps_soundness.specs.ps_heap.Operators.{is_int}
use Rattle.ps_soundness.specs.ps_heap.Texts.{is_string}

-- what is so of the bytes of a token of this kind
abbrev pub FitsAs : List ℕ → Kind → Token → Type 0
FitsAs text kind.Name token = IsName (slice_of text token)
FitsAs text kind.Int token = is_int (pos (int_value text token)) ≡ true
FitsAs text kind.Text token = is_string (spelled text token) ≡ true
FitsAs text other token = Unit {0}

-- each symbol fits as its kind asks
abbrev pub AllFit : List ℕ → List Symbol → Type 0
AllFit text symbols = (place : ℕ) (symbol : Symbol) → slice_get symbols place ≡ Some symbol → FitsAs text symbol.kind symbol.token

same_byte : (byte : ℕ) → scan.is_name_byte byte ≡ true → is_name_byte byte ≡ true
unfolding scan.is_name_byte is_name_byte
same_byte byte is = is

name_fits : (bytes : List ℕ) → AllPass scan.is_name_byte bytes → IsName bytes
name_fits [] all = tt
name_fits (byte ∷ bytes) all =
    let Is = λ (b : ℕ). scan.is_name_byte b ≡ true in
    (same_byte byte (All-head Is byte bytes all), name_fits bytes (All-tail Is byte bytes all))

int_fits : (value : ℕ) → value ≤ 2147483647 → is_int (pos value) ≡ true
int_fits value le = grind (arith, nat_tests)

string_fits : (bytes : List ℕ) → length bytes ≤ 65535 → is_string bytes ≡ true
string_fits bytes le = grind (arith, nat_tests)

-- what is no leaf may have any bytes
other_fits : (text : List ℕ) (token : Token) (k : Kind) → leaf k ≡ false → FitsAs text k token
other_fits text token kind.Name no_leaf = absurd (cc)
other_fits text token kind.Int no_leaf = absurd (cc)
other_fits text token kind.Text no_leaf = absurd (cc)
other_fits text token other no_leaf = tt

spelled_fits : (text : List ℕ) (token : Token) (what : TokenKind) → IsSpelled what (slice_of text token) → FitsAs text (kind_of what) token
spelled_fits text token scanned.Name spelling = name_fits (slice_of text token) spelling.goes_on
spelled_fits text token scanned.Int spelling = int_fits (int_value text token) spelling.fits
spelled_fits text token scanned.Text spelling = string_fits (spelled text token) spelling.fits
spelled_fits text token (scanned.Word place) spelling = other_fits text token (kind_of (scanned.Word place)) (not_word place)
spelled_fits text token (scanned.Mark place) spelling = other_fits text token (kind_of (scanned.Mark place)) (not_mark place)

pub symbols_fit : {text : List ℕ} {tokens : List Token} → HasTokens text tokens → AllFit text (symbols tokens)
symbols_fit {text} {tokens} scans = λ place symbol here.
    let Is = λ (s : Symbol). FitsAs text s.kind s.token in
    subst Is (get_or_from_slice_get (symbols tokens) place symbol symbol here)
    (All-get_or Is (symbols tokens) place symbol (slice_get_within (symbols tokens) place symbol here)
    (all_symbols text Is (λ number token is. spelled_fits text token token.what is.spelling) (λ number token. tt) None 0 tokens (all_tokens scans)))

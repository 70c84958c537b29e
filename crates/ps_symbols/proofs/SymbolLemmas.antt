-- What the symbols of a text are, from what its tokens are.
use Rattle.std.proofs.Common.{◌≡◌, ℕ, zero, suc, ◌+◌, ◌≤◌, List, [], ◌∷◌, length, Bool, true, false, cond, Option, Some, None, slice_get, unwrap_or, refl, sym, ap, ◌∙◌, arith}
use Rattle.std.specs.List.{All}
use Rattle.std.proofs.lemmas.List.Elements.{All-nil, All-cons, All-head, All-tail, All-append}
use Rattle.ps_scan.specs.declared.token.Token.{Token}
use Rattle.ps_scan.specs.declared.token.TokenKind.{TokenKind}
use Rattle.ps_scan.specs.declared.token.TokenKind.TheVariants as scanned
use Rattle.ps_scan.specs.Tokens.{IsToken, IsInOrder}
use Rattle.ps_symbols.specs.declared.kind.Kind.{Kind}
use Rattle.ps_symbols.specs.declared.kind.Kind.TheVariants as kind
use Rattle.ps_symbols.specs.declared.kind.TheConstants.{WORDS, MARKS}
use Rattle.ps_symbols.specs.declared.symbol.Symbol.{Symbol}
use Rattle.ps_symbols.specs.Kinds.{kind_of}
use Rattle.ps_symbols.specs.Symbols.{breaks, semicolon_behind, symbol, between, symbols_behind}
use Rattle.ps_symbols.specs.inside.Soundness.{IsSound}

-- there are no more tokens than bytes
pub tokens_fit : (text : List ℕ) (at : ℕ) (tokens : List Token) → All (IsToken text) tokens → IsInOrder at tokens → at ≤ length text → at + length tokens ≤ length text
tokens_fit text at [] all in_order within = omega arith
tokens_fit text at (token ∷ tokens) all in_order within =
    let head = All-head (IsToken text) token tokens all in
    omega (arith, head.nonempty, head.within, in_order.0, tokens_fit text token.to tokens (All-tail (IsToken text) token tokens all) in_order.1 head.within)

-- no word and no mark is a name, an int or a string
abbrev pub leaf : Kind → Bool
leaf kind.Name = true
leaf kind.Int = true
leaf kind.Text = true
leaf _ = false

abbrev leafless : List Kind → Bool
leafless [] = true
leafless (first ∷ kinds) = cond (leaf first) false (leafless kinds)

both : (here rest : Bool) → cond here false rest ≡ true → (here ≡ false) × (rest ≡ true)
both true rest is = absurd (cc)
both false rest is = (refl, is)

not_in : (kinds : List Kind) (place : ℕ) → leafless kinds ≡ true → leaf (unwrap_or (slice_get kinds place) kind.Stray) ≡ false
not_in [] place none = refl
not_in (first ∷ kinds) zero none = (both (leaf first) (leafless kinds) none).0
not_in (first ∷ kinds) (suc place) none = not_in kinds place (both (leaf first) (leafless kinds) none).1

pub not_word : (place : ℕ) → leaf (kind_of (scanned.Word place)) ≡ false
not_word place = not_in WORDS place refl

pub not_mark : (place : ℕ) → leaf (kind_of (scanned.Mark place)) ≡ false
not_mark place = not_in MARKS place refl

is_int : (what : TokenKind) → kind_of what ≡ kind.Int → what ≡ scanned.Int
is_int scanned.Name is = absurd (cc)
is_int scanned.Int is = refl
is_int scanned.Text is = absurd (cc)
is_int (scanned.Word place) is = let l = sym (not_word place) ∙ ap leaf is in absurd (cc)
is_int (scanned.Mark place) is = let l = sym (not_mark place) ∙ ap leaf is in absurd (cc)

is_text : (what : TokenKind) → kind_of what ≡ kind.Text → what ≡ scanned.Text
is_text scanned.Name is = absurd (cc)
is_text scanned.Int is = absurd (cc)
is_text scanned.Text is = refl
is_text (scanned.Word place) is = let l = sym (not_word place) ∙ ap leaf is in absurd (cc)
is_text (scanned.Mark place) is = let l = sym (not_mark place) ∙ ap leaf is in absurd (cc)

sound_token : (text : List ℕ) (number : ℕ) (token : Token) → IsToken text token → IsSound text (symbol number token)
sound_token text number token is = record { name = λ _. is; int = λ kind. (is, is_int token.what kind); string = λ kind. (is, is_text token.what kind) }

sound_semicolon : (text : List ℕ) (number : ℕ) (token : Token) → IsSound text (symbol number (semicolon_behind token))
sound_semicolon text number token = record { name = λ kind. absurd (cc); int = λ kind. absurd (cc); string = λ kind. absurd (cc) }

-- what each token of a text is as a symbol, and each `;` that a newline stands for, all symbols are
module _ (text : List ℕ) (Is : Symbol → Type 0) (is_token : (number : ℕ) (token : Token) → IsToken text token → Is (symbol number token)) (is_semicolon : (number : ℕ) (token : Token) → Is (symbol number (semicolon_behind token))) where
  all_between : (last : Option Token) (number : ℕ) (token : Token) → All Is (between last number token)
  all_between None number token = All-nil Is
  all_between (Some last) number token = elim (breaks last token) as (λ here. All Is (cond here (symbol number (semicolon_behind last) ∷ []) [])) [ true ↦ All-cons Is (symbol number (semicolon_behind last)) [] (is_semicolon number last) (All-nil Is) | false ↦ All-nil Is ]

  pub all_symbols : (last : Option Token) (number : ℕ) (tokens : List Token) → All (IsToken text) tokens → All Is (symbols_behind last number tokens)
  unfolding symbols_behind
  all_symbols last number [] all = All-nil Is
  all_symbols last number (token ∷ tokens) all =
      All-append Is (between last number token) (symbol number token ∷ symbols_behind (Some token) (number + 1) tokens) (all_between last number token)
      (All-cons Is (symbol number token) (symbols_behind (Some token) (number + 1) tokens) (is_token number token (All-head (IsToken text) token tokens all)) (all_symbols (Some token) (number + 1) tokens (All-tail (IsToken text) token tokens all)))

-- each name, int and string among the symbols is a token
pub all_sound : (text : List ℕ) (last : Option Token) (number : ℕ) (tokens : List Token) → All (IsToken text) tokens → All (IsSound text) (symbols_behind last number tokens)
all_sound text last number tokens all = all_symbols text (IsSound text) (sound_token text) (sound_semicolon text) last number tokens all

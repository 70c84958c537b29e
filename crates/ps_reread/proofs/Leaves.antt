-- The names, the ints and the strings among the symbols of a text are spelled so that they can be
-- printed.
use Rattle.std.proofs.Common.{◌≡◌, ℕ, ◌≤◌, List, [], ◌∷◌, length, true, false, Option, Some, None, slice_get, refl, sym, ap, ◌∙◌, subst, arith}
use Rattle.std.specs.List.{AllPass}
use Rattle.std.proofs.lemmas.Bool.Decides.{nat_tests}
use Rattle.std.proofs.lemmas.List.Elements.{All-nil, All-cons, All-get_or}
use Rattle.std.proofs.lemmas.Option.{slice_get_within, get_or_from_slice_get}
use Rattle.ps_parse.specs.ps_scan.declared.class.Inner.{Inner}
use Rattle.ps_parse.specs.ps_scan.declared.class.Inner.TheVariants.{Plain, Apostrophe}
use Rattle.ps_parse.specs.ps_scan.declared.token.Token.{Token}
use Rattle.ps_parse.specs.ps_scan.declared.token.TokenKind.{TokenKind}
use Rattle.ps_parse.specs.ps_scan.declared.token.TokenKind.TheVariants as scanned
use Rattle.ps_parse.specs.ps_scan.Class.{inner_of, escaped}
use Rattle.ps_parse.specs.ps_scan.Piece.{Quoted, Closes, StaysOpen, HasBadByte, HasBadEscape, spells, bytes_of, quoted, behind_apostrophe}
use Rattle.ps_parse.specs.ps_scan.Tokens.{HasTokens, IsToken, IsSpelled, IsName, slice_of, int_value, spelled}
use Rattle.ps_parse.proofs.of_ps_scan.Scanning.{all_tokens}
use Rattle.ps_layout.specs.ps_symbols.declared.kind.Kind.{Kind}
use Rattle.ps_layout.specs.ps_symbols.declared.kind.Kind.TheVariants as kind
use Rattle.ps_layout.specs.ps_symbols.declared.symbol.Symbol.{Symbol}
use Rattle.ps_layout.specs.ps_symbols.Kinds.{kind_of}
use Rattle.ps_layout.specs.ps_symbols.Symbols.{semicolon_behind, symbol, symbols}
use Rattle.ps_layout.proofs.of_ps_symbols.SymbolLemmas.{leaf, not_word, not_mark, all_symbols}
use Rattle.ps_reread.specs.Spelled.{can_be_spelled}

-- a byte that a string spells can be spelled
plain_spells : (byte : ℕ) → inner_of byte ≡ Plain → can_be_spelled byte ≡ true
unfolding inner_of
plain_spells byte kind = grind (arith, nat_tests)

escape_spells : (byte meant : ℕ) → escaped byte ≡ Some meant → can_be_spelled meant ≡ true
unfolding escaped
escape_spells byte meant kind = grind (arith, nat_tests)

abbrev AllSpell : List ℕ → Type 0
AllSpell bytes = AllPass can_be_spelled bytes

none_spell : AllSpell []
none_spell = All-nil (λ byte. can_be_spelled byte ≡ true)

more_spell : (byte taken : ℕ) (q : Quoted) → can_be_spelled byte ≡ true → AllSpell (bytes_of q) → AllSpell (bytes_of (spells byte taken q))
unfolding bytes_of spells
more_spell byte taken (Closes bytes n) is all = All-cons (λ b. can_be_spelled b ≡ true) byte bytes is all
more_spell byte taken StaysOpen is all = none_spell
more_spell byte taken (HasBadByte bad) is all = none_spell
more_spell byte taken (HasBadEscape bad) is all = none_spell

-- what the first byte of a string makes of the rest
quoted_plain : (byte : ℕ) (rest : List ℕ) → inner_of byte ≡ Plain → quoted (byte ∷ rest) ≡ spells byte 1 (quoted rest)
unfolding quoted
quoted_plain byte rest kind = rw (kind, quoted)

quoted_apostrophe : (byte : ℕ) (rest : List ℕ) → inner_of byte ≡ Apostrophe → quoted (byte ∷ rest) ≡ behind_apostrophe rest
unfolding quoted
quoted_apostrophe byte rest kind = rw (kind, quoted)

quoted_quote : (byte : ℕ) (rest : List ℕ) → inner_of byte ≡ Inner.Quote → bytes_of (quoted (byte ∷ rest)) ≡ []
unfolding quoted bytes_of
quoted_quote byte rest kind = rw (kind, quoted)

quoted_newline : (byte : ℕ) (rest : List ℕ) → inner_of byte ≡ Inner.Newline → bytes_of (quoted (byte ∷ rest)) ≡ []
unfolding quoted bytes_of
quoted_newline byte rest kind = rw (kind, quoted)

quoted_other : (byte : ℕ) (rest : List ℕ) → inner_of byte ≡ Inner.Other → bytes_of (quoted (byte ∷ rest)) ≡ []
unfolding quoted bytes_of
quoted_other byte rest kind = rw (kind, quoted)

behind_some : (byte meant : ℕ) (rest : List ℕ) → escaped byte ≡ Some meant → behind_apostrophe (byte ∷ rest) ≡ spells meant 2 (quoted rest)
unfolding behind_apostrophe
behind_some byte meant rest kind = rw (kind, behind_apostrophe)

behind_none : (byte : ℕ) (rest : List ℕ) → escaped byte ≡ None → bytes_of (behind_apostrophe (byte ∷ rest)) ≡ []
unfolding behind_apostrophe bytes_of
behind_none byte rest kind = rw (kind, behind_apostrophe)

bytes_none : (q : Quoted) → bytes_of q ≡ [] → AllSpell (bytes_of q)
bytes_none q empty = subst AllSpell (sym empty) none_spell

byte_spells : (kind : Inner) (byte : ℕ) (rest : List ℕ) → inner_of byte ≡ kind → AllSpell (bytes_of (quoted rest)) → AllSpell (bytes_of (behind_apostrophe rest)) → AllSpell (bytes_of (quoted (byte ∷ rest)))
byte_spells Plain byte rest kind all behind = subst (λ q. AllSpell (bytes_of q)) (sym (quoted_plain byte rest kind)) (more_spell byte 1 (quoted rest) (plain_spells byte kind) all)
byte_spells Apostrophe byte rest kind all behind = subst (λ q. AllSpell (bytes_of q)) (sym (quoted_apostrophe byte rest kind)) behind
byte_spells Inner.Quote byte rest kind all behind = bytes_none (quoted (byte ∷ rest)) (quoted_quote byte rest kind)
byte_spells Inner.Newline byte rest kind all behind = bytes_none (quoted (byte ∷ rest)) (quoted_newline byte rest kind)
byte_spells Inner.Other byte rest kind all behind = bytes_none (quoted (byte ∷ rest)) (quoted_other byte rest kind)

behind_spells : (kind : Option ℕ) (byte : ℕ) (rest : List ℕ) → escaped byte ≡ kind → AllSpell (bytes_of (quoted rest)) → AllSpell (bytes_of (behind_apostrophe (byte ∷ rest)))
behind_spells (Some meant) byte rest kind all = subst (λ q. AllSpell (bytes_of q)) (sym (behind_some byte meant rest kind)) (more_spell meant 2 (quoted rest) (escape_spells byte meant kind) all)
behind_spells None byte rest kind all = bytes_none (behind_apostrophe (byte ∷ rest)) (behind_none byte rest kind)

mutual
  unfolding quoted behind_apostrophe bytes_of

  quoted_spells : (rest : List ℕ) → AllSpell (bytes_of (quoted rest))
  quoted_spells [] = none_spell
  quoted_spells (byte ∷ rest) = byte_spells (inner_of byte) byte rest refl (quoted_spells rest) (apostrophe_spells rest)

  apostrophe_spells : (rest : List ℕ) → AllSpell (bytes_of (behind_apostrophe rest))
  apostrophe_spells [] = none_spell
  apostrophe_spells (byte ∷ rest) = behind_spells (escaped byte) byte rest refl (quoted_spells rest)

no_leaf : (k : Kind) → leaf k ≡ false → (other : Kind) → leaf other ≡ true → k ≡ other → ⊥
no_leaf k none other is_leaf same = let l = sym none ∙ ap leaf same ∙ is_leaf in cc

-- a symbol is spelled as the leaf that it is
pub record IsLeaf (text : List ℕ) (symbol : Symbol) : Type 0 where
  pub name : symbol.kind ≡ kind.Name → IsName (slice_of text symbol.token)
  pub int : symbol.kind ≡ kind.Int → int_value text symbol.token ≤ 2147483647
  pub string : symbol.kind ≡ kind.Text → AllPass can_be_spelled (spelled text symbol.token) × (length (spelled text symbol.token) ≤ 65535)

leaf_of : (text : List ℕ) (number : ℕ) (token : Token) (what : TokenKind) → IsSpelled what (slice_of text token) → IsLeaf text (record { kind = kind_of what; number = number; token = token })
leaf_of text number token scanned.Name spelling = record { name = λ k. spelling; int = λ k. absurd (cc); string = λ k. absurd (cc) }
leaf_of text number token scanned.Int spelling = record { name = λ k. absurd (cc); int = λ k. spelling.fits; string = λ k. absurd (cc) }
leaf_of text number token scanned.Text spelling = record { name = λ k. absurd (cc); int = λ k. absurd (cc); string = λ k. (quoted_spells _, spelling.fits) }
leaf_of text number token (scanned.Word place) spelling =
    let none = no_leaf (kind_of (scanned.Word place)) (not_word place) in
    record { name = λ k. absurd (none kind.Name refl k); int = λ k. absurd (none kind.Int refl k); string = λ k. absurd (none kind.Text refl k) }
leaf_of text number token (scanned.Mark place) spelling =
    let none = no_leaf (kind_of (scanned.Mark place)) (not_mark place) in
    record { name = λ k. absurd (none kind.Name refl k); int = λ k. absurd (none kind.Int refl k); string = λ k. absurd (none kind.Text refl k) }

leaf_token : (text : List ℕ) (number : ℕ) (token : Token) → IsToken text token → IsLeaf text (symbol number token)
leaf_token text number token is = leaf_of text number token token.what is.spelling

leaf_semicolon : (text : List ℕ) (number : ℕ) (token : Token) → IsLeaf text (symbol number (semicolon_behind token))
leaf_semicolon text number token = record { name = λ k. absurd (cc); int = λ k. absurd (cc); string = λ k. absurd (cc) }

-- each symbol of a text is
abbrev pub AreLeaves : List ℕ → List Symbol → Type 0
AreLeaves text symbols = (place : ℕ) (symbol : Symbol) → slice_get symbols place ≡ Some symbol → IsLeaf text symbol

pub leaves : {text : List ℕ} {tokens : List Token} → HasTokens text tokens → AreLeaves text (symbols tokens)
leaves {text} {tokens} scans = λ place symbol here.
    subst (IsLeaf text) (get_or_from_slice_get (symbols tokens) place symbol symbol here)
    (All-get_or (IsLeaf text) (symbols tokens) place symbol (slice_get_within (symbols tokens) place symbol here) (all_symbols text (IsLeaf text) (leaf_token text) (leaf_semicolon text) None 0 tokens (all_tokens scans)))

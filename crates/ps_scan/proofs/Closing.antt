-- A string that closes does so within the text, and what stands after it doesn't matter.
use Rattle.std.proofs.Common.{◌≡◌, ℕ, ◌+◌, ◌≤◌, ◌==◌, false, List, [], ◌∷◌, length, take, Option, Some, None, sym, ◌∙◌, ap, refl, arith, subst}
use Rattle.ps_scan.specs.declared.class.Inner.{Inner}
use Rattle.ps_scan.specs.declared.class.Inner.TheVariants.{Plain, Apostrophe}
use Rattle.std.proofs.lemmas.Bool.Decides.{nat_tests}
use Rattle.ps_scan.specs.Class.{inner_of, escaped}
use Rattle.ps_scan.specs.Piece.{Quoted, Closes, StaysOpen, HasBadByte, HasBadEscape, spells, quoted, behind_apostrophe}
use Rattle.ps_scan.specs.Tokens.{newlines}
use Rattle.ps_scan.proofs.Lines.{take_behind, no_newline_more, no_newline_first}

-- what the first byte of a string makes of the rest
pub quoted_plain : (byte : ℕ) (rest : List ℕ) → inner_of byte ≡ Plain → quoted (byte ∷ rest) ≡ spells byte 1 (quoted rest)
unfolding quoted
quoted_plain byte rest kind = rw (kind, quoted)

pub quoted_apostrophe : (byte : ℕ) (rest : List ℕ) → inner_of byte ≡ Apostrophe → quoted (byte ∷ rest) ≡ behind_apostrophe rest
unfolding quoted
quoted_apostrophe byte rest kind = rw (kind, quoted)

pub quoted_quote : (byte : ℕ) (rest : List ℕ) → inner_of byte ≡ Inner.Quote → quoted (byte ∷ rest) ≡ Closes [] 1
unfolding quoted
quoted_quote byte rest kind = rw (kind, quoted)

pub quoted_newline : (byte : ℕ) (rest : List ℕ) → inner_of byte ≡ Inner.Newline → quoted (byte ∷ rest) ≡ StaysOpen
unfolding quoted
quoted_newline byte rest kind = rw (kind, quoted)

pub quoted_other : (byte : ℕ) (rest : List ℕ) → inner_of byte ≡ Inner.Other → quoted (byte ∷ rest) ≡ HasBadByte byte
unfolding quoted
quoted_other byte rest kind = rw (kind, quoted)

pub escape_some : (byte spelled : ℕ) (rest : List ℕ) → escaped byte ≡ Some spelled → behind_apostrophe (byte ∷ rest) ≡ spells spelled 2 (quoted rest)
unfolding behind_apostrophe
escape_some byte spelled rest kind = rw (kind, behind_apostrophe)

pub escape_none : (byte : ℕ) (rest : List ℕ) → escaped byte ≡ None → behind_apostrophe (byte ∷ rest) ≡ HasBadEscape byte
unfolding behind_apostrophe
escape_none byte rest kind = rw (kind, behind_apostrophe)

-- a byte that goes on or closes a string is no newline
plain_other : (byte : ℕ) → inner_of byte ≡ Plain → (byte == 10) ≡ false
unfolding inner_of
plain_other byte kind = grind (arith, nat_tests)

apostrophe_other : (byte : ℕ) → inner_of byte ≡ Apostrophe → (byte == 10) ≡ false
unfolding inner_of
apostrophe_other byte kind = grind (arith, nat_tests)

quote_other : (byte : ℕ) → inner_of byte ≡ Inner.Quote → (byte == 10) ≡ false
unfolding inner_of
quote_other byte kind = grind (arith, nat_tests)

escaped_other : (byte spelled : ℕ) → escaped byte ≡ Some spelled → (byte == 10) ≡ false
unfolding escaped
escaped_other byte spelled kind = grind (arith, nat_tests)

-- if these bytes close a string, they do so within themselves, and by that part alone
pub record ClosesWithin (rest bytes : List ℕ) (n : ℕ) : Type 0 where
  pub nonempty : 1 ≤ n
  pub within : n ≤ length rest
  pub one_line : newlines (take n rest) ≡ 0
  pub alone : quoted (take n rest) ≡ Closes bytes n

EndsWithin : List ℕ → Quoted → Type 0
EndsWithin rest (Closes bytes n) = ClosesWithin rest bytes n
EndsWithin rest StaysOpen = Unit {0}
EndsWithin rest (HasBadByte byte) = Unit {0}
EndsWithin rest (HasBadEscape byte) = Unit {0}

-- the same after an apostrophe, which is counted
record ClosesBehind (rest bytes : List ℕ) (n : ℕ) : Type 0 where
  within : n ≤ 1 + length rest
  alone : (m : ℕ) × (n ≡ 1 + m) × (behind_apostrophe (take m rest) ≡ Closes bytes n) × (newlines (take m rest) ≡ 0)

EndsBehind : List ℕ → Quoted → Type 0
EndsBehind rest (Closes bytes n) = ClosesBehind rest bytes n
EndsBehind rest StaysOpen = Unit {0}
EndsBehind rest (HasBadByte byte) = Unit {0}
EndsBehind rest (HasBadEscape byte) = Unit {0}

plain_ends : (byte : ℕ) (rest : List ℕ) → inner_of byte ≡ Plain → (q : Quoted) → EndsWithin rest q → EndsWithin (byte ∷ rest) (spells byte 1 q)
unfolding EndsWithin spells
plain_ends byte rest kind (Closes bytes n) ends = record {
  nonempty = omega arith;
  within = omega (arith, ends.within);
  one_line = no_newline_more byte n rest (plain_other byte kind) ends.one_line;
  alone = ap quoted (take_behind n byte rest) ∙ quoted_plain byte (take n rest) kind ∙ ap (spells byte 1) ends.alone;
}
plain_ends byte rest kind StaysOpen ends = tt
plain_ends byte rest kind (HasBadByte bad) ends = tt
plain_ends byte rest kind (HasBadEscape bad) ends = tt

escape_ends : (byte spelled : ℕ) (rest : List ℕ) → escaped byte ≡ Some spelled → (q : Quoted) → EndsWithin rest q → EndsBehind (byte ∷ rest) (spells spelled 2 q)
unfolding EndsWithin EndsBehind spells
escape_ends byte spelled rest kind (Closes bytes n) ends = record {
  within = omega (arith, ends.within);
  alone = (1 + n, omega arith, ap behind_apostrophe (take_behind n byte rest) ∙ escape_some byte spelled (take n rest) kind ∙ ap (spells spelled 2) ends.alone, no_newline_more byte n rest (escaped_other byte spelled kind) ends.one_line);
}
escape_ends byte spelled rest kind StaysOpen ends = tt
escape_ends byte spelled rest kind (HasBadByte bad) ends = tt
escape_ends byte spelled rest kind (HasBadEscape bad) ends = tt

apostrophe_ends : (byte : ℕ) (rest : List ℕ) → inner_of byte ≡ Apostrophe → (q : Quoted) → EndsBehind rest q → EndsWithin (byte ∷ rest) q
unfolding EndsWithin EndsBehind
apostrophe_ends byte rest kind (Closes bytes n) ends = record {
  nonempty = omega (arith, ends.alone.1);
  within = omega (arith, ends.within);
  one_line = ap (λ k. newlines (take k (byte ∷ rest))) ends.alone.1 ∙ no_newline_more byte ends.alone.0 rest (apostrophe_other byte kind) ends.alone.3;
  alone = ap (λ k. quoted (take k (byte ∷ rest))) ends.alone.1 ∙ ap quoted (take_behind ends.alone.0 byte rest) ∙ quoted_apostrophe byte (take ends.alone.0 rest) kind ∙ ends.alone.2;
}
apostrophe_ends byte rest kind StaysOpen ends = tt
apostrophe_ends byte rest kind (HasBadByte bad) ends = tt
apostrophe_ends byte rest kind (HasBadEscape bad) ends = tt

byte_ends : (kind : Inner) (byte : ℕ) (rest : List ℕ) → inner_of byte ≡ kind → EndsWithin rest (quoted rest) → EndsBehind rest (behind_apostrophe rest) → EndsWithin (byte ∷ rest) (quoted (byte ∷ rest))
unfolding EndsWithin
byte_ends Plain byte rest kind ends behind =
    subst (EndsWithin (byte ∷ rest)) (sym (quoted_plain byte rest kind)) (plain_ends byte rest kind (quoted rest) ends)
byte_ends Apostrophe byte rest kind ends behind =
    subst (EndsWithin (byte ∷ rest)) (sym (quoted_apostrophe byte rest kind)) (apostrophe_ends byte rest kind (behind_apostrophe rest) behind)
byte_ends Inner.Quote byte rest kind ends behind =
    subst (EndsWithin (byte ∷ rest)) (sym (quoted_quote byte rest kind)) (record {
      nonempty = omega arith;
      within = omega arith;
      one_line = no_newline_first byte rest (quote_other byte kind);
      alone = quoted_quote byte (take 0 rest) kind;
    })
byte_ends Inner.Newline byte rest kind ends behind = subst (EndsWithin (byte ∷ rest)) (sym (quoted_newline byte rest kind)) tt
byte_ends Inner.Other byte rest kind ends behind = subst (EndsWithin (byte ∷ rest)) (sym (quoted_other byte rest kind)) tt

escaped_ends : (kind : Option ℕ) (byte : ℕ) (rest : List ℕ) → escaped byte ≡ kind → EndsWithin rest (quoted rest) → EndsBehind (byte ∷ rest) (behind_apostrophe (byte ∷ rest))
unfolding EndsBehind
escaped_ends (Some spelled) byte rest kind ends =
    subst (EndsBehind (byte ∷ rest)) (sym (escape_some byte spelled rest kind)) (escape_ends byte spelled rest kind (quoted rest) ends)
escaped_ends None byte rest kind ends = subst (EndsBehind (byte ∷ rest)) (sym (escape_none byte rest kind)) tt

mutual
  unfolding EndsWithin EndsBehind quoted behind_apostrophe

  quoted_ends : (rest : List ℕ) → EndsWithin rest (quoted rest)
  quoted_ends [] = tt
  quoted_ends (byte ∷ rest) = byte_ends (inner_of byte) byte rest refl (quoted_ends rest) (behind_ends rest)

  behind_ends : (rest : List ℕ) → EndsBehind rest (behind_apostrophe rest)
  behind_ends [] = tt
  behind_ends (byte ∷ rest) = escaped_ends (escaped byte) byte rest refl (quoted_ends rest)

pub closes_within : (rest bytes : List ℕ) (n : ℕ) → quoted rest ≡ Closes bytes n → ClosesWithin rest bytes n
unfolding EndsWithin
closes_within rest bytes n closes = subst (EndsWithin rest) closes (quoted_ends rest)

-- What bytes glued after a run, a string or a mark leave as it is.
use Rattle.std.proofs.Common.{◌≡◌, ℕ, ◌+◌, Bool, true, false, not, cond, ◌&&◌, List, [], ◌∷◌, ◌++◌, length, Option, Some, None, refl, sym, ap, ◌∙◌, arith}
use Rattle.std.specs.List.{list_all, prefix_len, take_while, AllPass}
use Rattle.std.proofs.lemmas.List.{take_at}
use Rattle.std.proofs.lemmas.List.Elements.{All-head, All-tail}
use Rattle.ps_parse.specs.ps_scan.declared.class.Inner.{Inner}
use Rattle.ps_parse.specs.ps_scan.declared.class.Inner.TheVariants.{Plain, Apostrophe}
use Rattle.ps_parse.specs.ps_scan.Class.{inner_of, escaped}
use Rattle.ps_parse.specs.ps_scan.Piece.{Quoted, Closes, StaysOpen, HasBadByte, HasBadEscape, spells, quoted, behind_apostrophe}
use Rattle.ps_parse.proofs.of_ps_scan.Closing.{quoted_plain, quoted_apostrophe, quoted_quote, quoted_newline, quoted_other, escape_some, escape_none}
use Rattle.ps_reread.specs.Printable.{first_passes}

pub both : (a b : Bool) → (a && b) ≡ true → (a ≡ true) × (b ≡ true)
both true b e = (refl, e)
both false b e = absurd (cc)

pub not_true : (a : Bool) → not a ≡ true → a ≡ false
not_true true e = sym e
not_true false e = refl

pub not_false : (a : Bool) → not a ≡ false → a ≡ true
not_false true e = refl
not_false false e = sym e

pub all_passes : (p : ℕ → Bool) (xs : List ℕ) → AllPass p xs → list_all p xs ≡ true
all_passes p [] pass = refl
all_passes p (x ∷ xs) pass =
    let first : p x ≡ true = All-head (λ b. p b ≡ true) x xs pass in
    rw first (all_passes p xs (All-tail (λ b. p b ≡ true) x xs pass))

-- a run of bytes that pass ends before one that doesn't
run_length : (p : ℕ → Bool) (xs ys : List ℕ) → list_all p xs ≡ true → first_passes (λ b. not (p b)) ys ≡ true → prefix_len p (xs ++ ys) ≡ length xs
run_length p [] [] pass ends = refl
run_length p [] (y ∷ ys) pass ends = ap (λ b. cond b (1 + prefix_len p ys) 0) (not_true (p y) ends)
run_length p (x ∷ xs) ys pass ends =
    let parts = both (p x) (list_all p xs) pass in
    ap (λ b. cond b (1 + prefix_len p (xs ++ ys)) 0) parts.0 ∙ (let more = run_length p xs ys parts.1 ends in omega (arith, more))

pub run_is : (p : ℕ → Bool) (xs ys : List ℕ) → list_all p xs ≡ true → first_passes (λ b. not (p b)) ys ≡ true → take_while p (xs ++ ys) ≡ xs
run_is p xs ys pass ends = take_at xs ys (prefix_len p (xs ++ ys)) (sym (run_length p xs ys pass ends))

-- a string that closes does so whatever stands after it
ClosesToo : Quoted → Quoted → Type 0
ClosesToo one other = (bytes : List ℕ) (n : ℕ) → one ≡ Closes bytes n → other ≡ Closes bytes n

spells_too : (byte taken : ℕ) (one other : Quoted) → ClosesToo one other → ClosesToo (spells byte taken one) (spells byte taken other)
unfolding ClosesToo spells
spells_too byte taken (Closes bytes n) other too = λ all m e. ap (spells byte taken) (too bytes n refl) ∙ e
spells_too byte taken StaysOpen other too = λ all m e. absurd (cc)
spells_too byte taken (HasBadByte bad) other too = λ all m e. absurd (cc)
spells_too byte taken (HasBadEscape bad) other too = λ all m e. absurd (cc)

byte_too : (kind : Inner) (byte : ℕ) (xs ys : List ℕ) → inner_of byte ≡ kind → ClosesToo (quoted xs) (quoted (xs ++ ys)) → ClosesToo (behind_apostrophe xs) (behind_apostrophe (xs ++ ys)) → ClosesToo (quoted (byte ∷ xs)) (quoted (byte ∷ (xs ++ ys)))
unfolding ClosesToo
byte_too Plain byte xs ys kind too behind = λ bytes n e.
    quoted_plain byte (xs ++ ys) kind ∙ spells_too byte 1 (quoted xs) (quoted (xs ++ ys)) too bytes n (sym (quoted_plain byte xs kind) ∙ e)
byte_too Apostrophe byte xs ys kind too behind = λ bytes n e.
    quoted_apostrophe byte (xs ++ ys) kind ∙ behind bytes n (sym (quoted_apostrophe byte xs kind) ∙ e)
byte_too Inner.Quote byte xs ys kind too behind = λ bytes n e.
    quoted_quote byte (xs ++ ys) kind ∙ sym (quoted_quote byte xs kind) ∙ e
byte_too Inner.Newline byte xs ys kind too behind = λ bytes n e.
    let open_ : StaysOpen ≡ Closes bytes n = sym (quoted_newline byte xs kind) ∙ e in absurd (cc)
byte_too Inner.Other byte xs ys kind too behind = λ bytes n e.
    let bad : HasBadByte byte ≡ Closes bytes n = sym (quoted_other byte xs kind) ∙ e in absurd (cc)

escape_too : (kind : Option ℕ) (byte : ℕ) (xs ys : List ℕ) → escaped byte ≡ kind → ClosesToo (quoted xs) (quoted (xs ++ ys)) → ClosesToo (behind_apostrophe (byte ∷ xs)) (behind_apostrophe (byte ∷ (xs ++ ys)))
unfolding ClosesToo
escape_too (Some spelled) byte xs ys kind too = λ bytes n e.
    escape_some byte spelled (xs ++ ys) kind ∙ spells_too spelled 2 (quoted xs) (quoted (xs ++ ys)) too bytes n (sym (escape_some byte spelled xs kind) ∙ e)
escape_too None byte xs ys kind too = λ bytes n e.
    let bad : HasBadEscape byte ≡ Closes bytes n = sym (escape_none byte xs kind) ∙ e in absurd (cc)

mutual
  unfolding ClosesToo quoted behind_apostrophe

  quoted_too : (xs ys : List ℕ) → ClosesToo (quoted xs) (quoted (xs ++ ys))
  quoted_too [] ys = λ bytes n e. absurd (cc)
  quoted_too (byte ∷ xs) ys = byte_too (inner_of byte) byte xs ys refl (quoted_too xs ys) (behind_too xs ys)

  behind_too : (xs ys : List ℕ) → ClosesToo (behind_apostrophe xs) (behind_apostrophe (xs ++ ys))
  behind_too [] ys = λ bytes n e. absurd (cc)
  behind_too (byte ∷ xs) ys = escape_too (escaped byte) byte xs ys refl (quoted_too xs ys)

pub closes_too : (xs ys bytes : List ℕ) (n : ℕ) → quoted xs ≡ Closes bytes n → quoted (xs ++ ys) ≡ Closes bytes n
unfolding ClosesToo
closes_too xs ys bytes n e = quoted_too xs ys bytes n e

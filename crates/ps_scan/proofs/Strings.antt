-- What a string has spelled up to a place.
use Rattle.std.proofs.Common.{◌≡◌, ℕ, ◌+◌, List, [], ◌∷◌, ◌++◌, length, drop, sym, ◌∙◌, ap, refl, arith, zero-add, add_assoc, append_assoc, append-nil, length-append}
use Rattle.std.proofs.lemmas.List.{drop-drop}
use Rattle.ps_base.specs.declared.line.Line.{Line}
use Rattle.ps_scan.specs.declared.piece.Piece.{Piece}
use Rattle.ps_scan.specs.declared.quoted.Inside.{Inside}
use Rattle.ps_scan.specs.declared.quoted.Inside.TheVariants.{Spelled, Closed, Open, BadByte, BadEscape}
use Rattle.ps_scan.specs.Piece.{Quoted, Closes, StaysOpen, HasBadByte, HasBadEscape, spells, quoted, string, bytes_of}
use Rattle.ps_scan.specs.inside.Strings.{goes_on}

-- these bytes stand before those that a string goes on to spell, spelled by so many bytes
unfoldable pub prepend : List ℕ → ℕ → Quoted → Quoted
prepend bytes n (Closes more m) = Closes (bytes ++ more) (n + m)
prepend bytes n StaysOpen = StaysOpen
prepend bytes n (HasBadByte byte) = HasBadByte byte
prepend bytes n (HasBadEscape byte) = HasBadEscape byte

prepend_none : (rest : Quoted) → rest ≡ prepend [] 0 rest
unfolding prepend
prepend_none (Closes more m) = ap (λ n. Closes more n) (sym (zero-add m))
prepend_none StaysOpen = refl
prepend_none (HasBadByte byte) = refl
prepend_none (HasBadEscape byte) = refl

prepend_more : (bytes : List ℕ) (n byte taken : ℕ) (rest : Quoted) → prepend bytes n (spells byte taken rest) ≡ prepend (bytes ++ byte ∷ []) (n + taken) rest
unfolding prepend spells
prepend_more bytes n byte taken (Closes more m) = ap (λ all. Closes all (n + (taken + m))) (sym (append_assoc bytes (byte ∷ []) more)) ∙ ap (Closes ((bytes ++ byte ∷ []) ++ more)) (sym (add_assoc n taken m))
prepend_more bytes n byte taken StaysOpen = refl
prepend_more bytes n byte taken (HasBadByte bad) = refl
prepend_more bytes n byte taken (HasBadEscape bad) = refl

-- up to this place after its opening quote a string has spelled these bytes
pub record SoFar (whole : List ℕ) (at : ℕ) (bytes : List ℕ) : Type 0 where
  pub onwards : quoted whole ≡ prepend bytes at (quoted (drop at whole))

pub none_yet : (whole : List ℕ) → SoFar whole 0 []
none_yet whole = record { onwards = prepend_none (quoted whole) }

pub one_more : (whole : List ℕ) (at : ℕ) (bytes : List ℕ) (byte taken : ℕ) → SoFar whole at bytes → quoted (drop at whole) ≡ spells byte taken (quoted (drop taken (drop at whole))) → SoFar whole (at + taken) (bytes ++ byte ∷ [])
one_more whole at bytes byte taken so_far step = record {
  onwards = so_far.onwards ∙ ap (prepend bytes at) step ∙ prepend_more bytes at byte taken (quoted (drop taken (drop at whole))) ∙ ap (λ rest. prepend (bytes ++ byte ∷ []) (at + taken) (quoted rest)) (drop-drop taken at whole);
}

-- where the rest of a string is a fault, the whole is
pub ends_in : (whole : List ℕ) (at : ℕ) (bytes : List ℕ) (rest : Quoted) → SoFar whole at bytes → quoted (drop at whole) ≡ rest → quoted whole ≡ prepend bytes at rest
ends_in whole at bytes rest so_far here = so_far.onwards ∙ ap (prepend bytes at) here

pub closes_in : (whole : List ℕ) (at : ℕ) (bytes : List ℕ) → SoFar whole at bytes → quoted (drop at whole) ≡ Closes [] 1 → quoted whole ≡ Closes bytes (at + 1)
unfolding prepend
closes_in whole at bytes so_far here =
    so_far.onwards ∙ ap (prepend bytes at) here ∙ ap (λ all. Closes all (at + 1)) (append-nil bytes)

-- the same, where only the number of the bytes is kept
pub record Counted (whole : List ℕ) (at count : ℕ) : Type 0 where
  pub bytes : List ℕ
  pub counted : length bytes ≡ count
  pub so_far : SoFar whole at bytes

pub none_counted : (whole : List ℕ) → Counted whole 0 0
none_counted whole = record { bytes = []; counted = refl; so_far = none_yet whole }

pub one_more_counted : (whole : List ℕ) (at count byte taken : ℕ) → Counted whole at count → quoted (drop at whole) ≡ spells byte taken (quoted (drop taken (drop at whole))) → Counted whole (at + taken) (count + 1)
one_more_counted whole at count byte taken before step = record {
  bytes = before.bytes ++ byte ∷ [];
  counted = omega (arith, length-append before.bytes (byte ∷ []), before.counted);
  so_far = one_more whole at before.bytes byte taken before.so_far step;
}

pub string_closes : (line : Line) (whole : List ℕ) (at count taken : ℕ) (piece : Piece) → Counted whole at count → quoted (drop at whole) ≡ Closes [] 1 → taken ≡ at + 2 → ((bytes : List ℕ) (n : ℕ) → length bytes ≡ count → 1 + n ≡ taken → piece ≡ string line (Closes bytes n)) → piece ≡ string line (quoted whole)
string_closes line whole at count taken piece before here size closed =
    closed before.bytes (at + 1) before.counted (omega arith) ∙ sym (ap (string line) (closes_in whole at before.bytes before.so_far here))

pub string_stays_open : (line : Line) (whole : List ℕ) (at count : ℕ) → Counted whole at count → quoted (drop at whole) ≡ StaysOpen → string line StaysOpen ≡ string line (quoted whole)
unfolding prepend
string_stays_open line whole at count before here =
    sym (ap (string line) (ends_in whole at before.bytes StaysOpen before.so_far here))

pub string_has_bad_byte : (line : Line) (whole : List ℕ) (at count byte : ℕ) → Counted whole at count → quoted (drop at whole) ≡ HasBadByte byte → string line (HasBadByte byte) ≡ string line (quoted whole)
unfolding prepend
string_has_bad_byte line whole at count byte before here =
    sym (ap (string line) (ends_in whole at before.bytes (HasBadByte byte) before.so_far here))

pub string_has_bad_escape : (line : Line) (whole : List ℕ) (at count byte : ℕ) → Counted whole at count → quoted (drop at whole) ≡ HasBadEscape byte → string line (HasBadEscape byte) ≡ string line (quoted whole)
unfolding prepend
string_has_bad_escape line whole at count byte before here =
    sym (ap (string line) (ends_in whole at before.bytes (HasBadEscape byte) before.so_far here))

-- a string that closes has spelled all its bytes where no byte more is spelled
pub all_spelled : (whole : List ℕ) (at : ℕ) (bytes : List ℕ) (next : Inside) (n : ℕ) → SoFar whole at bytes → quoted (drop at whole) ≡ goes_on next (drop at whole) → ((byte taken : ℕ) → next ≡ Spelled byte taken → ⊥) → quoted whole ≡ Closes (bytes_of (quoted whole)) n → bytes ≡ bytes_of (quoted whole)
unfolding prepend bytes_of
all_spelled whole at bytes (Spelled byte taken) n so_far here none closes = absurd (none byte taken refl)
all_spelled whole at bytes Closed n so_far here none closes = sym (ap bytes_of (closes_in whole at bytes so_far here))
all_spelled whole at bytes Open n so_far here none closes =
    let open_ : quoted whole ≡ StaysOpen = ends_in whole at bytes StaysOpen so_far here in cc
all_spelled whole at bytes (BadByte byte) n so_far here none closes =
    let bad : quoted whole ≡ HasBadByte byte = ends_in whole at bytes (HasBadByte byte) so_far here in cc
all_spelled whole at bytes (BadEscape byte) n so_far here none closes =
    let bad : quoted whole ≡ HasBadEscape byte = ends_in whole at bytes (HasBadEscape byte) so_far here in cc

-- What the rest of a text begins with: a blank, a comment, a token or a fault. The longest token is
-- taken.
use Rattle.std.specs.Prelude.{ℕ, ◌+◌, ◌==◌, not, nat_le, List, [], ◌∷◌, length, Option, Some, None, if◌then◌else◌}
use Rattle.std.specs.List.{take_while}
use Rattle.std.specs.Char.{is_ascii_digit}
use Rattle.ps_base.specs.Limits.{most_name_bytes, most_string_bytes}
use Rattle.ps_base.specs.declared.line.Line.{Line}
use Rattle.ps_scan.specs.declared.class.Class.{Class}
use Rattle.ps_scan.specs.declared.class.Class.TheVariants.{Letter, Digit}
use Rattle.ps_scan.specs.declared.class.Inner.{Inner}
use Rattle.ps_scan.specs.declared.class.Inner.TheVariants.{Plain, Apostrophe}
use Rattle.ps_scan.specs.declared.fault.ScanFault.TheVariants.{BadByte, OpenString, IntTooLarge, BadEscape, NameTooLong, StringTooLong}
use Rattle.ps_scan.specs.declared.piece.Piece.{Piece}
use Rattle.ps_scan.specs.declared.piece.Piece.TheVariants.{End, Fault}
use Rattle.ps_scan.specs.declared.token.TokenKind.TheVariants.{Name, Int, Text, Word, Mark}
use Rattle.ps_scan.specs.Class.{class_of, is_name_byte, inner_of, escaped, decimal}
use Rattle.ps_scan.specs.Names.{word_place, mark_place}

-- how a string goes on after its opening quote: it closes, with the bytes that it spells and the
-- number of bytes up to and with the closing quote; or it stays open; or a byte in it is bad
pub data Quoted : Type 0 where
  Closes : List ℕ → ℕ → Quoted
  StaysOpen : Quoted
  HasBadByte : ℕ → Quoted
  HasBadEscape : ℕ → Quoted

-- one byte more is spelled, by so many bytes
unfoldable pub spells : ℕ → ℕ → Quoted → Quoted
spells byte taken (Closes bytes n) = Closes (byte ∷ bytes) (taken + n)
spells byte taken StaysOpen = StaysOpen
spells byte taken (HasBadByte bad) = HasBadByte bad
spells byte taken (HasBadEscape bad) = HasBadEscape bad

-- the bytes that a string spells
unfoldable pub bytes_of : Quoted → List ℕ
bytes_of (Closes bytes n) = bytes
bytes_of StaysOpen = []
bytes_of (HasBadByte byte) = []
bytes_of (HasBadEscape byte) = []

unfoldable mutual
  -- the bytes after an opening quote
  pub quoted : List ℕ → Quoted
  quoted [] = StaysOpen
  quoted (byte ∷ rest) =
      elim (inner_of byte) [
        | Plain ↦ spells byte 1 (quoted rest)
        | Apostrophe ↦ behind_apostrophe rest
        | Inner.Quote ↦ Closes [] 1
        | Inner.Newline ↦ StaysOpen
        | Inner.Other ↦ HasBadByte byte
      ]

  -- the bytes after an apostrophe in a string
  pub behind_apostrophe : List ℕ → Quoted
  behind_apostrophe [] = StaysOpen
  behind_apostrophe (byte ∷ rest) =
      elim (escaped byte) [
        | Some spelled ↦ spells spelled 2 (quoted rest)
        | None ↦ HasBadEscape byte
      ]

-- a comment begins with `!` and has all bytes before the next newline
abbrev pub comment : List ℕ → List ℕ
comment bytes = take_while (λ byte. not (byte == 10)) bytes

-- a run of letters, digits and dots is the reserved word of this place, or a name of at most 64 bytes
unfoldable pub word_or_name : Line → List ℕ → Option ℕ → Piece
word_or_name line run (Some place) = Piece.Token (Word place) (length run)
word_or_name line run None =
    if nat_le (length run) most_name_bytes then Piece.Token Name (length run) else Fault (NameTooLong line (length run))

-- a run of digits
unfoldable pub int : Line → List ℕ → Piece
int line digits =
    if nat_le (decimal digits) 2147483647 then Piece.Token Int (length digits) else Fault (IntTooLarge line)

-- a string, whose opening quote is one byte more
unfoldable pub string : Line → Quoted → Piece
string line (Closes bytes n) =
    if nat_le (length bytes) most_string_bytes then Piece.Token Text (1 + n) else Fault (StringTooLong line (length bytes))
string line StaysOpen = Fault (OpenString line)
string line (HasBadByte byte) = Fault (BadByte line byte)
string line (HasBadEscape byte) = Fault (BadEscape line byte)

-- the place of the mark that one byte is, of the one that two bytes are, and of the one that two bytes
-- here are
abbrev pub single_mark : ℕ → Option ℕ
single_mark byte = mark_place (byte ∷ [])

abbrev pub double_mark : ℕ → ℕ → Option ℕ
double_mark first second = mark_place (first ∷ second ∷ [])

abbrev pub double_mark_here : ℕ → List ℕ → Option ℕ
double_mark_here first [] = None
double_mark_here first (second ∷ rest) = double_mark first second

-- the mark of two bytes if there is one, else that of one byte; other bytes begin no token
unfoldable pub mark : Line → ℕ → Option ℕ → Option ℕ → Piece
mark line byte (Some place) single = Piece.Token (Mark place) 2
mark line byte None (Some place) = Piece.Token (Mark place) 1
mark line byte None None = Fault (BadByte line byte)

-- what begins with this byte of this class, where the rest stands after it
unfoldable pub piece_of : Class → Line → ℕ → List ℕ → Piece
piece_of Class.Blank line byte rest = Piece.Blank
piece_of Class.Newline line byte rest = Piece.Newline
piece_of Class.Comment line byte rest = Piece.Comment (length (comment (byte ∷ rest)))
piece_of Letter line byte rest =
    let run = take_while is_name_byte (byte ∷ rest) in
    word_or_name line run (word_place run)
piece_of Digit line byte rest = int line (take_while is_ascii_digit (byte ∷ rest))
piece_of Class.Quote line byte rest = string line (quoted rest)
piece_of Class.Other line byte rest = mark line byte (double_mark_here byte rest) (single_mark byte)

-- what the rest of a text begins with, where it stands on this line
unfoldable pub first_piece : Line → List ℕ → Piece
first_piece line [] = End
first_piece line (byte ∷ rest) = piece_of (class_of byte) line byte rest

-- The tokens of a text, and its first fault.
use Rattle.std.specs.Prelude.{◌≡◌, ℕ, ◌+◌, ◌-◌, ◌<◌, ◌≤◌, ◌==◌, IsTrue, List, [], ◌∷◌, length, take, drop, count_by, slice_range, slice_get, slice_index, Some, None}
use Rattle.std.specs.List.{AllPass}
use Rattle.std.specs.Char.{is_ascii_digit, is_ascii_alphabetic}
use Rattle.ps_base.specs.Limits.{most_name_bytes, most_string_bytes}
use Rattle.ps_base.specs.declared.line.Line.{Line}
use Rattle.ps_scan.specs.declared.fault.ScanFault.{ScanFault}
use Rattle.ps_scan.specs.declared.piece.Piece.{Piece}
use Rattle.ps_scan.specs.declared.piece.Piece.TheVariants.{End, Blank, Newline, Comment, Fault}
use Rattle.ps_scan.specs.declared.token.Token.{Token}
use Rattle.ps_scan.specs.declared.token.TokenKind.{TokenKind}
use Rattle.ps_scan.specs.declared.token.TokenKind.TheVariants.{Name, Int, Text, Word, Mark}
use Rattle.ps_scan.specs.Class.{is_name_byte, decimal}
use Rattle.ps_scan.specs.Fault.{line_of_fault}
use Rattle.ps_scan.specs.Names.{word_place, mark_place}
use Rattle.ps_scan.specs.Piece.{Closes, quoted, bytes_of, first_piece}

-- the line of this number
abbrev pub line_of : ℕ → Line
line_of number = record { 0 = number }

-- what the text begins with from this place on, which is on this line
abbrev pub piece_at : List ℕ → ℕ → ℕ → Piece
piece_at text at line = first_piece (line_of line) (drop at text)

-- the token of this kind and length at this place
abbrev pub token_at : TokenKind → ℕ → ℕ → ℕ → Token
token_at what line at length = record { what = what; line = line_of line; from = at; to = at + length }

-- from this place on, which is on this line, the text is read to its end, and these are its tokens
pub data Scans (text : List ℕ) : ℕ → ℕ → List Token → Type 0 where
  at_end : {at line : ℕ} → piece_at text at line ≡ End → Scans text at line []
  past_blank : {at line : ℕ} {tokens : List Token} → piece_at text at line ≡ Blank → Scans text (at + 1) line tokens → Scans text at line tokens
  past_newline : {at line : ℕ} {tokens : List Token} → piece_at text at line ≡ Newline → Scans text (at + 1) (line + 1) tokens → Scans text at line tokens
  past_comment : {at line length : ℕ} {tokens : List Token} → piece_at text at line ≡ Comment length → Scans text (at + length) line tokens → Scans text at line tokens
  past_token : {at line length : ℕ} {what : TokenKind} {tokens : List Token} → piece_at text at line ≡ Piece.Token what length → Scans text (at + length) line tokens → Scans text at line (token_at what line at length ∷ tokens)

-- from this place on, which is on this line, this is the first fault
pub data Stops (text : List ℕ) : ℕ → ℕ → ScanFault → Type 0 where
  at_fault : {at line : ℕ} {fault : ScanFault} → piece_at text at line ≡ Fault fault → Stops text at line fault
  past_blank : {at line : ℕ} {fault : ScanFault} → piece_at text at line ≡ Blank → Stops text (at + 1) line fault → Stops text at line fault
  past_newline : {at line : ℕ} {fault : ScanFault} → piece_at text at line ≡ Newline → Stops text (at + 1) (line + 1) fault → Stops text at line fault
  past_comment : {at line length : ℕ} {fault : ScanFault} → piece_at text at line ≡ Comment length → Stops text (at + length) line fault → Stops text at line fault
  past_token : {at line length : ℕ} {what : TokenKind} {fault : ScanFault} → piece_at text at line ≡ Piece.Token what length → Stops text (at + length) line fault → Stops text at line fault

pub ruleset scanning = (Scans.at_end, Scans.past_blank, Scans.past_newline, Scans.past_comment, Scans.past_token, Stops.at_fault, Stops.past_blank, Stops.past_newline, Stops.past_comment, Stops.past_token)

-- the tokens of a whole text, and its first fault: a text begins at place 0, on line 1
abbrev pub HasTokens : List ℕ → List Token → Type 0
HasTokens text tokens = Scans text 0 1 tokens

abbrev pub HasFault : List ℕ → ScanFault → Type 0
HasFault text fault = Stops text 0 1 fault

-- the bytes of a token
abbrev pub slice_of : List ℕ → Token → List ℕ
slice_of text token = slice_range text token.from token.to

-- the value of an int
abbrev pub int_value : List ℕ → Token → ℕ
int_value text token = decimal (slice_of text token)

-- the bytes that a string spells
abbrev pub spelled : List ℕ → Token → List ℕ
spelled text token = bytes_of (quoted (drop 1 (slice_of text token)))

-- 1 to 64 letters, digits and dots, the first a letter, that are no reserved word
pub record IsName (slice : List ℕ) : Type 0 where
  pub begins : IsTrue (is_ascii_alphabetic (slice_index slice 0))
  pub goes_on : AllPass is_name_byte slice
  pub size : (1 ≤ length slice) × (length slice ≤ most_name_bytes)
  pub free : word_place slice ≡ None

-- one or more digits, whose value is at most 2147483647
pub record IsInt (slice : List ℕ) : Type 0 where
  pub size : 1 ≤ length slice
  pub digits : AllPass is_ascii_digit slice
  pub fits : decimal slice ≤ 2147483647

-- a quote, then what spells at most 65535 bytes, and a quote that closes it
pub record IsString (slice : List ℕ) : Type 0 where
  pub begins : slice_get slice 0 ≡ Some 34
  pub closes : quoted (drop 1 slice) ≡ Closes (bytes_of (quoted (drop 1 slice))) (length slice - 1)
  pub fits : length (bytes_of (quoted (drop 1 slice))) ≤ most_string_bytes

-- how many newlines these bytes have
unfoldable pub newlines : List ℕ → ℕ
newlines bytes = count_by (λ byte. byte == 10) bytes

-- the number of the line of this place: one more than the newlines before it
abbrev pub line_number : List ℕ → ℕ → ℕ
line_number text at = 1 + newlines (take at text)

-- these bytes are spelled as a token of this kind
abbrev pub IsSpelled : TokenKind → List ℕ → Type 0
IsSpelled Name slice = IsName slice
IsSpelled Int slice = IsInt slice
IsSpelled Text slice = IsString slice
IsSpelled (Word place) slice = word_place slice ≡ Some place
IsSpelled (Mark place) slice = mark_place slice ≡ Some place

-- a token of the text: a slice of it that is spelled as its kind is, with the line where it stands
pub record IsToken (text : List ℕ) (token : Token) : Type 0 where
  pub nonempty : token.from < token.to
  pub within : token.to ≤ length text
  pub line : token.line ≡ line_of (line_number text token.from)
  pub spelling : IsSpelled token.what (slice_of text token)

-- from this place on, each token begins at or after the end of the one before
abbrev pub IsInOrder : ℕ → List Token → Type 0
IsInOrder at [] = Unit {0}
IsInOrder at (token ∷ tokens) = (at ≤ token.from) × IsInOrder token.to tokens

-- the fault stands at this place: it is what the text begins with there, on the line of the place
pub record StandsAt (text : List ℕ) (fault : ScanFault) (place : ℕ) : Type 0 where
  pub within : place < length text
  pub here : piece_at text place (line_number text place) ≡ Fault fault
  pub line : line_of_fault fault ≡ Some (line_of (line_number text place))

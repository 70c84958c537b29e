-- A fault has the line of the place where it stands.
use Rattle.std.proofs.Common.{◌≡◌, ℕ, Bool, true, false, cond, List, [], ◌∷◌, length, drop, Option, Some, None, nat_le, sym, refl, subst}
use Rattle.ps_base.specs.declared.line.Line.{Line}
use Rattle.ps_scan.specs.declared.class.Class.{Class}
use Rattle.ps_scan.specs.declared.class.Class.TheVariants.{Letter, Digit}
use Rattle.ps_scan.specs.declared.fault.ScanFault.{ScanFault}
use Rattle.ps_scan.specs.declared.piece.Piece.{Piece}
use Rattle.ps_scan.specs.declared.piece.Piece.TheVariants.{End, Blank, Newline, Comment, Fault}
use Rattle.ps_scan.specs.Class.{class_of, decimal}
use Rattle.ps_scan.specs.Fault.{line_of_fault}
use Rattle.ps_scan.specs.Piece.{Quoted, Closes, StaysOpen, HasBadByte, HasBadEscape, word_or_name, int, string, mark, piece_of, first_piece}
use Rattle.ps_scan.specs.Tokens.{line_of, piece_at, Stops, HasFault, line_number, StandsAt}
use Rattle.ps_scan.proofs.Lines.{line_number-start}
use Rattle.ps_scan.proofs.Scanning.{begins_within, line_behind_blank, line_behind_newline, line_behind_comment, line_behind_token}

-- a piece that is a fault has this line
HasLine : Line → Piece → Type 0
HasLine line End = Unit {0}
HasLine line Blank = Unit {0}
HasLine line Newline = Unit {0}
HasLine line (Comment n) = Unit {0}
HasLine line (Piece.Token what n) = Unit {0}
HasLine line (Fault fault) = line_of_fault fault ≡ Some line

choice : (line : Line) (test : Bool) (this other : Piece) → HasLine line this → HasLine line other → HasLine line (cond test this other)
choice line true this other first second = first
choice line false this other first second = second

word_line : (line : Line) (run : List ℕ) (place : Option ℕ) → HasLine line (word_or_name line run place)
unfolding HasLine word_or_name
word_line line run (Some place) = tt
word_line line run None = choice line (nat_le (length run) 64) _ _ tt refl

int_line : (line : Line) (digits : List ℕ) → HasLine line (int line digits)
unfolding HasLine int
int_line line digits = choice line (nat_le (decimal digits) 2147483647) _ _ tt refl

string_line : (line : Line) (q : Quoted) → HasLine line (string line q)
unfolding HasLine string
string_line line (Closes bytes n) = choice line (nat_le (length bytes) 65535) _ _ tt refl
string_line line StaysOpen = refl
string_line line (HasBadByte byte) = refl
string_line line (HasBadEscape byte) = refl

mark_line : (line : Line) (byte : ℕ) (double single : Option ℕ) → HasLine line (mark line byte double single)
unfolding HasLine mark
mark_line line byte (Some place) single = tt
mark_line line byte None (Some place) = tt
mark_line line byte None None = refl

class_line : (line : Line) (class : Class) (byte : ℕ) (rest : List ℕ) → HasLine line (piece_of class line byte rest)
unfolding HasLine piece_of
class_line line Class.Blank byte rest = tt
class_line line Class.Newline byte rest = tt
class_line line Class.Comment byte rest = tt
class_line line Letter byte rest = word_line line _ _
class_line line Digit byte rest = int_line line _
class_line line Class.Quote byte rest = string_line line _
class_line line Class.Other byte rest = mark_line line byte _ _

piece_line : (line : Line) (rest : List ℕ) → HasLine line (first_piece line rest)
unfolding HasLine first_piece
piece_line line [] = tt
piece_line line (byte ∷ rest) = class_line line (class_of byte) byte rest

stands_here : (text : List ℕ) (place : ℕ) (fault : ScanFault) → piece_at text place (line_number text place) ≡ Fault fault → StandsAt text fault place
unfolding HasLine
stands_here text place fault here = record {
  within = begins_within text place (line_number text place) (λ end. cc);
  here = here;
  line = subst (HasLine (line_of (line_number text place))) here (piece_line (line_of (line_number text place)) (drop place text));
}

stands_from : {text : List ℕ} {at line : ℕ} {fault : ScanFault} → Stops text at line fault → line ≡ line_number text at → (place : ℕ) × StandsAt text fault place
stands_from {text} (Stops.at_fault {at = at} {fault = fault} here) on_line =
    (at, stands_here text at fault (subst (λ l. piece_at text at l ≡ Fault fault) on_line here))
stands_from {text} (Stops.past_blank {at = at} {line = line} here more) on_line = stands_from more (line_behind_blank text at line here on_line)
stands_from {text} (Stops.past_newline {at = at} {line = line} here more) on_line = stands_from more (line_behind_newline text at line here on_line)
stands_from {text} (Stops.past_comment {at = at} {line = line} {length = length} here more) on_line = stands_from more (line_behind_comment text at line length here on_line)
stands_from {text} (Stops.past_token {at = at} {line = line} {length = length} {what = what} here more) on_line =
    stands_from more (line_behind_token text at line what length here on_line)

pub fault_stands : (text : List ℕ) (fault : ScanFault) → HasFault text fault → (place : ℕ) × StandsAt text fault place
fault_stands text fault stops = stands_from stops (sym (line_number-start text))

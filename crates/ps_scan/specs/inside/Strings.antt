-- What stands next in a string.
use Rattle.std.specs.Prelude.{ℕ, ◌≤◌, List, [], length, drop}
use Rattle.ps_scan.specs.declared.quoted.Inside.{Inside}
use Rattle.ps_scan.specs.declared.quoted.Inside.TheVariants.{Spelled, Closed, Open, BadByte, BadEscape}
use Rattle.ps_scan.specs.Piece.{Quoted, Closes, StaysOpen, HasBadByte, HasBadEscape, spells, quoted}

-- how a string goes on that has this next, in the rest of a text
abbrev pub goes_on : Inside → List ℕ → Quoted
goes_on (Spelled byte length) rest = spells byte length (quoted (drop length rest))
goes_on Closed rest = Closes [] 1
goes_on Open rest = StaysOpen
goes_on (BadByte byte) rest = HasBadByte byte
goes_on (BadEscape byte) rest = HasBadEscape byte

-- a byte is spelled by at least one of so many bytes
abbrev pub IsWithin : Inside → ℕ → Type 0
IsWithin (Spelled byte length) size = (1 ≤ length) × (length ≤ size)
IsWithin Closed size = 1 ≤ size
IsWithin Open size = Unit {0}
IsWithin (BadByte byte) size = Unit {0}
IsWithin (BadEscape byte) size = Unit {0}

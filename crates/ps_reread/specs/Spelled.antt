-- The spelling of an int and of a string.
use Rattle.std.specs.Prelude.{◌≡◌, ℕ, ◌==◌, ◌||◌, ◌&&◌, Bool, nat_le, List, drop}
use Rattle.ps_parse.specs.ps_scan.Class.{decimal}
use Rattle.ps_parse.specs.ps_scan.Piece.{quoted, bytes_of}
use Rattle.ps_parse.specs.ps_scan.Tokens.{IsInt, IsString}

-- the spelling of an int, of this value
pub record SpellsInt (value : ℕ) (spelling : List ℕ) : Type 0 where
  pub is_int : IsInt spelling
  pub value_is : decimal spelling ≡ value

-- the spelling of a string of these bytes
pub record SpellsString (bytes spelling : List ℕ) : Type 0 where
  pub is_string : IsString spelling
  pub bytes_are : bytes_of (quoted (drop 1 spelling)) ≡ bytes

-- a byte that a string can spell: a newline, a tab, or one from 32 to 126
abbrev pub can_be_spelled : ℕ → Bool
can_be_spelled byte = byte == 10 || byte == 9 || (nat_le 32 byte && nat_le byte 126)

-- The operators on texts, and the lines of an input: what each gives, or the trap that it ends in.
use Rattle.std.specs.Prelude.{ℕ, suc, ◌+◌, ◌^◌, ℤ, pos, Bool, true, false, nat_lt, nat_eq, if◌then◌else◌, List, [], ◌∷◌, ◌++◌, length, take, drop}
use Rattle.std.specs.declared.cmp.Ordering.{Ordering}
use Rattle.std.specs.Ordering.{nat_cmp, is_eq}
use Rattle.std.specs.Cmp.Lexicographic.{slice_cmp}
use Rattle.ps_base.specs.Limits.{most_string_bytes}
use Rattle.ps_base.specs.declared.trap.Trap.{Trap}
use Rattle.ps_base.specs.declared.trap.Trap.TheVariants.{Substring, TooLong, NoInput}

-- what an operation does: it yields this, or it ends in a trap
pub data Attempt (A : Type 0) : Type 0 where
  Yields : (of : A) → Attempt A
  Fails : (trap : Trap) → Attempt A

-- a string has at most `most_string_bytes` bytes
abbrev pub is_string : List ℕ → Bool
is_string bytes = nat_lt (length bytes) (most_string_bytes + 1)

-- one text after the other, where together they are no longer than a string may be
abbrev pub join_of : List ℕ → List ℕ → Attempt (List ℕ)
join_of a b = if is_string (a ++ b) then Yields (a ++ b) else Fails TooLong

-- The part of a text that begins at a place, counted from 1, and has so many bytes. It lies within the text; one without bytes may stand
-- after its end.
abbrev pub part_of : List ℕ → ℤ → ℤ → Attempt (List ℕ)
part_of text (pos (suc before)) (pos count) =
    if nat_lt (length text) (before + count) then Fails Substring else Yields (take count (drop before text))
part_of text from count = Fails Substring

-- Texts are compared byte by byte: the first difference decides, and a proper prefix is less.
abbrev pub order_of : List ℕ → List ℕ → Ordering
order_of a b = slice_cmp nat_cmp a b

abbrev pub is_same_text : List ℕ → List ℕ → Bool
is_same_text a b = is_eq (order_of a b)

-- The first line of an input: the bytes before its first newline, or all of them.
unfoldable pub line_of : List ℕ → List ℕ
line_of [] = []
line_of (byte ∷ bytes) = if nat_eq byte 10 then [] else byte ∷ line_of bytes

-- what stands after that line and its newline
unfoldable pub behind_line : List ℕ → List ℕ
behind_line [] = []
behind_line (byte ∷ bytes) = if nat_eq byte 10 then bytes else behind_line bytes

-- a text that is a string
abbrev pub string_of : List ℕ → Attempt (List ℕ)
string_of bytes = if is_string bytes then Yields bytes else Fails TooLong

-- the line that an input begins with; where nothing is left there is none
unfoldable pub line_read : List ℕ → Attempt (List ℕ)
line_read [] = Fails NoInput
line_read (byte ∷ bytes) = string_of (line_of (byte ∷ bytes))

abbrev pub is_at_end : List ℕ → Bool
is_at_end [] = true
is_at_end (byte ∷ bytes) = false

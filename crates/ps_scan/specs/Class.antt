-- How a single byte is read, outside a string, inside one, and in an int.
use Rattle.std.specs.Prelude.{ℕ, ◌+◌, ◌-◌, ◌*◌, ◌==◌, Bool, ◌||◌, List, Option, Some, None, fold, nat_le, ◌&&◌, if◌then◌else◌}
use Rattle.std.specs.Char.{is_ascii_alphabetic, is_ascii_alphanumeric, is_ascii_digit}
use Rattle.ps_scan.specs.declared.class.Class.{Class}
use Rattle.ps_scan.specs.declared.class.Class.TheVariants.{Blank, Comment, Letter, Digit}
use Rattle.ps_scan.specs.declared.class.Inner.{Inner}
use Rattle.ps_scan.specs.declared.class.Inner.TheVariants.{Plain, Apostrophe}

-- a newline is 10; the other blanks are space, tab and carriage return; `!` is 33, a quote is 34
unfoldable pub class_of : ℕ → Class
class_of byte =
    if byte == 10 then Class.Newline
    else (if byte == 32 || byte == 9 || byte == 13 then Blank
    else (if byte == 33 then Comment
    else (if is_ascii_alphabetic byte then Letter
    else (if is_ascii_digit byte then Digit
    else (if byte == 34 then Class.Quote
    else Class.Other)))))

-- a letter, a digit or a dot
unfoldable pub is_name_byte : ℕ → Bool
is_name_byte byte = is_ascii_alphanumeric byte || byte == 46

-- inside a string 32 to 126 stand for themselves, but for a quote and an apostrophe, 39
unfoldable pub inner_of : ℕ → Inner
inner_of byte =
    if byte == 10 then Inner.Newline
    else (if byte == 34 then Inner.Quote
    else (if byte == 39 then Apostrophe
    else (if nat_le 32 byte && nat_le byte 126 then Plain
    else Inner.Other)))

-- what an apostrophe and this byte spell: 'n a newline, 't a tab, '' an apostrophe, '" a quote
unfoldable pub escaped : ℕ → Option ℕ
escaped byte =
    if byte == 110 then Some 10
    else (if byte == 116 then Some 9
    else (if byte == 39 then Some 39
    else (if byte == 34 then Some 34
    else None)))

-- the number that decimal digits write, where 48 is the digit 0
abbrev pub decimal : List ℕ → ℕ
decimal digits = fold (λ value digit. 10 * value + (digit - 48)) 0 digits

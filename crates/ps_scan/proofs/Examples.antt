-- The definitions on small texts.
use Rattle.std.proofs.Common.{◌≡◌, ℕ, List, [], ◌∷◌, ◌++◌, refl, codes, replicate, map, Some, None}
use Rattle.std.specs.List.{range_with_len}
use Rattle.ps_scan.specs.declared.fault.ScanFault.TheVariants.{BadByte, OpenString, IntTooLarge, BadEscape, NameTooLong, StringTooLong}
use Rattle.ps_scan.specs.declared.token.TokenKind.TheVariants.{Name, Int, Text, Word, Mark}
use Rattle.ps_scan.specs.Class.{class_of, is_name_byte, inner_of, escaped}
use Rattle.ps_scan.specs.Names.{word_place, mark_place}
use Rattle.ps_scan.specs.Piece.{bytes_of, spells, quoted, behind_apostrophe, word_or_name, int, string, mark, piece_of, first_piece}
use Rattle.ps_scan.specs.Tokens.{line_of, token_at, Scans, Stops, HasTokens, HasFault, int_value, spelled}

-- `write 1 + 2, "'n" ?`
write_sum : List ℕ
write_sum = codes "write 1 + 2, " ++ (34 ∷ 39 ∷ 110 ∷ 34 ∷ 32 ∷ 63 ∷ [])

write_sum_tokens : HasTokens write_sum (token_at (Word 35) 1 0 5 ∷ token_at Int 1 6 1 ∷ token_at (Mark 18) 1 8 1 ∷ token_at Int 1 10 1 ∷ token_at (Mark 6) 1 11 1 ∷ token_at Text 1 13 4 ∷ token_at (Mark 24) 1 18 1 ∷ [])
unfolding write_sum class_of is_name_byte inner_of escaped spells quoted behind_apostrophe word_or_name int string mark piece_of first_piece
write_sum_tokens =
    Scans.past_token refl (Scans.past_blank refl (Scans.past_token refl (Scans.past_blank refl (Scans.past_token refl (Scans.past_blank refl (Scans.past_token refl (Scans.past_token refl (Scans.past_blank refl (Scans.past_token refl (Scans.past_blank refl (Scans.past_token refl (Scans.at_end refl))))))))))))

-- the string that it writes is a newline
write_sum_string : spelled write_sum (token_at Text 1 13 4) ≡ 10 ∷ []
unfolding write_sum spells quoted behind_apostrophe inner_of escaped bytes_of
write_sum_string = refl

-- `let a := 6; a`
becomes : HasTokens (codes "let a := 6; a") (token_at (Word 17) 1 0 3 ∷ token_at Name 1 4 1 ∷ token_at (Mark 10) 1 6 2 ∷ token_at Int 1 9 1 ∷ token_at (Mark 7) 1 10 1 ∷ token_at Name 1 12 1 ∷ [])
unfolding class_of is_name_byte inner_of escaped spells quoted behind_apostrophe word_or_name int string mark piece_of first_piece
becomes =
    Scans.past_token refl (Scans.past_blank refl (Scans.past_token refl (Scans.past_blank refl (Scans.past_token refl (Scans.past_blank refl (Scans.past_token refl (Scans.past_token refl (Scans.past_blank refl (Scans.past_token refl (Scans.at_end refl))))))))))

-- `12ab` is an int, then a name; a newline is counted
second_line : HasTokens (codes "12ab" ++ (10 ∷ codes "42")) (token_at Int 1 0 2 ∷ token_at Name 1 2 2 ∷ token_at Int 2 5 2 ∷ [])
unfolding class_of is_name_byte inner_of escaped spells quoted behind_apostrophe word_or_name int string mark piece_of first_piece
second_line = Scans.past_token refl (Scans.past_token refl (Scans.past_newline refl (Scans.past_token refl (Scans.at_end refl))))

second_line_value : int_value (codes "12ab" ++ (10 ∷ codes "42")) (token_at Int 2 5 2) ≡ 42
second_line_value = refl

-- a byte that begins no token, on the second line
bad_byte : HasFault (10 ∷ codes "1 $") (BadByte (line_of 2) 36)
unfolding class_of is_name_byte inner_of escaped spells quoted behind_apostrophe word_or_name int string mark piece_of first_piece
bad_byte = Stops.past_newline refl (Stops.past_token refl (Stops.past_blank refl (Stops.at_fault refl)))

-- the longest mark is taken, three times
colons : HasTokens (codes ":::=") (token_at (Mark 9) 1 0 2 ∷ token_at (Mark 10) 1 2 2 ∷ [])
unfolding class_of is_name_byte inner_of escaped spells quoted behind_apostrophe word_or_name int string mark piece_of first_piece
colons = Scans.past_token refl (Scans.past_token refl (Scans.at_end refl))

-- a comment goes up to the next newline, whatever bytes it has; two that end a text
comments : HasTokens (codes "1!" ++ (200 ∷ 0 ∷ 34 ∷ 10 ∷ codes "2 !!")) (token_at Int 1 0 1 ∷ token_at Int 2 6 1 ∷ [])
unfolding class_of is_name_byte inner_of escaped spells quoted behind_apostrophe word_or_name int string mark piece_of first_piece
comments =
    Scans.past_token refl (Scans.past_comment refl (Scans.past_newline refl (Scans.past_token refl (Scans.past_blank refl (Scans.past_comment refl (Scans.at_end refl))))))

-- a string that a newline cuts off
open_string : HasFault (34 ∷ (codes "ab" ++ 10 ∷ [])) (OpenString (line_of 1))
unfolding class_of is_name_byte inner_of escaped spells quoted behind_apostrophe word_or_name int string mark piece_of first_piece
open_string = Stops.at_fault refl

-- an apostrophe as the last byte of a text, and before a newline
open_escape : HasFault (34 ∷ 39 ∷ []) (OpenString (line_of 1))
unfolding class_of is_name_byte inner_of escaped spells quoted behind_apostrophe word_or_name int string mark piece_of first_piece
open_escape = Stops.at_fault refl

bad_escape : HasFault (34 ∷ 39 ∷ 10 ∷ []) (BadEscape (line_of 1) 10)
unfolding class_of is_name_byte inner_of escaped spells quoted behind_apostrophe word_or_name int string mark piece_of first_piece
bad_escape = Stops.at_fault refl

-- in one string the first bad byte comes before what stays open
bad_byte_inside : HasFault (34 ∷ 7 ∷ 39 ∷ 120 ∷ []) (BadByte (line_of 1) 7)
unfolding class_of is_name_byte inner_of escaped spells quoted behind_apostrophe word_or_name int string mark piece_of first_piece
bad_byte_inside = Stops.at_fault refl

largest_int : HasTokens (codes "2147483647") (token_at Int 1 0 10 ∷ [])
unfolding class_of is_name_byte inner_of escaped spells quoted behind_apostrophe word_or_name int string mark piece_of first_piece
largest_int = Scans.past_token refl (Scans.at_end refl)

int_too_large : HasFault (codes "2147483648") (IntTooLarge (line_of 1))
unfolding class_of is_name_byte inner_of escaped spells quoted behind_apostrophe word_or_name int string mark piece_of first_piece
int_too_large = Stops.at_fault refl

longest_name : HasTokens (replicate 64 97) (token_at Name 1 0 64 ∷ [])
unfolding class_of is_name_byte inner_of escaped spells quoted behind_apostrophe word_or_name int string mark piece_of first_piece
longest_name = Scans.past_token refl (Scans.at_end refl)

name_too_long : HasFault (replicate 65 97) (NameTooLong (line_of 1) 65)
unfolding class_of is_name_byte inner_of escaped spells quoted behind_apostrophe word_or_name int string mark piece_of first_piece
name_too_long = Stops.at_fault refl

string_too_long : HasFault (34 ∷ (replicate 65536 97 ++ 34 ∷ [])) (StringTooLong (line_of 1) 65536)
unfolding class_of is_name_byte inner_of escaped spells quoted behind_apostrophe word_or_name int string mark piece_of first_piece
string_too_long = Stops.at_fault refl

-- the names of the reserved words and the marks, by their places
word_names : map word_place (codes "abort" ∷ codes "and" ∷ codes "begin" ∷ codes "bool" ∷ codes "by" ∷ codes "case" ∷ codes "default" ∷ codes "div" ∷ codes "do" ∷ codes "else" ∷ codes "end" ∷ codes "false" ∷ codes "for" ∷ codes "if" ∷ codes "int" ∷ codes "is" ∷ codes "isnt" ∷ codes "let" ∷ codes "lwb" ∷ codes "nil" ∷ codes "of" ∷ codes "or" ∷ codes "pntr" ∷ codes "proc" ∷ codes "procedure" ∷ codes "rem" ∷ codes "repeat" ∷ codes "string" ∷ codes "structure" ∷ codes "then" ∷ codes "to" ∷ codes "true" ∷ codes "upb" ∷ codes "vector" ∷ codes "while" ∷ codes "write" ∷ []) ≡ map Some (range_with_len 0 36)
word_names = refl

no_word : word_place (codes "lets") ≡ None
no_word = refl

mark_names : map mark_place (codes "(" ∷ codes ")" ∷ codes "[" ∷ codes "]" ∷ codes "{" ∷ codes "}" ∷ codes "," ∷ codes ";" ∷ codes ":" ∷ codes "::" ∷ codes ":=" ∷ codes "=" ∷ codes "~" ∷ codes "~=" ∷ codes "<" ∷ codes "<=" ∷ codes ">" ∷ codes ">=" ∷ codes "+" ∷ codes "-" ∷ codes "++" ∷ codes "*" ∷ codes "->" ∷ codes "@" ∷ codes "?" ∷ codes "|" ∷ []) ≡ map Some (range_with_len 0 26)
mark_names = refl

no_mark : mark_place (codes "-+") ≡ None
no_mark = refl

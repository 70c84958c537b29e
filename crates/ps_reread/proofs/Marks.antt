-- What may stand glued after a mark, and a mark after what.
use Rattle.std.proofs.Common.{◌≡◌, ℕ, ◌==◌, Bool, true, false, not, ◌&&◌, ◌||◌, IsTrue, List, [], ◌∷◌, ◌++◌, Option, Some, None, refl, sym, subst, arith}
use Rattle.std.specs.Option.{is_none}
use Rattle.std.specs.List.{list_all, list_any}
use Rattle.std.specs.Char.{is_ascii_digit, is_ascii_alphabetic}
use Rattle.std.proofs.lemmas.Bool.Decides.{nat_tests}
use Rattle.std.proofs.lemmas.List.Elements.{All-head}
use Rattle.ps_parse.specs.ps_scan.declared.mark.TheConstants.{OPEN_ROUND, CLOSE_ROUND, OPEN_SQUARE, CLOSE_SQUARE, OPEN_CURLY, CLOSE_CURLY, COMMA, SEMICOLON, COLON, DOUBLE_COLON, BECOMES, EQUALS, TILDE, NOT_EQUALS, LESS, LESS_OR_EQUAL, GREATER, GREATER_OR_EQUAL, PLUS, MINUS, CONCATENATE, TIMES, ARROW, AT, QUESTION, BAR}
use Rattle.ps_parse.specs.ps_scan.declared.token.TokenKind.{TokenKind}
use Rattle.ps_parse.specs.ps_scan.declared.token.TokenKind.TheVariants.{Name, Int, Text, Word, Mark}
use Rattle.ps_parse.specs.ps_scan.Class.{is_name_byte}
use Rattle.ps_parse.specs.ps_scan.Names.{marks, mark_place}
use Rattle.ps_parse.proofs.of_ps_scan.Named.{named_fails}
use Rattle.ps_parse.specs.ps_scan.Tokens.{IsSpelled}
use Rattle.ps_layout.specs.Lexemes.{Gap, nothing, blank, newline, Lexeme}
use Rattle.ps_reread.specs.Printable.{ends_before, first_passes, is_mark, may_follow_glued, may_follow}
use Rattle.ps_reread.proofs.Glued.{both, not_false}
use Rattle.ps_reread.proofs.Pieces.{word_begins, mark_name_is, spelled_nonempty}

-- after these marks each byte may stand
pub lone_marks : (byte : ℕ) → list_all (λ place. ends_before (Mark place) byte) (OPEN_ROUND ∷ CLOSE_ROUND ∷ OPEN_SQUARE ∷ CLOSE_SQUARE ∷ OPEN_CURLY ∷ CLOSE_CURLY ∷ COMMA ∷ SEMICOLON ∷ DOUBLE_COLON ∷ BECOMES ∷ EQUALS ∷ NOT_EQUALS ∷ LESS_OR_EQUAL ∷ GREATER_OR_EQUAL ∷ CONCATENATE ∷ TIMES ∷ ARROW ∷ AT ∷ QUESTION ∷ BAR ∷ []) ≡ true
lone_marks byte = refl

-- and after the others each but the second byte of a mark that begins so
pub colon_ends : (byte : ℕ) → (58 == byte) ≡ false → (61 == byte) ≡ false → ends_before (Mark COLON) byte ≡ true
colon_ends byte a b = rw (a, b) refl

pub tilde_ends : (byte : ℕ) → (61 == byte) ≡ false → ends_before (Mark TILDE) byte ≡ true
tilde_ends byte a = rw a refl

pub less_ends : (byte : ℕ) → (61 == byte) ≡ false → ends_before (Mark LESS) byte ≡ true
less_ends byte a = rw a refl

pub greater_ends : (byte : ℕ) → (61 == byte) ≡ false → ends_before (Mark GREATER) byte ≡ true
greater_ends byte a = rw a refl

pub plus_ends : (byte : ℕ) → (43 == byte) ≡ false → ends_before (Mark PLUS) byte ≡ true
plus_ends byte a = rw a refl

pub minus_ends : (byte : ℕ) → (62 == byte) ≡ false → ends_before (Mark MINUS) byte ≡ true
minus_ends byte a = rw a refl

-- no mark begins as a name or an int goes on
begins_apart : List ℕ → Bool
begins_apart spelling = first_passes (λ byte. not (is_name_byte byte)) spelling && first_passes (λ byte. not (is_ascii_digit byte)) spelling

marks_apart : list_any (λ name. not (begins_apart name)) marks ≡ false
unfolding begins_apart is_name_byte
marks_apart = refl

mark_apart : (spelling : List ℕ) (place : ℕ) → mark_place spelling ≡ Some place → begins_apart spelling ≡ true
mark_apart spelling place found = not_false (begins_apart spelling) (named_fails (λ n. not (begins_apart n)) marks spelling place marks_apart found)

-- so a mark may stand glued after a name, a word, an int and a string
first_of_any : (spelling : List ℕ) → first_passes (λ byte. true) spelling ≡ true
first_of_any [] = refl
first_of_any (byte ∷ bytes) = refl

pub mark_glued : (what : TokenKind) (spelling : List ℕ) (place : ℕ) → is_mark what ≡ false → mark_place spelling ≡ Some place → first_passes (ends_before what) spelling ≡ true
unfolding begins_apart
mark_glued Name spelling place other found = (both _ _ (mark_apart spelling place found)).0
mark_glued Int spelling place other found = (both _ _ (mark_apart spelling place found)).1
mark_glued Text spelling place other found = first_of_any spelling
mark_glued (Word word) spelling place other found = (both _ _ (mark_apart spelling place found)).0
mark_glued (Mark mark) spelling place other found = absurd (cc)

-- the second byte of each mark of two bytes is one of : = + >
is_second : ℕ → Bool
is_second byte = byte == 58 || byte == 61 || byte == 43 || byte == 62

has_second : List ℕ → Bool
has_second [] = true
has_second (byte ∷ []) = true
has_second (first ∷ second ∷ []) = is_second second
has_second (first ∷ second ∷ third ∷ more) = false

marks_have_seconds : list_any (λ name. not (has_second name)) marks ≡ false
unfolding has_second is_second
marks_have_seconds = refl

mark_has_second : (name : List ℕ) (place : ℕ) → mark_place name ≡ Some place → has_second name ≡ true
mark_has_second name place found = not_false (has_second name) (named_fails (λ n. not (has_second n)) marks name place marks_have_seconds found)

no_longer_mark : (name : List ℕ) (byte : ℕ) (place longer : ℕ) → mark_place name ≡ Some place → is_second byte ≡ false → mark_place (name ++ byte ∷ []) ≡ Some longer → ⊥
unfolding has_second
no_longer_mark [] byte place longer found other more = spelled_nonempty (Mark place) found
no_longer_mark (first ∷ []) byte place longer found other more = let has = mark_has_second (first ∷ byte ∷ []) longer more in cc
no_longer_mark (first ∷ second ∷ name) byte place longer found other more = three first second (name ++ byte ∷ []) byte longer (one_more name byte) more
  where
    one_more : (name : List ℕ) (byte : ℕ) → (name ++ byte ∷ []) ≡ [] → ⊥
    one_more [] byte none = cc
    one_more (x ∷ xs) byte none = cc

    three : (first second : ℕ) (rest : List ℕ) (byte longer : ℕ) → (rest ≡ [] → ⊥) → mark_place (first ∷ second ∷ rest) ≡ Some longer → ⊥
    three first second [] byte longer some more = some refl
    three first second (third ∷ rest) byte longer some more = let has = mark_has_second (first ∷ second ∷ third ∷ rest) longer more in cc

none_longer : (name : List ℕ) (byte place : ℕ) (longer : Option ℕ) → mark_place name ≡ Some place → is_second byte ≡ false → mark_place (name ++ byte ∷ []) ≡ longer → is_none longer ≡ true
none_longer name byte place None found other more = refl
none_longer name byte place (Some longer) found other more = absurd (no_longer_mark name byte place longer found other more)

mark_ends : (name : List ℕ) (place byte : ℕ) → mark_place name ≡ Some place → is_second byte ≡ false → ends_before (Mark place) byte ≡ true
mark_ends name place byte found other =
    subst (λ n. is_none (mark_place (n ++ byte ∷ [])) ≡ true) (sym (mark_name_is name place found)) (none_longer name byte place _ found other refl)

-- so a name, a word, an int and a string may stand glued after a mark
letter_no_second : (byte : ℕ) → is_ascii_alphabetic byte ≡ true → is_second byte ≡ false
unfolding is_second
letter_no_second byte first = grind (arith, nat_tests)

digit_no_second : (byte : ℕ) → is_ascii_digit byte ≡ true → is_second byte ≡ false
unfolding is_second
digit_no_second byte first = grind (arith, nat_tests)

quote_no_second : (byte : ℕ) → Some byte ≡ Some 34 → is_second byte ≡ false
unfolding is_second
quote_no_second byte first = let same : byte ≡ 34 = cc in rw same refl

pub token_glued : (name : List ℕ) (place : ℕ) (what : TokenKind) (spelling : List ℕ) → mark_place name ≡ Some place → is_mark what ≡ false → IsSpelled what spelling → first_passes (ends_before (Mark place)) spelling ≡ true
token_glued name place what [] found other is = refl
token_glued name place Name (byte ∷ bytes) found other is = mark_ends name place byte found (letter_no_second byte is.begins)
token_glued name place Int (byte ∷ bytes) found other is = mark_ends name place byte found (digit_no_second byte (All-head (λ b. is_ascii_digit b ≡ true) byte bytes is.digits))
token_glued name place Text (byte ∷ bytes) found other is = mark_ends name place byte found (quote_no_second byte is.begins)
token_glued name place (Word word) (byte ∷ bytes) found other is = mark_ends name place byte found (letter_no_second byte (word_begins byte bytes word is))
token_glued name place (Mark mark) (byte ∷ bytes) found other is = absurd (cc)

glued : (first : TokenKind) (its : List ℕ) (second : TokenKind) (others : List ℕ) → IsSpelled first its → IsSpelled second others → is_mark first ≡ not (is_mark second) → first_passes (ends_before first) others ≡ true
glued first its (Mark place) others one two differ = mark_glued first others place differ two
glued (Mark place) its second others one two differ = token_glued its place second others one (other_kind (is_mark second) differ) two
  where
    other_kind : (b : Bool) → true ≡ not b → b ≡ false
    other_kind true e = e
    other_kind false e = refl
glued first its second others one two differ = absurd (cc)

over_gap : (gap : Gap) (first second : TokenKind) (its others : List ℕ) → IsSpelled first its → IsSpelled second others → is_mark first ≡ not (is_mark second) → may_follow_glued gap first others ≡ true
over_gap nothing first second its others one two differ = glued first its second others one two differ
over_gap blank first second its others one two differ = refl
over_gap (newline indent) first second its others one two differ = refl

-- where one of two is a mark, they may be glued
pub one_is_mark : (first second : Lexeme) → IsSpelled first.what first.spelling → IsSpelled second.what second.spelling → is_mark first.what ≡ not (is_mark second.what) → IsTrue (may_follow first second)
one_is_mark first second one two differ = over_gap second.gap first.what second.what first.spelling second.spelling one two differ

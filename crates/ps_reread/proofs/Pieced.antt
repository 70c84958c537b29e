-- Lexemes laid out one after the other: each is spelled as it should be, none changes the one before
-- it, and no `;` is read at a newline.
use Rattle.std.proofs.Common.{◌≡◌, ℕ, Bool, true, false, not, ◌&&◌, List, [], ◌∷◌, ◌++◌, Some, refl, sym, subst, ap, ◌∙◌}
use Rattle.std.proofs.lemmas.List.{append_assoc}
use Rattle.ps_parse.specs.ps_scan.declared.mark.TheConstants as mark
use Rattle.ps_parse.specs.ps_scan.declared.token.TokenKind.{TokenKind}
use Rattle.ps_parse.specs.ps_scan.declared.token.TokenKind.TheVariants.{Mark}
use Rattle.ps_parse.specs.ps_scan.Names.{mark_place}
use Rattle.ps_parse.specs.ps_scan.Tokens.{IsSpelled}
use Rattle.ps_layout.specs.ps_symbols.Kinds.{kind_of}
use Rattle.ps_layout.specs.ps_symbols.Newline.{can_end, can_continue}
use Rattle.ps_layout.specs.Lexemes.{Gap, nothing, blank, newline, Lexeme}
use Rattle.ps_reread.specs.Printable.{IsPrintable, is_mark, first_passes, may_follow, may_follow_glued, ends_before, neighbours_pass, mark_name}
use Rattle.ps_reread.specs.Lines.{goes_on, goes_on_over}
use Rattle.ps_reread.proofs.Marks.{mark_glued, token_glued}
use Rattle.ps_reread.proofs.Parts.{neighbours_cons, printable_cons, printable_none}
use Rattle.ps_reread.proofs.Pieces.{mark_name_is}

pub record Good (ls : List Lexeme) : Type 0 where
  pub printable : IsPrintable ls
  pub lines : neighbours_pass goes_on ls ≡ true

-- what a clause may begin with, and a primary
pub data Width : Type 0 where
  any : Width
  narrow : Width

pub data Starts : Width → TokenKind → Type 0 where
  no_mark : {width : Width} {what : TokenKind} → is_mark what ≡ false → Starts width what
  round : {width : Width} → Starts width (Mark mark.OPEN_ROUND)
  curly : {width : Width} → Starts width (Mark mark.OPEN_CURLY)
  elements : {width : Width} → Starts width (Mark mark.AT)
  tilde : Starts any (Mark mark.TILDE)
  plus : Starts any (Mark mark.PLUS)
  minus : Starts any (Mark mark.MINUS)
  times : Starts any (Mark mark.TIMES)

-- what a clause may end with
pub data Ends : TokenKind → Type 0 where
  no_mark : {what : TokenKind} → is_mark what ≡ false → Ends what
  round : Ends (Mark mark.CLOSE_ROUND)
  square : Ends (Mark mark.CLOSE_SQUARE)
  curly : Ends (Mark mark.CLOSE_CURLY)

-- the lexemes begin with this gap; where it is nothing, with what may begin so
pub data Begins : Width → Gap → List Lexeme → Type 0 where
  glued : {width : Width} {l : Lexeme} {ls : List Lexeme} → l.gap ≡ nothing → IsSpelled l.what l.spelling → Starts width l.what → Begins width nothing (l ∷ ls)
  apart : {width : Width} {l : Lexeme} {ls : List Lexeme} → l.gap ≡ blank → Begins width blank (l ∷ ls)
  below : {width : Width} {n : ℕ} {l : Lexeme} {ls : List Lexeme} → l.gap ≡ newline n → Begins width (newline n) (l ∷ ls)

-- a lexeme may stand before what begins so
pub data Admits (l : Lexeme) : Width → Gap → Type 0 where
  next : {width : Width} → Admits l width blank
  under : {width : Width} {n : ℕ} → can_end (kind_of l.what) ≡ false → Admits l width (newline n)
  close : {width : Width} → ((what : TokenKind) (spelling : List ℕ) → IsSpelled what spelling → Starts width what → first_passes (ends_before l.what) spelling ≡ true) → Admits l width nothing

-- what may stand after an end
pub record Follows (ls : List Lexeme) : Type 0 where
  pub free : (l : Lexeme) → Ends l.what → IsSpelled l.what l.spelling → first_passes (may_follow l) ls ≡ true
  pub over : (l : Lexeme) → Ends l.what → first_passes (goes_on l) ls ≡ true

-- lexemes that may stand before what follows an end, and those that may stand between
pub record Piece (width : Width) (gap : Gap) (ls : List Lexeme) : Type 0 where
  pub good : (tail : List Lexeme) → Good tail → Follows tail → Good (ls ++ tail)
  pub begins : (tail : List Lexeme) → Begins width gap (ls ++ tail)

pub record Rest (ls : List Lexeme) : Type 0 where
  pub good : (tail : List Lexeme) → Good tail → Follows tail → Good (ls ++ tail)
  pub follows : (tail : List Lexeme) → Follows tail → Follows (ls ++ tail)

pub good_nothing : Good []
unfolding neighbours_pass
good_nothing = record { printable = printable_none; lines = refl }

pub follows_nothing : Follows []
follows_nothing = record { free = λ l ends is. refl; over = λ l ends. refl }

pub good_cons : (l : Lexeme) (ls : List Lexeme) → IsSpelled l.what l.spelling → first_passes (may_follow l) ls ≡ true → first_passes (goes_on l) ls ≡ true → Good ls → Good (l ∷ ls)
good_cons l ls is free over rest = record { printable = printable_cons l ls is free rest.printable; lines = neighbours_cons goes_on l ls over rest.lines }

under_newline : (first second : TokenKind) → can_end (kind_of first) ≡ false → not (can_end (kind_of first) && not (can_continue (kind_of second))) ≡ true
under_newline first second is = ap (λ (b : Bool). not (b && not (can_continue (kind_of second)))) is

pub admitted_free : {width : Width} {gap : Gap} (l : Lexeme) (ls : List Lexeme) → Admits l width gap → Begins width gap ls → first_passes (may_follow l) ls ≡ true
admitted_free l ls next (apart {l = second} is) = ap (λ (g : Gap). may_follow_glued g l.what second.spelling) is
admitted_free l ls (under no_end) (below {l = second} is) = ap (λ (g : Gap). may_follow_glued g l.what second.spelling) is
admitted_free l ls (close admits) (glued {l = second} is spelled starts) = ap (λ (g : Gap). may_follow_glued g l.what second.spelling) is ∙ admits second.what second.spelling spelled starts

pub admitted_over : {width : Width} {gap : Gap} (l : Lexeme) (ls : List Lexeme) → Admits l width gap → Begins width gap ls → first_passes (goes_on l) ls ≡ true
admitted_over l ls next (apart {l = second} is) = ap (λ (g : Gap). goes_on_over g l.what second.what) is
admitted_over l ls (under no_end) (below {l = second} is) = ap (λ (g : Gap). goes_on_over g l.what second.what) is ∙ under_newline l.what second.what no_end
admitted_over l ls (close admits) (glued {l = second} is spelled starts) = ap (λ (g : Gap). goes_on_over g l.what second.what) is

good_as : {ls other : List Lexeme} → ls ≡ other → Good ls → Good other
good_as same = subst (λ (ls : List Lexeme). Good ls) same

begins_as : {width : Width} {gap : Gap} {ls other : List Lexeme} → ls ≡ other → Begins width gap ls → Begins width gap other
begins_as {width} {gap} same = subst (λ (ls : List Lexeme). Begins width gap ls) same

follows_as : {ls other : List Lexeme} → ls ≡ other → Follows ls → Follows other
follows_as same = subst (λ (ls : List Lexeme). Follows ls) same

-- a lexeme begins so by itself
pub begins_with : {width : Width} (l : Lexeme) (ls : List Lexeme) → IsSpelled l.what l.spelling → Starts width l.what → (gap : Gap) → l.gap ≡ gap → Begins width gap (l ∷ ls)
begins_with l ls spelled starts nothing is = glued is spelled starts
begins_with l ls spelled starts blank is = apart is
begins_with l ls spelled starts (newline n) is = below is

-- a mark that is glued to an end
pub record Glues (l : Lexeme) : Type 0 where
  pub gap : l.gap ≡ nothing
  pub free : (what : TokenKind) (spelling : List ℕ) → Ends what → first_passes (ends_before what) l.spelling ≡ true
  pub spelled : IsSpelled l.what l.spelling

pub glued_follows : (l : Lexeme) (ls : List Lexeme) → Glues l → Follows (l ∷ ls)
glued_follows l ls glues = record { free = λ x ends is. ap (λ (g : Gap). may_follow_glued g x.what l.spelling) glues.gap ∙ glues.free x.what x.spelling ends; over = λ x ends. ap (λ (g : Gap). goes_on_over g x.what l.what) glues.gap }

blank_follows : (l : Lexeme) (ls : List Lexeme) → l.gap ≡ blank → Follows (l ∷ ls)
blank_follows l ls is = record { free = λ x ends spelled. ap (λ (g : Gap). may_follow_glued g x.what l.spelling) is; over = λ x ends. ap (λ (g : Gap). goes_on_over g x.what l.what) is }

-- nothing stands between
pub rest_nothing : Rest []
rest_nothing = record { good = λ tail good follows. good; follows = λ tail follows. follows }

-- one part, and what stands after its end
pub piece_then : {width : Width} {gap : Gap} {ls more : List Lexeme} → Piece width gap ls → Rest more → Piece width gap (ls ++ more)
piece_then {ls = ls} {more = more} piece rest = record { good = λ tail good follows. good_as (sym (append_assoc ls more tail)) (piece.good (more ++ tail) (rest.good tail good follows) (rest.follows tail follows)); begins = λ tail. begins_as (sym (append_assoc ls more tail)) (piece.begins (more ++ tail)) }

pub rest_then : {ls more : List Lexeme} → Rest ls → Rest more → Rest (ls ++ more)
rest_then {ls = ls} {more = more} one rest = record { good = λ tail good follows. good_as (sym (append_assoc ls more tail)) (one.good (more ++ tail) (rest.good tail good follows) (rest.follows tail follows)); follows = λ tail follows. follows_as (sym (append_assoc ls more tail)) (one.follows (more ++ tail) (rest.follows tail follows)) }

-- a lexeme, and a part that it admits
pub piece_word : {width inner : Width} {gap after : Gap} {ls : List Lexeme} (l : Lexeme) → IsSpelled l.what l.spelling → Starts width l.what → l.gap ≡ gap → Admits l inner after → Piece inner after ls → Piece width gap (l ∷ ls)
piece_word {gap = gap} {ls = ls} l spelled starts is admits piece = record { good = λ tail good follows. good_cons l (ls ++ tail) spelled (admitted_free l (ls ++ tail) admits (piece.begins tail)) (admitted_over l (ls ++ tail) admits (piece.begins tail)) (piece.good tail good follows); begins = λ tail. begins_with l (ls ++ tail) spelled starts gap is }

-- a lexeme that ends as well, and what stands after it
pub piece_leaf : {width : Width} {gap : Gap} {ls : List Lexeme} (l : Lexeme) → IsSpelled l.what l.spelling → Starts width l.what → Ends l.what → l.gap ≡ gap → Rest ls → Piece width gap (l ∷ ls)
piece_leaf {gap = gap} {ls = ls} l spelled starts ends is rest = record { good = λ tail good follows. let f = rest.follows tail follows in good_cons l (ls ++ tail) spelled (f.free l ends spelled) (f.over l ends) (rest.good tail good follows); begins = λ tail. begins_with l (ls ++ tail) spelled starts gap is }

-- a lexeme after an end, with a blank before it, and a part that it admits
pub rest_word : {inner : Width} {after : Gap} {ls : List Lexeme} (l : Lexeme) → IsSpelled l.what l.spelling → l.gap ≡ blank → Admits l inner after → Piece inner after ls → Rest (l ∷ ls)
rest_word {ls = ls} l spelled is admits piece = record { good = λ tail good follows. good_cons l (ls ++ tail) spelled (admitted_free l (ls ++ tail) admits (piece.begins tail)) (admitted_over l (ls ++ tail) admits (piece.begins tail)) (piece.good tail good follows); follows = λ tail follows. blank_follows l (ls ++ tail) is }

-- a lexeme after an end, with a blank before it, that ends as well
pub rest_leaf : {ls : List Lexeme} (l : Lexeme) → IsSpelled l.what l.spelling → l.gap ≡ blank → Ends l.what → Rest ls → Rest (l ∷ ls)
rest_leaf {ls = ls} l spelled is ends rest = record { good = λ tail good follows. let f = rest.follows tail follows in good_cons l (ls ++ tail) spelled (f.free l ends spelled) (f.over l ends) (rest.good tail good follows); follows = λ tail follows. blank_follows l (ls ++ tail) is }

-- a mark glued to an end, and a part that it admits
pub rest_glued : {inner : Width} {after : Gap} {ls : List Lexeme} (l : Lexeme) → Glues l → Admits l inner after → Piece inner after ls → Rest (l ∷ ls)
rest_glued {ls = ls} l glues admits piece = record { good = λ tail good follows. good_cons l (ls ++ tail) glues.spelled (admitted_free l (ls ++ tail) admits (piece.begins tail)) (admitted_over l (ls ++ tail) admits (piece.begins tail)) (piece.good tail good follows); follows = λ tail follows. glued_follows l (ls ++ tail) glues }

-- a mark glued to an end, that ends as well
pub rest_close : {ls : List Lexeme} (l : Lexeme) → Glues l → Ends l.what → Rest ls → Rest (l ∷ ls)
rest_close {ls = ls} l glues ends rest = record { good = λ tail good follows. let f = rest.follows tail follows in good_cons l (ls ++ tail) glues.spelled (f.free l ends glues.spelled) (f.over l ends) (rest.good tail good follows); follows = λ tail follows. glued_follows l (ls ++ tail) glues }

-- which marks may be glued to an end, and admit everything that is glued to them
pub data Lone : ℕ → Type 0 where
  open_round : Lone mark.OPEN_ROUND
  close_round : Lone mark.CLOSE_ROUND
  close_square : Lone mark.CLOSE_SQUARE
  comma : Lone mark.COMMA
  semicolon : Lone mark.SEMICOLON
  double_colon : Lone mark.DOUBLE_COLON
  bar : Lone mark.BAR

pub data Prefix : ℕ → Type 0 where
  open_round : Prefix mark.OPEN_ROUND
  open_square : Prefix mark.OPEN_SQUARE
  open_curly : Prefix mark.OPEN_CURLY
  at_sign : Prefix mark.AT
  double_colon : Prefix mark.DOUBLE_COLON
  bar : Prefix mark.BAR
  times : Prefix mark.TIMES

passes_all : (test : ℕ → Bool) (bytes : List ℕ) → ((byte : ℕ) → test byte ≡ true) → first_passes test bytes ≡ true
passes_all test [] all = refl
passes_all test (byte ∷ bytes) all = all byte

prefix_free : {place : ℕ} → Prefix place → (byte : ℕ) → ends_before (Mark place) byte ≡ true
prefix_free Prefix.open_round byte = refl
prefix_free Prefix.open_square byte = refl
prefix_free Prefix.open_curly byte = refl
prefix_free Prefix.at_sign byte = refl
prefix_free Prefix.double_colon byte = refl
prefix_free Prefix.bar byte = refl
prefix_free Prefix.times byte = refl

pub prefix_admits : {width : Width} {place : ℕ} (gap : Gap) (spelling : List ℕ) → Prefix place → Admits (record { gap = gap; what = Mark place; spelling = spelling }) width nothing
prefix_admits {place = place} gap spelling is = close (λ what other spelled starts. passes_all (ends_before (Mark place)) other (prefix_free is))

ended_lone : {what : TokenKind} {place : ℕ} (name : List ℕ) → mark_place name ≡ Some place → Ends what → first_passes (ends_before what) name ≡ true
ended_lone {what} {place} name named (Ends.no_mark is) = mark_glued what name place is named
ended_lone name named Ends.round = passes_all (ends_before (Mark mark.CLOSE_ROUND)) name (λ byte. refl)
ended_lone name named Ends.square = passes_all (ends_before (Mark mark.CLOSE_SQUARE)) name (λ byte. refl)
ended_lone name named Ends.curly = passes_all (ends_before (Mark mark.CLOSE_CURLY)) name (λ byte. refl)

pub lone_glues : (place : ℕ) (name : List ℕ) → mark_place name ≡ Some place → Glues (record { gap = nothing; what = Mark place; spelling = name })
lone_glues place name named = record { gap = refl; free = λ what spelling ends. ended_lone name named ends; spelled = named }

-- a sign before a primary, and `~` before what it negates
mark_starts : (test : ℕ → Bool) (place : ℕ) (spelling : List ℕ) → mark_place spelling ≡ Some place → first_passes test (mark_name place) ≡ true → first_passes test spelling ≡ true
mark_starts test place spelling named passes = subst (λ (name : List ℕ). first_passes test name ≡ true) (mark_name_is spelling place named) passes

narrow_admitted : (place : ℕ) (name : List ℕ) → mark_place name ≡ Some place → first_passes (ends_before (Mark place)) (mark_name mark.OPEN_ROUND) ≡ true → first_passes (ends_before (Mark place)) (mark_name mark.OPEN_CURLY) ≡ true → first_passes (ends_before (Mark place)) (mark_name mark.AT) ≡ true → (what : TokenKind) (spelling : List ℕ) → IsSpelled what spelling → Starts narrow what → first_passes (ends_before (Mark place)) spelling ≡ true
narrow_admitted place name named r c e what spelling spelled (Starts.no_mark is) = token_glued name place what spelling named is spelled
narrow_admitted place name named r c e what spelling spelled Starts.round = mark_starts (ends_before (Mark place)) mark.OPEN_ROUND spelling spelled r
narrow_admitted place name named r c e what spelling spelled Starts.curly = mark_starts (ends_before (Mark place)) mark.OPEN_CURLY spelling spelled c
narrow_admitted place name named r c e what spelling spelled Starts.elements = mark_starts (ends_before (Mark place)) mark.AT spelling spelled e

pub plus_admits : (gap : Gap) → Admits (record { gap = gap; what = Mark mark.PLUS; spelling = 43 ∷ [] }) narrow nothing
plus_admits gap = close (narrow_admitted mark.PLUS (43 ∷ []) refl refl refl refl)

pub minus_admits : (gap : Gap) → Admits (record { gap = gap; what = Mark mark.MINUS; spelling = 45 ∷ [] }) narrow nothing
minus_admits gap = close (narrow_admitted mark.MINUS (45 ∷ []) refl refl refl refl)

tilde_admitted : (what : TokenKind) (spelling : List ℕ) → IsSpelled what spelling → Starts any what → first_passes (ends_before (Mark mark.TILDE)) spelling ≡ true
tilde_admitted what spelling spelled (Starts.no_mark is) = token_glued (126 ∷ []) mark.TILDE what spelling refl is spelled
tilde_admitted what spelling spelled Starts.round = mark_starts (ends_before (Mark mark.TILDE)) mark.OPEN_ROUND spelling spelled refl
tilde_admitted what spelling spelled Starts.curly = mark_starts (ends_before (Mark mark.TILDE)) mark.OPEN_CURLY spelling spelled refl
tilde_admitted what spelling spelled Starts.elements = mark_starts (ends_before (Mark mark.TILDE)) mark.AT spelling spelled refl
tilde_admitted what spelling spelled Starts.tilde = mark_starts (ends_before (Mark mark.TILDE)) mark.TILDE spelling spelled refl
tilde_admitted what spelling spelled Starts.plus = mark_starts (ends_before (Mark mark.TILDE)) mark.PLUS spelling spelled refl
tilde_admitted what spelling spelled Starts.minus = mark_starts (ends_before (Mark mark.TILDE)) mark.MINUS spelling spelled refl
tilde_admitted what spelling spelled Starts.times = mark_starts (ends_before (Mark mark.TILDE)) mark.TIMES spelling spelled refl

pub tilde_admits : (gap : Gap) → Admits (record { gap = gap; what = Mark mark.TILDE; spelling = 126 ∷ [] }) any nothing
tilde_admits gap = close tilde_admitted

-- what may begin a primary may begin a clause
pub wider : {what : TokenKind} → Starts narrow what → Starts any what
wider (Starts.no_mark is) = Starts.no_mark is
wider Starts.round = Starts.round
wider Starts.curly = Starts.curly
wider Starts.elements = Starts.elements

begins_wider : {gap : Gap} {ls : List Lexeme} → Begins narrow gap ls → Begins any gap ls
begins_wider (glued is spelled starts) = glued is spelled (wider starts)
begins_wider (apart is) = apart is
begins_wider (below is) = below is

pub piece_wider : {gap : Gap} {ls : List Lexeme} → Piece narrow gap ls → Piece any gap ls
piece_wider piece = record { good = piece.good; begins = λ tail. begins_wider (piece.begins tail) }

pub piece_as : {width : Width} {gap : Gap} {ls other : List Lexeme} → ls ≡ other → Piece width gap ls → Piece width gap other
piece_as {width} {gap} same = subst (λ (ls : List Lexeme). Piece width gap ls) same

pub rest_as : {ls other : List Lexeme} → ls ≡ other → Rest ls → Rest other
rest_as same = subst (λ (ls : List Lexeme). Rest ls) same

-- after a gap anything may begin a part
pub piece_apart : {inner : Width} {after : Gap} {ls : List Lexeme} (l : Lexeme) → IsSpelled l.what l.spelling → l.gap ≡ blank → Admits l inner after → Piece inner after ls → Piece any blank (l ∷ ls)
piece_apart {ls = ls} l spelled is admits piece = record { good = λ tail good follows. good_cons l (ls ++ tail) spelled (admitted_free l (ls ++ tail) admits (piece.begins tail)) (admitted_over l (ls ++ tail) admits (piece.begins tail)) (piece.good tail good follows); begins = λ tail. apart is }

pub piece_below : {n : ℕ} {ls : List Lexeme} (l : Lexeme) → IsSpelled l.what l.spelling → Ends l.what → l.gap ≡ newline n → Rest ls → Piece any (newline n) (l ∷ ls)
piece_below {ls = ls} l spelled ends is rest = record { good = λ tail good follows. let f = rest.follows tail follows in good_cons l (ls ++ tail) spelled (f.free l ends spelled) (f.over l ends) (rest.good tail good follows); begins = λ tail. below is }

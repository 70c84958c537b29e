-- A printed text is scanned as the tokens that its lexemes are meant to be.
use Rattle.std.proofs.Common.{◌≡◌, ℕ, zero, suc, ◌+◌, ◌-◌, Bool, true, List, [], ◌∷◌, ◌++◌, length, take, drop, replicate, refl, sym, ap, ◌∙◌, subst, arith, append_assoc}
use Rattle.std.specs.List.{AllByRecursion}
use Rattle.std.proofs.lemmas.List.{take_at, drop_at, drop-drop}
use Rattle.ps_parse.specs.ps_scan.declared.piece.Piece.{Piece}
use Rattle.ps_parse.specs.ps_scan.declared.piece.Piece.TheVariants.{End, Blank, Newline}
use Rattle.ps_parse.specs.ps_scan.declared.token.Token.{Token}
use Rattle.ps_parse.specs.ps_scan.declared.token.TokenKind.{TokenKind}
use Rattle.ps_parse.specs.ps_scan.Class.{class_of}
use Rattle.ps_parse.specs.ps_scan.Piece.{piece_of, first_piece}
use Rattle.ps_parse.specs.ps_scan.Tokens.{line_of, piece_at, token_at, slice_of, Scans, HasTokens, IsSpelled}
use Rattle.ps_layout.specs.Lexemes.{Gap, nothing, blank, newline, Lexeme, gap_bytes, text_of, printed}
use Rattle.ps_reread.specs.Printable.{gap_lines, tokens_of, ends_before, first_passes, may_follow_glued, may_follow, neighbours_pass, IsPrintable, AreSpelledBy}
use Rattle.ps_reread.proofs.Glued.{both}
use Rattle.ps_reread.proofs.Pieces.{token_here, spelled_nonempty, ends_before_blank, ends_before_newline}

-- the text after its first bytes
pub behind : (text : List ℕ) (at : ℕ) (xs ys : List ℕ) → drop at text ≡ xs ++ ys → drop (at + length xs) text ≡ ys
behind text at xs ys here = sym (drop-drop (length xs) at text) ∙ ap (drop (length xs)) here ∙ drop_at xs ys (length xs) refl

behind_one : (text : List ℕ) (at byte : ℕ) (ys : List ℕ) → drop at text ≡ byte ∷ ys → drop (at + 1) text ≡ ys
behind_one text at byte ys here = behind text at (byte ∷ []) ys here

-- single pieces
at_blank : (text : List ℕ) (at line : ℕ) (ys : List ℕ) → drop at text ≡ 32 ∷ ys → piece_at text at line ≡ Blank
unfolding first_piece piece_of class_of
at_blank text at line ys here = ap (first_piece (line_of line)) here

at_newline : (text : List ℕ) (at line : ℕ) (ys : List ℕ) → drop at text ≡ 10 ∷ ys → piece_at text at line ≡ Newline
unfolding first_piece piece_of class_of
at_newline text at line ys here = ap (first_piece (line_of line)) here

at_end : (text : List ℕ) (at line : ℕ) → drop at text ≡ [] → piece_at text at line ≡ End
unfolding first_piece
at_end text at line here = ap (first_piece (line_of line)) here

-- blanks, and so a gap, are passed
abbrev blanks : ℕ → List ℕ
blanks n = replicate n 32

blanks_pass : (text : List ℕ) (n at line : ℕ) (ys : List ℕ) (tokens : List Token) → drop at text ≡ blanks n ++ ys → Scans text (at + length (blanks n)) line tokens → Scans text at line tokens
blanks_pass text zero at line ys tokens here scans = subst (λ k. Scans text k line tokens) (omega arith) scans
blanks_pass text (suc n) at line ys tokens here scans =
    Scans.past_blank (at_blank text at line (replicate n 32 ++ ys) here)
    (blanks_pass text n (at + 1) line ys tokens (behind_one text at 32 (replicate n 32 ++ ys) here) (subst (λ k. Scans text k line tokens) (omega arith) scans))

pub gap_passes : (text : List ℕ) (gap : Gap) (at line : ℕ) (ys : List ℕ) (tokens : List Token) → drop at text ≡ gap_bytes gap ++ ys → Scans text (at + length (gap_bytes gap)) (line + gap_lines gap) tokens → Scans text at line tokens
gap_passes text nothing at line ys tokens here scans =
    subst (λ k. Scans text k line tokens) (omega arith) (subst (λ l. Scans text (at + length (gap_bytes nothing)) l tokens) (omega arith) scans)
gap_passes text blank at line ys tokens here scans =
    Scans.past_blank (at_blank text at line ys here) (subst (λ l. Scans text (at + 1) l tokens) (omega arith) scans)
gap_passes text (newline indent) at line ys tokens here scans =
    Scans.past_newline (at_newline text at line (replicate indent 32 ++ ys) here)
    (blanks_pass text indent (at + 1) (line + 1) ys tokens (behind_one text at 10 (replicate indent 32 ++ ys) here) (subst (λ k. Scans text k (line + 1) tokens) (omega arith) scans))

-- what comes first decides
first_append : (test : ℕ → Bool) (xs ys : List ℕ) → (xs ≡ [] → ⊥) → first_passes test xs ≡ true → first_passes test (xs ++ ys) ≡ true
first_append test [] ys some pass = absurd (some refl)
first_append test (x ∷ xs) ys some pass = pass

next_ends : (what : TokenKind) (gap : Gap) (spelling more : List ℕ) → (spelling ≡ [] → ⊥) → may_follow_glued gap what spelling ≡ true → first_passes (ends_before what) ((gap_bytes gap ++ (spelling ++ more)) ++ 10 ∷ []) ≡ true
next_ends what nothing spelling more some ok =
    subst (λ t. first_passes (ends_before what) t ≡ true) (sym (append_assoc spelling more (10 ∷ []))) (first_append (ends_before what) spelling (more ++ 10 ∷ []) some ok)
next_ends what blank spelling more some ok = ends_before_blank what
next_ends what (newline indent) spelling more some ok = ends_before_newline what

some_bytes : (what : TokenKind) (spelling : List ℕ) → IsSpelled what spelling → spelling ≡ [] → ⊥
some_bytes what spelling is none = spelled_nonempty what (subst (IsSpelled what) none is)

-- a lexeme ends where the text goes on with the next, which may follow it
ends_here : (lexeme : Lexeme) (lexemes : List Lexeme) → AllByRecursion (λ l. IsSpelled l.what l.spelling) lexemes → first_passes (may_follow lexeme) lexemes ≡ true → first_passes (ends_before lexeme.what) (text_of lexemes ++ 10 ∷ []) ≡ true
unfolding text_of
ends_here lexeme [] spelled follows = ends_before_newline lexeme.what
ends_here lexeme (next ∷ lexemes) spelled follows =
    next_ends lexeme.what next.gap next.spelling (text_of lexemes) (some_bytes next.what next.spelling spelled.0) follows

-- a lexeme, and those after it
pub text_behind : (text : List ℕ) (at : ℕ) (lexeme : Lexeme) (lexemes : List Lexeme) (tail : List ℕ) → drop at text ≡ text_of (lexeme ∷ lexemes) ++ tail → drop at text ≡ gap_bytes lexeme.gap ++ (lexeme.spelling ++ (text_of lexemes ++ tail))
unfolding text_of
text_behind text at lexeme lexemes tail here =
    here ∙ append_assoc (gap_bytes lexeme.gap) (lexeme.spelling ++ text_of lexemes) tail ∙ ap (λ t. gap_bytes lexeme.gap ++ t) (append_assoc lexeme.spelling (text_of lexemes) tail)

neighbours_next : (lexeme : Lexeme) (lexemes : List Lexeme) → neighbours_pass may_follow (lexeme ∷ lexemes) ≡ true → (first_passes (may_follow lexeme) lexemes ≡ true) × (neighbours_pass may_follow lexemes ≡ true)
unfolding neighbours_pass
neighbours_next lexeme lexemes pass = both (first_passes (may_follow lexeme) lexemes) (neighbours_pass may_follow lexemes) pass

scans_from : (text : List ℕ) (at line : ℕ) (lexemes : List Lexeme) → drop at text ≡ text_of lexemes ++ 10 ∷ [] → AllByRecursion (λ l. IsSpelled l.what l.spelling) lexemes → neighbours_pass may_follow lexemes ≡ true → Scans text at line (tokens_of at line lexemes)
unfolding text_of tokens_of
scans_from text at line [] here spelled apart =
    Scans.past_newline (at_newline text at line [] here) (Scans.at_end (at_end text (at + 1) (line + 1) (behind_one text at 10 [] here)))
scans_from text at line (lexeme ∷ lexemes) here spelled apart =
    let from = at + length (gap_bytes lexeme.gap) in
    let parts = neighbours_next lexeme lexemes apart in
    let rest = text_of lexemes ++ 10 ∷ [] in
    let there = text_behind text at lexeme lexemes (10 ∷ []) here in
    let at_token : drop from text ≡ lexeme.spelling ++ rest = behind text at (gap_bytes lexeme.gap) (lexeme.spelling ++ rest) there in
    let line_here = line + gap_lines lexeme.gap in
    let piece : piece_at text from line_here ≡ Piece.Token lexeme.what (length lexeme.spelling) = ap (first_piece (line_of line_here)) at_token ∙ token_here (line_of line_here) lexeme.what lexeme.spelling rest spelled.0 (ends_here lexeme lexemes spelled.1 parts.0) in
    gap_passes text lexeme.gap at line (lexeme.spelling ++ rest) _ there
    (Scans.past_token piece (scans_from text (from + length lexeme.spelling) line_here lexemes (behind text from lexeme.spelling rest at_token) spelled.1 parts.1))

pub printed_scans : (lexemes : List Lexeme) → IsPrintable lexemes → HasTokens (printed lexemes) (tokens_of 0 1 lexemes)
unfolding tokens_of
printed_scans [] is = Scans.at_end (at_end [] 0 1 refl)
printed_scans (lexeme ∷ lexemes) is = scans_from (printed (lexeme ∷ lexemes)) 0 1 (lexeme ∷ lexemes) refl is.spelled is.apart

-- the bytes of each token
pub slice_here : (text : List ℕ) (at line : ℕ) (what : TokenKind) (spelling rest : List ℕ) → drop at text ≡ spelling ++ rest → slice_of text (token_at what line at (length spelling)) ≡ spelling
slice_here text at line what spelling rest here =
    let size : at + length spelling - at ≡ length spelling = omega arith in
    ap (λ n. take n (drop at text)) size ∙ ap (take (length spelling)) here ∙ take_at spelling rest (length spelling) refl

spelled_from : (text : List ℕ) (at line : ℕ) (lexemes : List Lexeme) (tail : List ℕ) → drop at text ≡ text_of lexemes ++ tail → AreSpelledBy text (tokens_of at line lexemes) lexemes
unfolding tokens_of
spelled_from text at line [] tail here = tt
spelled_from text at line (lexeme ∷ lexemes) tail here =
    let from = at + length (gap_bytes lexeme.gap) in
    let rest = text_of lexemes ++ tail in
    let there = text_behind text at lexeme lexemes tail here in
    let at_token : drop from text ≡ lexeme.spelling ++ rest = behind text at (gap_bytes lexeme.gap) (lexeme.spelling ++ rest) there in
    (slice_here text from (line + gap_lines lexeme.gap) lexeme.what lexeme.spelling rest at_token, refl, spelled_from text (from + length lexeme.spelling) (line + gap_lines lexeme.gap) lexemes tail (behind text from lexeme.spelling rest at_token))

pub printed_spelled : (lexemes : List Lexeme) → AreSpelledBy (printed lexemes) (tokens_of 0 1 lexemes) lexemes
unfolding tokens_of
printed_spelled [] = tt
printed_spelled (lexeme ∷ lexemes) = spelled_from (printed (lexeme ∷ lexemes)) 0 1 (lexeme ∷ lexemes) (10 ∷ []) refl

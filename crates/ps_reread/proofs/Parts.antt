-- The parts of a printed text: what is so of two lists of lexemes is so of both after one another.
use Rattle.std.proofs.Common.{◌≡◌, ℕ, zero, suc, ◌+◌, Bool, true, false, ◌&&◌, IsTrue, List, [], ◌∷◌, ◌++◌, length, drop, Some, refl, sym, ap, ◌∙◌, arith, append_assoc, length-append, slice_get}
use Rattle.std.specs.List.{AllByRecursion}
use Rattle.std.proofs.lemmas.List.{drop_at}
use Rattle.std.proofs.lemmas.List.Sums.{sum_by-cons}
use Rattle.ps_parse.specs.ps_scan.declared.token.Token.{Token}
use Rattle.ps_parse.specs.ps_scan.Tokens.{token_at, slice_of, IsSpelled}
use Rattle.ps_layout.specs.Lexemes.{Lexeme, gap_bytes, text_of, printed}
use Rattle.ps_reread.specs.Printable.{gap_lines, tokens_of, first_passes, may_follow, neighbours_pass, last_passes, lines_of, token_behind, IsPrintable, AreSpelledBy}
use Rattle.ps_layout.proofs.Printing.{printed_is}
use Rattle.ps_reread.proofs.Glued.{both}
use Rattle.ps_reread.proofs.Texts.{behind, text_behind, slice_here, printed_spelled}

text_append : (front back : List Lexeme) → text_of (front ++ back) ≡ text_of front ++ text_of back
unfolding text_of
text_append [] back = refl
text_append (lexeme ∷ front) back =
    ap (λ t. gap_bytes lexeme.gap ++ (lexeme.spelling ++ t)) (text_append front back)
    ∙ ap (λ t. gap_bytes lexeme.gap ++ t) (sym (append_assoc lexeme.spelling (text_of front) (text_of back)))
    ∙ sym (append_assoc (gap_bytes lexeme.gap) (lexeme.spelling ++ text_of front) (text_of back))

text_length : (lexeme : Lexeme) (lexemes : List Lexeme) → length (text_of (lexeme ∷ lexemes)) ≡ length (gap_bytes lexeme.gap) + length lexeme.spelling + length (text_of lexemes)
unfolding text_of
text_length lexeme lexemes = omega (arith, length-append (gap_bytes lexeme.gap) (lexeme.spelling ++ text_of lexemes), length-append lexeme.spelling (text_of lexemes))

lines_cons : (lexeme : Lexeme) (lexemes : List Lexeme) → lines_of (lexeme ∷ lexemes) ≡ gap_lines lexeme.gap + lines_of lexemes
lines_cons lexeme lexemes = sum_by-cons (λ l. gap_lines l.gap) lexeme lexemes

none_length : length (text_of []) ≡ 0
unfolding text_of
none_length = refl

-- the tokens after others
pub tokens_append : (at line : ℕ) (front back : List Lexeme) → tokens_of at line (front ++ back) ≡ tokens_of at line front ++ tokens_of (at + length (text_of front)) (line + lines_of front) back
unfolding tokens_of
tokens_append at line [] back =
    let start : at ≡ at + length (text_of []) = omega (arith, none_length) in
    let first : line ≡ line + lines_of [] = omega arith in
    ap (λ k. tokens_of k line back) start ∙ ap (λ l. tokens_of (at + length (text_of [])) l back) first
tokens_append at line (lexeme ∷ front) back =
    let from = at + length (gap_bytes lexeme.gap) in
    let here = line + gap_lines lexeme.gap in
    let place : from + length lexeme.spelling + length (text_of front) ≡ at + length (text_of (lexeme ∷ front)) = omega (arith, text_length lexeme front) in
    let lines : here + lines_of front ≡ line + lines_of (lexeme ∷ front) = omega (arith, lines_cons lexeme front) in
    ap (λ ts. token_at lexeme.what here from (length lexeme.spelling) ∷ ts)
    (tokens_append (from + length lexeme.spelling) here front back
    ∙ ap (λ k. tokens_of (from + length lexeme.spelling) here front ++ tokens_of k (here + lines_of front) back) place
    ∙ ap (λ l. tokens_of (from + length lexeme.spelling) here front ++ tokens_of (at + length (text_of (lexeme ∷ front))) l back) lines)

first_token : (front : List Lexeme) (lexeme : Lexeme) (back : List Lexeme) → tokens_of (0 + length (text_of front)) (1 + lines_of front) (lexeme ∷ back) ≡ token_behind front lexeme ∷ tokens_of (length (text_of front) + length (gap_bytes lexeme.gap) + length lexeme.spelling) (1 + lines_of front + gap_lines lexeme.gap) back
unfolding tokens_of
first_token front lexeme back =
    let start : 0 + length (text_of front) ≡ length (text_of front) = omega arith in
    ap (λ k. tokens_of k (1 + lines_of front) (lexeme ∷ back)) start

-- the token of a lexeme between others
pub token_between : (front : List Lexeme) (lexeme : Lexeme) (back : List Lexeme) → (tokens : List Token) × (tokens_of 0 1 (front ++ lexeme ∷ back) ≡ tokens_of 0 1 front ++ token_behind front lexeme ∷ tokens)
token_between front lexeme back = (_, tokens_append 0 1 front (lexeme ∷ back) ∙ ap (λ ts. tokens_of 0 1 front ++ ts) (first_token front lexeme back))

pub slice_between : (front : List Lexeme) (lexeme : Lexeme) (back : List Lexeme) → slice_of (printed (front ++ lexeme ∷ back)) (token_behind front lexeme) ≡ lexeme.spelling
slice_between front lexeme back =
    let text = printed (front ++ lexeme ∷ back) in
    let whole : text ≡ text_of front ++ (text_of (lexeme ∷ back) ++ 10 ∷ []) = printed_is front lexeme back ∙ ap (λ t. t ++ 10 ∷ []) (text_append front (lexeme ∷ back)) ∙ append_assoc (text_of front) (text_of (lexeme ∷ back)) (10 ∷ []) in
    let at = length (text_of front) in
    let here : drop at text ≡ text_of (lexeme ∷ back) ++ 10 ∷ [] = ap (drop at) whole ∙ drop_at (text_of front) (text_of (lexeme ∷ back) ++ 10 ∷ []) at refl in
    let rest = text_of back ++ 10 ∷ [] in
    let at_token = behind text at (gap_bytes lexeme.gap) (lexeme.spelling ++ rest) (text_behind text at lexeme back (10 ∷ []) here) in
    slice_here text (at + length (gap_bytes lexeme.gap)) (1 + lines_of front + gap_lines lexeme.gap) lexeme.what lexeme.spelling rest at_token

-- as many tokens as lexemes
pub tokens_count : (at line : ℕ) (lexemes : List Lexeme) → length (tokens_of at line lexemes) ≡ length lexemes
unfolding tokens_of
tokens_count at line [] = refl
tokens_count at line (lexeme ∷ lexemes) =
    ap suc (tokens_count (at + length (gap_bytes lexeme.gap) + length lexeme.spelling) (line + gap_lines lexeme.gap) lexemes)

get_between : {A : Type 0} (xs : List A) (y : A) (ys : List A) → slice_get (xs ++ y ∷ ys) (length xs) ≡ Some y
get_between [] y ys = refl
get_between (x ∷ xs) y ys = get_between xs y ys

pub get_token_between : (front : List Lexeme) (lexeme : Lexeme) (back : List Lexeme) → slice_get (tokens_of 0 1 (front ++ lexeme ∷ back)) (length front) ≡ Some (token_behind front lexeme)
get_token_between front lexeme back =
    let parts = token_between front lexeme back in
    let tokens = tokens_of 0 1 front in
    ap (λ ts. slice_get ts (length front)) parts.1
    ∙ ap (slice_get (tokens ++ token_behind front lexeme ∷ parts.0)) (sym (tokens_count 0 1 front))
    ∙ get_between tokens (token_behind front lexeme) parts.0

-- the token of this number
spelled_get : (text : List ℕ) (tokens : List Token) (lexemes : List Lexeme) (k : ℕ) (lexeme : Lexeme) → AreSpelledBy text tokens lexemes → slice_get lexemes k ≡ Some lexeme → (token : Token) × (slice_get tokens k ≡ Some token) × (slice_of text token ≡ lexeme.spelling) × (token.what ≡ lexeme.what)
spelled_get text [] [] k lexeme are at = absurd (cc)
spelled_get text [] (first ∷ lexemes) k lexeme are at = absurd are
spelled_get text (token ∷ tokens) [] k lexeme are at = absurd are
spelled_get text (token ∷ tokens) (first ∷ lexemes) zero lexeme are at =
    let same : first ≡ lexeme = cc in
    (token, refl, are.0 ∙ ap (λ (l : Lexeme). l.spelling) same, are.1 ∙ ap (λ (l : Lexeme). l.what) same)
spelled_get text (token ∷ tokens) (first ∷ lexemes) (suc k) lexeme are at = spelled_get text tokens lexemes k lexeme are.2 at

pub token_numbered : (lexemes : List Lexeme) (k : ℕ) (lexeme : Lexeme) → slice_get lexemes k ≡ Some lexeme → (token : Token) × (slice_get (tokens_of 0 1 lexemes) k ≡ Some token) × (slice_of (printed lexemes) token ≡ lexeme.spelling) × (token.what ≡ lexeme.what)
token_numbered lexemes k lexeme at = spelled_get (printed lexemes) (tokens_of 0 1 lexemes) lexemes k lexeme (printed_spelled lexemes) at

-- two tests in a row
both_pass : (a b : Bool) → a ≡ true → b ≡ true → (a && b) ≡ true
both_pass true b p q = q
both_pass false b p q = absurd (cc)

-- neighbours in two lists, and where they meet
pub neighbours_append : {A : Type 0} (test : A → A → Bool) (front back : List A) → neighbours_pass test front ≡ true → neighbours_pass test back ≡ true → last_passes (λ x. first_passes (test x) back) front ≡ true → neighbours_pass test (front ++ back) ≡ true
unfolding neighbours_pass last_passes
neighbours_append test [] back one two meet = two
neighbours_append test (x ∷ []) back one two meet = both_pass (first_passes (test x) back) (neighbours_pass test back) meet two
neighbours_append test (x ∷ y ∷ front) back one two meet =
    let parts = both (test x y) (neighbours_pass test (y ∷ front)) one in
    both_pass (test x y) (neighbours_pass test ((y ∷ front) ++ back)) parts.0 (neighbours_append test (y ∷ front) back parts.1 two meet)

-- the last of two lists is the last of the second, if that isn't empty
pub last_append : {A : Type 0} (test : A → Bool) (front : List A) (x : A) (back : List A) → last_passes test (front ++ x ∷ back) ≡ last_passes test (x ∷ back)
unfolding last_passes
last_append test [] x back = refl
last_append test (y ∷ []) x back = refl
last_append test (y ∷ z ∷ front) x back = last_append test (z ∷ front) x back

all_append : {A : Type 0} (P : A → Type 0) (front back : List A) → AllByRecursion P front → AllByRecursion P back → AllByRecursion P (front ++ back)
all_append P [] back one two = two
all_append P (x ∷ front) back one two = (one.0, all_append P front back one.1 two)

pub neighbours_cons : {A : Type 0} (test : A → A → Bool) (x : A) (xs : List A) → first_passes (test x) xs ≡ true → neighbours_pass test xs ≡ true → neighbours_pass test (x ∷ xs) ≡ true
unfolding neighbours_pass
neighbours_cons test x xs one rest = both_pass (first_passes (test x) xs) (neighbours_pass test xs) one rest

pub printable_cons : (lexeme : Lexeme) (lexemes : List Lexeme) → IsSpelled lexeme.what lexeme.spelling → IsTrue (first_passes (may_follow lexeme) lexemes) → IsPrintable lexemes → IsPrintable (lexeme ∷ lexemes)
printable_cons lexeme lexemes is follows rest = record {
  spelled = (is, rest.spelled);
  apart = neighbours_cons may_follow lexeme lexemes follows rest.apart;
}

pub printable_none : IsPrintable []
unfolding neighbours_pass
printable_none = record { spelled = tt; apart = refl }

pub printable_append : (front back : List Lexeme) → IsPrintable front → IsPrintable back → IsTrue (last_passes (λ lexeme. first_passes (may_follow lexeme) back) front) → IsPrintable (front ++ back)
printable_append front back one two meet = record {
  spelled = all_append (λ l. IsSpelled l.what l.spelling) front back one.spelled two.spelled;
  apart = neighbours_append may_follow front back one.apart two.apart meet;
}

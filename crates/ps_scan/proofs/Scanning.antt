-- The tokens of a text are slices of it in order, and a scan goes on where it stands.
use Rattle.std.proofs.Common.{◌≡◌, ◌⊎◌, inl, inr, ⊎_elim, ℕ, ◌+◌, ◌-◌, ◌≤◌, ◌<◌, List, [], ◌∷◌, ◌++◌, length, take, drop, sym, refl, ap, arith, subst, length-drop, append_assoc, append-nil}
use Rattle.std.specs.List.{All}
use Rattle.std.proofs.lemmas.List.Elements.{All-nil, All-cons}
use Rattle.ps_scan.specs.declared.fault.ScanFault.{ScanFault}
use Rattle.ps_scan.specs.declared.piece.Piece.{Piece}
use Rattle.ps_scan.specs.declared.piece.Piece.TheVariants.{End, Blank, Newline, Comment, Fault}
use Rattle.ps_scan.specs.declared.token.Token.{Token}
use Rattle.ps_scan.specs.declared.token.TokenKind.{TokenKind}
use Rattle.ps_scan.specs.Piece.{first_piece}
use Rattle.ps_scan.specs.Tokens.{line_of, token_at, piece_at, Scans, Stops, HasTokens, HasFault, line_number, IsSpelled, IsToken, IsInOrder}
use Rattle.ps_scan.proofs.Lines.{line_number-add, line_number-start}
use Rattle.ps_scan.proofs.Spelling.{token_fits, blank_fits, newline_fits, comment_fits}

-- a piece that is a token is one within the text
pub piece_within : (text : List ℕ) (at line : ℕ) (what : TokenKind) (n : ℕ) → piece_at text at line ≡ Piece.Token what n → (1 ≤ n) × (at + n ≤ length text)
piece_within text at line what n here =
    let fits = token_fits (line_of line) (drop at text) what n here in
    (fits.nonempty, omega (arith, fits.nonempty, fits.within, length-drop at text))

is_token : (text : List ℕ) (at line : ℕ) (what : TokenKind) (n : ℕ) → piece_at text at line ≡ Piece.Token what n → line ≡ line_number text at → IsToken text (token_at what line at n)
is_token text at line what n here on_line =
    let fits = token_fits (line_of line) (drop at text) what n here in
    let size : at + n - at ≡ n = omega arith in
    let within = piece_within text at line what n here in
    record {
      nonempty = omega (arith, within.0);
      within = within.1;
      line = ap line_of on_line;
      spelling = subst (λ k. IsSpelled what (take k (drop at text))) (sym size) fits.spelling;
    }

-- the line after each piece
pub line_behind_blank : (text : List ℕ) (at line : ℕ) → piece_at text at line ≡ Blank → line ≡ line_number text at → line ≡ line_number text (at + 1)
line_behind_blank text at line here on_line =
    omega (arith, on_line, line_number-add text at 1, blank_fits (line_of line) (drop at text) here)

pub line_behind_newline : (text : List ℕ) (at line : ℕ) → piece_at text at line ≡ Newline → line ≡ line_number text at → line + 1 ≡ line_number text (at + 1)
line_behind_newline text at line here on_line =
    omega (arith, on_line, line_number-add text at 1, newline_fits (line_of line) (drop at text) here)

pub line_behind_comment : (text : List ℕ) (at line n : ℕ) → piece_at text at line ≡ Comment n → line ≡ line_number text at → line ≡ line_number text (at + n)
line_behind_comment text at line n here on_line =
    omega (arith, on_line, line_number-add text at n, (comment_fits (line_of line) (drop at text) n here).one_line)

pub line_behind_token : (text : List ℕ) (at line : ℕ) (what : TokenKind) (n : ℕ) → piece_at text at line ≡ Piece.Token what n → line ≡ line_number text at → line ≡ line_number text (at + n)
line_behind_token text at line what n here on_line =
    let fits = token_fits (line_of line) (drop at text) what n here in
    omega (arith, on_line, line_number-add text at n, fits.one_line)

-- at the end of a text nothing begins
ends_empty : (line : ℕ) (rest : List ℕ) → (first_piece (line_of line) rest ≡ End) ⊎ (1 ≤ length rest)
unfolding first_piece
ends_empty line [] = inl refl
ends_empty line (byte ∷ rest) = inr (omega arith)

pub begins_within : (text : List ℕ) (at line : ℕ) → (piece_at text at line ≡ End → ⊥) → at < length text
begins_within text at line other =
    ⊎_elim (λ end. absurd (other end)) (λ some. omega (arith, length-drop at text)) (ends_empty line (drop at text))

pub blank_within : (text : List ℕ) (at line : ℕ) → piece_at text at line ≡ Blank → at < length text
blank_within text at line here = begins_within text at line (λ end. cc)

pub newline_within : (text : List ℕ) (at line : ℕ) → piece_at text at line ≡ Newline → at < length text
newline_within text at line here = begins_within text at line (λ end. cc)

pub comment_within : (text : List ℕ) (at line n : ℕ) → piece_at text at line ≡ Comment n → (1 ≤ n) × (at + n ≤ length text)
comment_within text at line n here =
    let fits = comment_fits (line_of line) (drop at text) n here in
    (fits.nonempty, omega (arith, fits.nonempty, fits.within, length-drop at text))

-- each token of a text is one, and each begins where the one before has ended
tokens_from : {text : List ℕ} {at line : ℕ} {tokens : List Token} → Scans text at line tokens → line ≡ line_number text at → All (IsToken text) tokens
tokens_from {text} (Scans.at_end here) on_line = All-nil (IsToken text)
tokens_from {text} (Scans.past_blank {at = at} {line = line} here more) on_line = tokens_from more (line_behind_blank text at line here on_line)
tokens_from {text} (Scans.past_newline {at = at} {line = line} here more) on_line = tokens_from more (line_behind_newline text at line here on_line)
tokens_from {text} (Scans.past_comment {at = at} {line = line} {length = length} here more) on_line = tokens_from more (line_behind_comment text at line length here on_line)
tokens_from {text} (Scans.past_token {at = at} {line = line} {length = length} {what = what} {tokens = tokens} here more) on_line =
    All-cons (IsToken text) (token_at what line at length) tokens (is_token text at line what length here on_line) (tokens_from more (line_behind_token text at line what length here on_line))

pub all_tokens : {text : List ℕ} {tokens : List Token} → HasTokens text tokens → All (IsToken text) tokens
all_tokens {text} scans = tokens_from scans (sym (line_number-start text))

earlier : (tokens : List Token) (at before : ℕ) → before ≤ at → IsInOrder at tokens → IsInOrder before tokens
earlier [] at before le in_order = tt
earlier (token ∷ tokens) at before le in_order = (omega (arith, in_order.0), in_order.1)

pub all_in_order : {text : List ℕ} {at line : ℕ} {tokens : List Token} → Scans text at line tokens → IsInOrder at tokens
all_in_order (Scans.at_end here) = tt
all_in_order (Scans.past_blank {at = at} {tokens = tokens} here more) = earlier tokens (at + 1) at (omega arith) (all_in_order more)
all_in_order (Scans.past_newline {at = at} {tokens = tokens} here more) = earlier tokens (at + 1) at (omega arith) (all_in_order more)
all_in_order (Scans.past_comment {at = at} {length = length} {tokens = tokens} here more) = earlier tokens (at + length) at (omega arith) (all_in_order more)
all_in_order (Scans.past_token here more) = (omega arith, all_in_order more)

-- up to this place, which is on this line, these are the tokens: as the text goes on from here it
-- goes on as a whole
pub record ScannedTo (text : List ℕ) (at line : ℕ) (tokens : List Token) : Type 0 where
  pub scans : (more : List Token) → Scans text at line more → HasTokens text (tokens ++ more)
  pub stops : (fault : ScanFault) → Stops text at line fault → HasFault text fault

pub none_scanned : (text : List ℕ) → ScannedTo text 0 1 []
none_scanned text = record { scans = λ more scans. scans; stops = λ fault stops. stops }

module _ (text : List ℕ) (at line : ℕ) (tokens : List Token) (before : ScannedTo text at line tokens) where
  pub blank_scanned : piece_at text at line ≡ Blank → ScannedTo text (at + 1) line tokens
  blank_scanned here = record {
    scans = λ more scans. before.scans more (Scans.past_blank here scans);
    stops = λ fault stops. before.stops fault (Stops.past_blank here stops);
  }

  pub newline_scanned : piece_at text at line ≡ Newline → ScannedTo text (at + 1) (line + 1) tokens
  newline_scanned here = record {
    scans = λ more scans. before.scans more (Scans.past_newline here scans);
    stops = λ fault stops. before.stops fault (Stops.past_newline here stops);
  }

  pub comment_scanned : (n : ℕ) → piece_at text at line ≡ Comment n → ScannedTo text (at + n) line tokens
  comment_scanned n here = record {
    scans = λ more scans. before.scans more (Scans.past_comment here scans);
    stops = λ fault stops. before.stops fault (Stops.past_comment here stops);
  }

  pub token_scanned : (what : TokenKind) (n : ℕ) → piece_at text at line ≡ Piece.Token what n → ScannedTo text (at + n) line (tokens ++ token_at what line at n ∷ [])
  token_scanned what n here = record {
    scans = λ more scans. subst (HasTokens text) (sym (append_assoc tokens (token_at what line at n ∷ []) more)) (before.scans (token_at what line at n ∷ more) (Scans.past_token here scans));
    stops = λ fault stops. before.stops fault (Stops.past_token here stops);
  }

  pub end_scanned : piece_at text at line ≡ End → HasTokens text tokens
  end_scanned here = subst (HasTokens text) (append-nil tokens) (before.scans [] (Scans.at_end here))

  pub fault_scanned : (fault : ScanFault) → piece_at text at line ≡ Fault fault → HasFault text fault
  fault_scanned fault here = before.stops fault (Stops.at_fault here)

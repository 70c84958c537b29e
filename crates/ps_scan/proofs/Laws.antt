-- A text has at most one list of tokens, at most one fault, and never both.
use Rattle.std.proofs.Common.{◌≡◌, ℕ, ◌+◌, List, [], ◌∷◌, sym, ◌∙◌, ap, refl, subst}
use Rattle.ps_scan.specs.declared.fault.ScanFault.{ScanFault}
use Rattle.ps_scan.specs.declared.piece.Piece.{Piece}
use Rattle.ps_scan.specs.declared.piece.Piece.TheVariants.{End, Blank, Newline, Comment, Fault}
use Rattle.ps_scan.specs.declared.token.Token.{Token}
use Rattle.ps_scan.specs.Tokens.{token_at, piece_at, Scans, Stops}

-- what is left to scan where this piece comes first
ScansBehind : List ℕ → ℕ → ℕ → List Token → Piece → Type 0
ScansBehind text at line tokens End = tokens ≡ []
ScansBehind text at line tokens Blank = Scans text (at + 1) line tokens
ScansBehind text at line tokens Newline = Scans text (at + 1) (line + 1) tokens
ScansBehind text at line tokens (Comment length) = Scans text (at + length) line tokens
ScansBehind text at line tokens (Piece.Token what length) = (rest : List Token) × (tokens ≡ token_at what line at length ∷ rest) × Scans text (at + length) line rest
ScansBehind text at line tokens (Fault fault) = ⊥

scans_behind : {text : List ℕ} {at line : ℕ} {tokens : List Token} (piece : Piece) → Scans text at line tokens → piece_at text at line ≡ piece → ScansBehind text at line tokens piece
unfolding ScansBehind
scans_behind {text} {at} {line} piece (Scans.at_end here) same = subst (ScansBehind text at line []) (sym here ∙ same) refl
scans_behind {text} {at} {line} {tokens} piece (Scans.past_blank here more) same = subst (ScansBehind text at line tokens) (sym here ∙ same) more
scans_behind {text} {at} {line} {tokens} piece (Scans.past_newline here more) same = subst (ScansBehind text at line tokens) (sym here ∙ same) more
scans_behind {text} {at} {line} {tokens} piece (Scans.past_comment here more) same = subst (ScansBehind text at line tokens) (sym here ∙ same) more
scans_behind {text} {at} {line} piece (Scans.past_token {length = length} {what = what} {tokens = tokens} here more) same =
    subst (ScansBehind text at line (token_at what line at length ∷ tokens)) (sym here ∙ same) (tokens, refl, more)

-- what is left to stop at where this piece comes first
StopsBehind : List ℕ → ℕ → ℕ → ScanFault → Piece → Type 0
StopsBehind text at line fault End = ⊥
StopsBehind text at line fault Blank = Stops text (at + 1) line fault
StopsBehind text at line fault Newline = Stops text (at + 1) (line + 1) fault
StopsBehind text at line fault (Comment length) = Stops text (at + length) line fault
StopsBehind text at line fault (Piece.Token what length) = Stops text (at + length) line fault
StopsBehind text at line fault (Fault here) = fault ≡ here

stops_behind : {text : List ℕ} {at line : ℕ} {fault : ScanFault} (piece : Piece) → Stops text at line fault → piece_at text at line ≡ piece → StopsBehind text at line fault piece
unfolding StopsBehind
stops_behind {text} {at} {line} {fault} piece (Stops.at_fault here) same = subst (StopsBehind text at line fault) (sym here ∙ same) refl
stops_behind {text} {at} {line} {fault} piece (Stops.past_blank here more) same = subst (StopsBehind text at line fault) (sym here ∙ same) more
stops_behind {text} {at} {line} {fault} piece (Stops.past_newline here more) same = subst (StopsBehind text at line fault) (sym here ∙ same) more
stops_behind {text} {at} {line} {fault} piece (Stops.past_comment here more) same = subst (StopsBehind text at line fault) (sym here ∙ same) more
stops_behind {text} {at} {line} {fault} piece (Stops.past_token here more) same = subst (StopsBehind text at line fault) (sym here ∙ same) more

pub same_tokens : {text : List ℕ} {at line : ℕ} {tokens others : List Token} → Scans text at line tokens → Scans text at line others → tokens ≡ others
unfolding ScansBehind
same_tokens (Scans.at_end here) other = sym (scans_behind End other here)
same_tokens (Scans.past_blank here more) other = same_tokens more (scans_behind Blank other here)
same_tokens (Scans.past_newline here more) other = same_tokens more (scans_behind Newline other here)
same_tokens (Scans.past_comment {length = length} here more) other = same_tokens more (scans_behind (Comment length) other here)
same_tokens (Scans.past_token {at = at} {line = line} {length = length} {what = what} here more) other =
    let behind = scans_behind (Piece.Token what length) other here in
    ap (λ rest. token_at what line at length ∷ rest) (same_tokens more behind.2) ∙ sym behind.1

pub same_fault : {text : List ℕ} {at line : ℕ} {fault other : ScanFault} → Stops text at line fault → Stops text at line other → fault ≡ other
unfolding StopsBehind
same_fault (Stops.at_fault {fault = fault} here) other = sym (stops_behind (Fault fault) other here)
same_fault (Stops.past_blank here more) other = same_fault more (stops_behind Blank other here)
same_fault (Stops.past_newline here more) other = same_fault more (stops_behind Newline other here)
same_fault (Stops.past_comment {length = length} here more) other = same_fault more (stops_behind (Comment length) other here)
same_fault (Stops.past_token {length = length} {what = what} here more) other = same_fault more (stops_behind (Piece.Token what length) other here)

pub never_both : {text : List ℕ} {at line : ℕ} {tokens : List Token} {fault : ScanFault} → Scans text at line tokens → Stops text at line fault → ⊥
unfolding StopsBehind
never_both (Scans.at_end here) stops = stops_behind End stops here
never_both (Scans.past_blank here more) stops = never_both more (stops_behind Blank stops here)
never_both (Scans.past_newline here more) stops = never_both more (stops_behind Newline stops here)
never_both (Scans.past_comment {length = length} here more) stops = never_both more (stops_behind (Comment length) stops here)
never_both (Scans.past_token {length = length} {what = what} here more) stops = never_both more (stops_behind (Piece.Token what length) stops here)

use Rattle.std.proofs.Common.{◌≡◌, ◌+◌, ◌≤◌, ◌<◌, length, sym, ap, arith}
use Rattle.ps_scan.specs.declared.token.Token.{Token}
use Rattle.ps_scan.specs.Tokens.{HasTokens}
use Rattle.ps_scan.proofs.Scanning.{blank_scanned, newline_scanned, comment_scanned, token_scanned, end_scanned, fault_scanned, blank_within, newline_within, comment_within, piece_within, all_tokens, all_in_order}
use Rattle.ps_scan.proofs.scanner.scan.Goals as goal
use Rattle.ps_scan.proofs.scanner.scan.Goals.{In-End, In-Blank, In-Newline, In-Comment, In-Token}

scanned : (c : In-End) → HasTokens c.args.text.now c.loop-tokens.tokens.items
scanned c = end_scanned c.args.text.now c.loop-tokens.at c.loop-tokens.line.0 c.loop-tokens.tokens.items c.loop-tokens.invariant.scanned (sym c.in-End.ensures)

pub returns-in-End-clause-tokens : goal.returns-in-End-clause-tokens
returns-in-End-clause-tokens c = scanned (goal.at.returns-in-End-clause-tokens c).In-End

pub returns-in-End-clause-slices : goal.returns-in-End-clause-slices
returns-in-End-clause-slices c = all_tokens (scanned (goal.at.returns-in-End-clause-slices c).In-End)

pub returns-in-End-clause-in_order : goal.returns-in-End-clause-in_order
returns-in-End-clause-in_order c = all_in_order (scanned (goal.at.returns-in-End-clause-in_order c).In-End)

at_blank : (c : In-Blank) → c.loop-tokens.at < length c.args.text.now
at_blank c = blank_within c.args.text.now c.loop-tokens.at c.loop-tokens.line.0 (sym c.in-Blank.ensures)

at_newline : (c : In-Newline) → c.loop-tokens.at < length c.args.text.now
at_newline c = newline_within c.args.text.now c.loop-tokens.at c.loop-tokens.line.0 (sym c.in-Newline.ensures)

at_comment : (c : In-Comment) → (1 ≤ c.in-Comment.length) × (c.loop-tokens.at + c.in-Comment.length ≤ length c.args.text.now)
at_comment c = comment_within c.args.text.now c.loop-tokens.at c.loop-tokens.line.0 c.in-Comment.length (sym c.in-Comment.ensures)

at_token : (c : In-Token) → (1 ≤ c.in-Token.length) × (c.loop-tokens.at + c.in-Token.length ≤ length c.args.text.now)
at_token c = piece_within c.args.text.now c.loop-tokens.at c.loop-tokens.line.0 c.in-Token.what c.in-Token.length (sym c.in-Token.ensures)

pub loop-tokens-smaller-in-Blank : goal.loop-tokens-smaller-in-Blank
loop-tokens-smaller-in-Blank c = omega (arith, at_blank (goal.at.loop-tokens-smaller-in-Blank c).In-Blank)

pub loop-tokens-preserved-in-Blank : goal.loop-tokens-preserved-in-Blank
loop-tokens-preserved-in-Blank c =
    let inside = at_blank (goal.at.loop-tokens-preserved-in-Blank c).In-Blank in
    record {
      scanned = blank_scanned c.args.text.now c.loop-tokens.at c.loop-tokens.line.0 c.loop-tokens.tokens.items c.loop-tokens.invariant.scanned (sym c.in-Blank.ensures);
      within = omega arith;
      lines = omega arith;
    }

pub loop-tokens-smaller-in-Newline : goal.loop-tokens-smaller-in-Newline
loop-tokens-smaller-in-Newline c = omega (arith, at_newline (goal.at.loop-tokens-smaller-in-Newline c).In-Newline)

pub loop-tokens-preserved-in-Newline : goal.loop-tokens-preserved-in-Newline
loop-tokens-preserved-in-Newline c =
    let inside = at_newline (goal.at.loop-tokens-preserved-in-Newline c).In-Newline in
    record {
      scanned = newline_scanned c.args.text.now c.loop-tokens.at c.loop-tokens.line.0 c.loop-tokens.tokens.items c.loop-tokens.invariant.scanned (sym c.in-Newline.ensures);
      within = omega arith;
      lines = omega arith;
    }

pub loop-tokens-smaller-in-Comment : goal.loop-tokens-smaller-in-Comment
loop-tokens-smaller-in-Comment c =
    let inside = at_comment (goal.at.loop-tokens-smaller-in-Comment c).In-Comment in
    omega arith

pub loop-tokens-preserved-in-Comment : goal.loop-tokens-preserved-in-Comment
loop-tokens-preserved-in-Comment c =
    let inside = at_comment (goal.at.loop-tokens-preserved-in-Comment c).In-Comment in
    record {
      scanned = comment_scanned c.args.text.now c.loop-tokens.at c.loop-tokens.line.0 c.loop-tokens.tokens.items c.loop-tokens.invariant.scanned c.in-Comment.length (sym c.in-Comment.ensures);
      within = omega arith;
      lines = omega arith;
    }

pub token_at-token-requires : goal.token_at-token-requires
token_at-token-requires c = omega (arith, at_token (goal.at.token_at-token-requires c).In-Token)

pub loop-tokens-smaller : goal.loop-tokens-smaller
loop-tokens-smaller c =
    let inside = at_token (goal.at.loop-tokens-smaller c).In-Token in
    let end : c.token_at-token.result.to ≡ c.loop-tokens.at + c.in-Token.length = ap (λ (t : Token). t.to) c.token_at-token.ensures in
    omega arith

pub loop-tokens-preserved : goal.loop-tokens-preserved
loop-tokens-preserved c =
    let inside = at_token (goal.at.loop-tokens-preserved c).In-Token in
    let end : c.token_at-token.result.to ≡ c.loop-tokens.at + c.in-Token.length = ap (λ (t : Token). t.to) c.token_at-token.ensures in
    record {
      scanned = rw (c.in_ok-push-in-Token.ensures.items, c.token_at-token.ensures) (token_scanned c.args.text.now c.loop-tokens.at c.loop-tokens.line.0 c.loop-tokens.tokens.items c.loop-tokens.invariant.scanned c.in-Token.what c.in-Token.length (sym c.in-Token.ensures));
      within = omega arith;
      lines = omega arith;
    }

pub returns-in-Fault-clause-fault : goal.returns-in-Fault-clause-fault
returns-in-Fault-clause-fault c =
    λ other. fault_scanned c.args.text.now c.loop-tokens.at c.loop-tokens.line.0 c.loop-tokens.tokens.items c.loop-tokens.invariant.scanned c.in-Fault.fault (sym c.in-Fault.ensures)

use Rattle.std.proofs.Common.{length, refl, ap, length-drop, arith}
use Rattle.ps_scan.specs.Piece.{string}
use Rattle.ps_scan.proofs.Strings.{none_counted, one_more_counted, string_closes, string_stays_open, string_has_bad_byte, string_has_bad_escape}
use Rattle.ps_scan.proofs.quoted.string_piece.Goals as goal

pub loop-length-init : goal.loop-length-init
loop-length-init c = record { counted = none_counted c.args.rest.now; within = omega arith; few = omega arith }

pub loop-length-preserved : goal.loop-length-preserved
loop-length-preserved c = record {
  counted = one_more_counted c.args.rest.now c.loop-length.at c.loop-length.spelled c.in-Spelled.byte c.in-Spelled.length c.loop-length.invariant.counted (rw c.split_at.ensures.back at c.in-Spelled.ensures.meaning);
  within = omega (arith, c.in-Spelled.ensures.within, ap length c.split_at.ensures.back, length-drop c.loop-length.at c.args.rest.now);
  few = omega (arith, c.in-Spelled.ensures.within);
}

pub returns-in-Closed : goal.returns-in-Closed
returns-in-Closed c =
    string_closes c.args.line c.args.rest.now c.loop-length.at c.loop-length.spelled _ _ c.loop-length.invariant.counted (rw c.split_at.ensures.back at c.in-Closed.ensures.meaning) refl c.closed_string.ensures

pub returns-in-Open : goal.returns-in-Open
unfolding string
returns-in-Open c =
    string_stays_open c.args.line c.args.rest.now c.loop-length.at c.loop-length.spelled c.loop-length.invariant.counted (rw c.split_at.ensures.back at c.in-Open.ensures.meaning)

pub returns-in-BadByte : goal.returns-in-BadByte
unfolding string
returns-in-BadByte c =
    string_has_bad_byte c.args.line c.args.rest.now c.loop-length.at c.loop-length.spelled c.in-BadByte.byte c.loop-length.invariant.counted (rw c.split_at.ensures.back at c.in-BadByte.ensures.meaning)

pub returns-in-BadEscape : goal.returns-in-BadEscape
unfolding string
returns-in-BadEscape c =
    string_has_bad_escape c.args.line c.args.rest.now c.loop-length.at c.loop-length.spelled c.in-BadEscape.byte c.loop-length.invariant.counted (rw c.split_at.ensures.back at c.in-BadEscape.ensures.meaning)

use Rattle.std.proofs.Common.{length, ap, length-drop, arith}
use Rattle.ps_scan.proofs.Strings.{none_yet, one_more, all_spelled}
use Rattle.ps_scan.proofs.quoted.spelled_behind_quote.Goals as goal

pub loop-byte-init : goal.loop-byte-init
loop-byte-init c = record { so_far = rw c.new-bytes.ensures.items (none_yet c.args.rest.now); within = omega arith }

pub loop-byte-preserved : goal.loop-byte-preserved
loop-byte-preserved c = record {
  so_far = rw c.in_ok-push.ensures.items (one_more c.args.rest.now c.loop-byte.at c.loop-byte.bytes.items c.in-Spelled.byte c.in-Spelled.length c.loop-byte.invariant.so_far (rw c.split_at.ensures.back at c.in-Spelled.ensures.meaning));
  within = omega (arith, c.in-Spelled.ensures.within, ap length c.split_at.ensures.back, length-drop c.loop-byte.at c.args.rest.now);
}

pub returns : goal.returns
returns c =
    all_spelled c.args.rest.now c.loop-byte.at c.loop-byte.bytes.items c.next_inside.result _ c.loop-byte.invariant.so_far (rw c.split_at.ensures.back at c.next_inside.ensures.meaning) c.in_default.not-Spelled c.requires

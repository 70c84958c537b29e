use Rattle.std.proofs.Common.{arith}
use Rattle.machine_core.proofs.Lines.{line-goes, line-ends, no-line}
use Rattle.machine_core.proofs.input.line_length.Goals as goal

pub returns-then-bytes-count-eq10 : goal.returns-then-bytes-count-eq10
returns-then-bytes-count-eq10 c =
    let so_far = c.loop-count.invariant.1 in
    omega (arith, so_far, line-ends c.args.bytes.now c.loop-count.count 0 c.loop-count-test.true c.if-bytes-count-eq10.true)

pub loop-count-preserved : goal.loop-count-preserved
loop-count-preserved c =
    let so_far = c.loop-count.invariant.1 in
    let more = line-goes c.args.bytes.now c.loop-count.count 0 c.loop-count-test.true c.if-bytes-count-eq10.false in
    (omega (arith, c.loop-count-test.true), omega (arith, so_far, more))

pub returns : goal.returns
returns c =
    let so_far = c.loop-count.invariant.1 in
    omega (arith, so_far, no-line c.args.bytes.now c.loop-count.count c.loop-count-test.false)

use Rattle.std.proofs.Common.{◌+◌, drop, slice_index_or}
use Rattle.heap_places.proofs.FillingLaws.{no_value, counted-left, counted-more, counted-room, counted-end}
use Rattle.heap_places.proofs.filling.count_rows.Goals as goal

pub count_value-rows-requires-clause-refs : goal.count_value-rows-requires-clause-refs
count_value-rows-requires-clause-refs c =
    (counted-room c.args.values.now c.loop-value.rows _ _ c.requires
    (counted-left c.args.values.now c.loop-value.rows c.loop-value.value-index c.loop-value-test.true c.loop-value.invariant)).0

pub count_value-rows-requires-clause-nums : goal.count_value-rows-requires-clause-nums
count_value-rows-requires-clause-nums c =
    (counted-room c.args.values.now c.loop-value.rows _ _ c.requires
    (counted-left c.args.values.now c.loop-value.rows c.loop-value.value-index c.loop-value-test.true c.loop-value.invariant)).1

pub loop-value-preserved : goal.loop-value-preserved
loop-value-preserved c =
    counted-more c.args.values.now c.loop-value.rows c.count_value-rows.result (slice_index_or c.args.values.now c.loop-value.value-index no_value)
    (drop (c.loop-value.value-index + 1) c.args.values.now)
    (counted-left c.args.values.now c.loop-value.rows c.loop-value.value-index c.loop-value-test.true c.loop-value.invariant) c.count_value-rows.ensures

pub returns : goal.returns
returns c = counted-end c.args.values.now c.loop-value.rows c.loop-value.value-index c.loop-value-test.false c.loop-value.invariant

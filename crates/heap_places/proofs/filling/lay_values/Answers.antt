use Rattle.std.proofs.Common.{◌+◌, drop, slice_index_or}
use Rattle.heap_places.specs.inside.Laying.{with_values}
use Rattle.heap_places.proofs.FillingLaws.{no_value, laying-left, laying-first, laying-more, laying-end}
use Rattle.heap_places.proofs.filling.lay_values.Goals as goal

pub lay_next-next-requires-clause-rows : goal.lay_next-next-requires-clause-rows
lay_next-next-requires-clause-rows c =
    let i = c.loop-value.value-index in
    (laying-first _ c.loop-value.sw c.args.object c.loop-value.next (slice_index_or c.args.values.now i no_value) (drop (i + 1) c.args.values.now)
    (laying-left (with_values c.args.sw.now c.args.object c.args.first c.args.values.now) c.loop-value.sw c.args.object c.loop-value.next c.args.values.now i
    c.loop-value-test.true c.loop-value.invariant)).0

pub lay_next-next-requires-clause-near : goal.lay_next-next-requires-clause-near
lay_next-next-requires-clause-near c =
    let i = c.loop-value.value-index in
    (laying-first _ c.loop-value.sw c.args.object c.loop-value.next (slice_index_or c.args.values.now i no_value) (drop (i + 1) c.args.values.now)
    (laying-left (with_values c.args.sw.now c.args.object c.args.first c.args.values.now) c.loop-value.sw c.args.object c.loop-value.next c.args.values.now i
    c.loop-value-test.true c.loop-value.invariant)).1

pub loop-value-preserved : goal.loop-value-preserved
loop-value-preserved c =
    let i = c.loop-value.value-index in
    let target = with_values c.args.sw.now c.args.object c.args.first c.args.values.now in
    laying-more target c.loop-value.sw c.lay_next-next.new.sw c.args.object c.loop-value.next c.lay_next-next.result
    (slice_index_or c.args.values.now i no_value) (drop (i + 1) c.args.values.now)
    (laying-left target c.loop-value.sw c.args.object c.loop-value.next c.args.values.now i c.loop-value-test.true c.loop-value.invariant)
    c.lay_next-next.ensures.laid c.lay_next-next.ensures.next c.lay_next-next.ensures.stands

pub returns : goal.returns
returns c =
    laying-end (with_values c.args.sw.now c.args.object c.args.first c.args.values.now) c.loop-value.sw c.args.object c.loop-value.next c.args.values.now
    c.loop-value.value-index c.loop-value-test.false c.loop-value.invariant

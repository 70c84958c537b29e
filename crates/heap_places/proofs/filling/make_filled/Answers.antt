use Rattle.std.proofs.Common.{arith}
use Rattle.heap_places.proofs.FillingLaws.{made-stands, few-rows, roomy-held, roomy-rows, near-all, filled-made, full-roomy, full-many}
use Rattle.heap_places.proofs.filling.make_filled.Goals as goal

pub returns-then-values-size-clause-filled : goal.returns-then-values-size-clause-filled
returns-then-values-size-clause-filled c =
    full-many c.args.sw.now c.top.result c.words_wanted.result c.size-then-values-size.result c.args.low (c.args.values.now) c.sound.ensures
    (omega (arith, c.if-values-size.true, c.size.ensures))
    c.top.ensures c.size-then-values-size.ensures (c.words_wanted.ensures)

pub make_roomy-requires-clause-few : goal.make_roomy-requires-clause-few
make_roomy-requires-clause-few c = (few-rows c.args.sw.now c.count_rows-rows.result (c.args.values.now) c.size.result c.sound.ensures c.if-values-size.false
    c.size.ensures c.count_rows-rows.ensures).0

pub lay_values-requires-clause-held : goal.lay_values-requires-clause-held
lay_values-requires-clause-held c = (roomy-held c.args.sw.now c.make_roomy.new.sw c.in-Ok.object _ c.in-Ok.ensures.made).0

pub lay_values-requires-clause-rows : goal.lay_values-requires-clause-rows
lay_values-requires-clause-rows c =
    roomy-rows c.args.sw.now c.make_roomy.new.sw c.in-Ok.object c.args.text c.args.kind c.args.low c.first_rows.result c.count_rows-rows.result
    (c.args.values.now)
    c.first_rows.ensures.refs c.first_rows.ensures.nums c.count_rows-rows.ensures c.in-Ok.ensures.made

pub lay_values-requires-clause-near : goal.lay_values-requires-clause-near
lay_values-requires-clause-near c = near-all c.args.sw.now c.make_roomy.new.sw c.args.values.now c.in-Ok.ensures.stands c.requires.near

pub returns-in-Ok-clause-filled : goal.returns-in-Ok-clause-filled
returns-in-Ok-clause-filled c =
    filled-made c.args.sw.now c.make_roomy.new.sw c.lay_values.new.sw c.in-Ok.object c.args.text c.args.kind c.args.low c.first_rows.result
    c.count_rows-rows.result (c.args.values.now)
    c.first_rows.ensures.refs c.first_rows.ensures.nums c.count_rows-rows.ensures c.in-Ok.ensures.made c.lay_values.ensures

pub returns-in-Err-clause-filled : goal.returns-in-Err-clause-filled
returns-in-Err-clause-filled c =
    full-roomy c.args.sw.now c.make_roomy.new.sw c.args.text c.args.kind c.args.low c.count_rows-rows.result (c.args.values.now) c.in-Err.fault
    c.count_rows-rows.ensures
    (few-rows c.args.sw.now c.count_rows-rows.result (c.args.values.now) c.size.result c.sound.ensures c.if-values-size.false c.size.ensures
    c.count_rows-rows.ensures).1 c.in-Err.ensures.made

pub returns-in-Ok-clause-stands : goal.returns-in-Ok-clause-stands
returns-in-Ok-clause-stands c = made-stands c.args.sw.now c.lay_values.new.sw c.in-Ok.object _ (returns-in-Ok-clause-filled c)

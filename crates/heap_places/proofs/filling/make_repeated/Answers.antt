use Rattle.std.proofs.Common.{ℕ, ◌+◌, length, ap, arith, ◌∙◌, sym, replicate}
use Rattle.std.proofs.lemmas.List.{length-replicate}
use Rattle.heap_texts.specs.Texts.{wanted_of}
use Rattle.heap_places.specs.Filling.{first_words}
use Rattle.heap_places.proofs.FillingLaws.{made-stands, few-rows, roomy-held, roomy-rows, filled-made, full-roomy, full-many}
use Rattle.heap_places.proofs.filling.make_repeated.Goals as goal

pub returns-then-count-size-clause-filled : goal.returns-then-count-size-clause-filled
returns-then-count-size-clause-filled c =
    full-many c.args.sw.now c.top.result c.words_wanted.result c.size-then-count-size.result c.args.low (replicate c.args.count c.args.value) c.sound.ensures
    (omega (arith, c.if-count-size.true, c.size.ensures, length-replicate c.args.count c.args.value))
    c.top.ensures c.size-then-count-size.ensures (c.words_wanted.ensures
    ∙ ap (λ (n : ℕ). wanted_of (5 + length (first_words c.args.low) + n)) (sym (length-replicate c.args.count c.args.value)))

pub make_roomy-requires-clause-few : goal.make_roomy-requires-clause-few
make_roomy-requires-clause-few c = (few-rows c.args.sw.now c.repeated_rows-rows.result (replicate c.args.count c.args.value) c.size.result c.sound.ensures
    (omega (arith, c.if-count-size.false, length-replicate c.args.count c.args.value)) c.size.ensures c.repeated_rows-rows.ensures).0

pub lay_repeated-requires-clause-held : goal.lay_repeated-requires-clause-held
lay_repeated-requires-clause-held c = (roomy-held c.args.sw.now c.make_roomy.new.sw c.in-Ok.object _ c.in-Ok.ensures.made).0

pub lay_repeated-requires-clause-rows : goal.lay_repeated-requires-clause-rows
lay_repeated-requires-clause-rows c =
    roomy-rows c.args.sw.now c.make_roomy.new.sw c.in-Ok.object c.args.text c.args.kind c.args.low c.first_rows.result c.repeated_rows-rows.result
    (replicate c.args.count c.args.value)
    c.first_rows.ensures.refs c.first_rows.ensures.nums c.repeated_rows-rows.ensures c.in-Ok.ensures.made

pub returns-in-Ok-clause-filled : goal.returns-in-Ok-clause-filled
returns-in-Ok-clause-filled c =
    filled-made c.args.sw.now c.make_roomy.new.sw c.lay_repeated.new.sw c.in-Ok.object c.args.text c.args.kind c.args.low c.first_rows.result
    c.repeated_rows-rows.result (replicate c.args.count c.args.value)
    c.first_rows.ensures.refs c.first_rows.ensures.nums c.repeated_rows-rows.ensures c.in-Ok.ensures.made c.lay_repeated.ensures

pub returns-in-Err-clause-filled : goal.returns-in-Err-clause-filled
returns-in-Err-clause-filled c =
    full-roomy c.args.sw.now c.make_roomy.new.sw c.args.text c.args.kind c.args.low c.repeated_rows-rows.result (replicate c.args.count c.args.value)
    c.in-Err.fault c.repeated_rows-rows.ensures
    (few-rows c.args.sw.now c.repeated_rows-rows.result (replicate c.args.count c.args.value) c.size.result c.sound.ensures
    (omega (arith, c.if-count-size.false, length-replicate c.args.count c.args.value)) c.size.ensures c.repeated_rows-rows.ensures).1 c.in-Err.ensures.made

pub returns-in-Ok-clause-stands : goal.returns-in-Ok-clause-stands
returns-in-Ok-clause-stands c = made-stands c.args.sw.now c.lay_repeated.new.sw c.in-Ok.object _ (returns-in-Ok-clause-filled c)

use Rattle.std.proofs.Common.{sym, ◌∙◌, arith}
use Rattle.text_forms.proofs.Places.{count-within}
use Rattle.text_forms.proofs.Passing.{none_passed, one_passed, room_left, all_counted}
use Rattle.text_forms.proofs.forms.count_places.Goals as goal

pub loop-rest-init : goal.loop-rest-init
loop-rest-init c = none_passed c.args.text.now c.first_field-rest.result.now c.first_field-rest.ensures.found
    (omega (arith, c.first_field-rest.ensures.shorter))

pub with-rows-requires : goal.with-rows-requires
with-rows-requires c =
    omega (arith, count-within c.form_here.result c.loop-rest.rows, room_left _ _ _ c.loop-rest.invariant (sym c.is_field.ensures ∙ c.loop-rest-test.true))

pub loop-rest-preserved : goal.loop-rest-preserved
loop-rest-preserved c =
    one_passed c.args.text.now c.form_here.result c.loop-rest.rows c.with-rows.result c.loop-rest.rest.now c.next_field-rest.result.now c.loop-rest.invariant
    (sym c.is_field.ensures ∙ c.loop-rest-test.true) c.form_here.ensures c.with-rows.ensures c.next_field-rest.ensures.found c.next_field-rest.ensures.shorter

pub returns : goal.returns
returns c = all_counted c.args.text.now c.loop-rest.rows c.loop-rest.rest.now c.loop-rest.invariant (sym c.is_field.ensures ∙ c.loop-rest-test.false)

use Rattle.std.proofs.Common.{sym, ap, ◌∙◌, arith}
use Rattle.text_forms.proofs.Places.{count-within, with_rows}
use Rattle.text_forms.proofs.Passing.{none_sought, one_sought, room_left, all_sought}
use Rattle.text_forms.proofs.forms.locate.Goals as goal

pub loop-rest-init : goal.loop-rest-init
loop-rest-init c = none_sought c.args.text.now c.first_field-rest.result.now c.args.number c.first_field-rest.ensures.found c.first_field-rest.ensures.shorter

pub found_with-found-requires : goal.found_with-found-requires
found_with-found-requires c = omega (arith, room_left _ _ _ c.loop-rest.invariant.passed (sym c.is_field.ensures ∙ c.loop-rest-test.true))

pub with-rows-requires : goal.with-rows-requires
with-rows-requires c =
    omega (
      arith,
      count-within c.form_here-form.result c.loop-rest.rows,
      room_left _ _ _ c.loop-rest.invariant.passed
          (sym c.is_field.ensures ∙ c.loop-rest-test.true),
    )

pub loop-rest-preserved : goal.loop-rest-preserved
loop-rest-preserved c =
    one_sought c.args.text.now c.form_here-form.result c.loop-rest.rows c.with-rows.result c.loop-rest.rest.now c.next_field-rest.result.now
    c.loop-rest.found c.found_with-found.result c.args.number
    c.loop-rest.invariant (sym c.is_field.ensures ∙ c.loop-rest-test.true) c.form_here-form.ensures c.with-rows.ensures c.next_field-rest.ensures.found
    c.next_field-rest.ensures.shorter
    c.found_with-found.ensures

pub returns-in_err-place : goal.returns-in_err-place
returns-in_err-place c =
    c.from_residual.ensures ∙ sym (ap (with_rows c.loop-rest.rows) c.in_err-place.was)
    ∙ all_sought c.args.text.now c.loop-rest.rows c.loop-rest.rest.now c.loop-rest.found c.args.number c.loop-rest.invariant
    (sym c.is_field.ensures ∙ c.loop-rest-test.false)

pub returns : goal.returns
returns c =
    sym (ap (with_rows c.loop-rest.rows) c.in_ok-place.was)
    ∙ all_sought c.args.text.now c.loop-rest.rows c.loop-rest.rest.now c.loop-rest.found c.args.number c.loop-rest.invariant
    (sym c.is_field.ensures ∙ c.loop-rest-test.false)

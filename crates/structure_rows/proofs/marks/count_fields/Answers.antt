use Rattle.std.proofs.Common.{sym, ◌∙◌, arith}
use Rattle.structure_rows.proofs.Counted.{none-counted, one-counted, not-counted, all-known}
use Rattle.structure_rows.proofs.marks.count_fields.Goals as goal

pub loop-rest-init : goal.loop-rest-init
loop-rest-init c = none-counted c.args.text.now c.first_field-rest.result.now c.first_field-rest.ensures.found
    (omega (arith, c.first_field-rest.ensures.shorter))

pub loop-rest-preserved : goal.loop-rest-preserved
loop-rest-preserved c =
    one-counted c.args.text.now c.form_here.result c.loop-rest.fields c.in-Some.more c.loop-rest.rest.now c.next_field-rest.result.now
    c.loop-rest.invariant (sym c.is_field.ensures ∙ c.loop-rest-test.true) c.form_here.ensures c.in-Some.ensures
    c.next_field-rest.ensures.found c.next_field-rest.ensures.shorter

pub returns-in-None : goal.returns-in-None
returns-in-None c =
    not-counted c.args.text.now c.form_here.result c.loop-rest.fields c.loop-rest.rest.now c.loop-rest.invariant
    (sym c.is_field.ensures ∙ c.loop-rest-test.true) c.form_here.ensures c.in-None.ensures

pub returns : goal.returns
returns c = all-known c.args.text.now c.loop-rest.fields c.loop-rest.rest.now c.loop-rest.invariant (sym c.is_field.ensures ∙ c.loop-rest-test.false)

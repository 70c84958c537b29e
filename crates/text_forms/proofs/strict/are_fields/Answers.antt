use Rattle.std.specs.Prelude.{codes}
use Rattle.text_forms.specs.Strict.{deepest}
use Rattle.text_forms.proofs.Fields.{both-ways, iff-steps, not-told, tested, fields-none, fields-first, further-field, further-unfielded, further-last}
use Rattle.text_forms.proofs.strict.are_fields.Goals as goal

pub returns-in_default : goal.returns-in_default
returns-in_default c = iff-steps (fields-none deepest c.args.rest.now c.in_default.ensures)
    (tested c.eq.result c.args.rest.now (codes ")") c.as_slice.result.now c.eq.ensures c.as_slice.ensures)

pub loop-next-init : goal.loop-next-init
loop-next-init c = fields-first deepest c.args.rest.now c.in-Some.first.now c.in-Some.ensures

pub returns-in_default-behind_field : goal.returns-in_default-behind_field
returns-in_default-behind_field c =
    not-told (λ f. further-unfielded deepest c.loop-next.left.now c.in-Some-behind_word.next.now c.in-Some-behind_word.ensures.left.spelled
    c.in_default-behind_field.ensures (c.loop-next.invariant.0 f))

pub loop-next-preserved : goal.loop-next-preserved
loop-next-preserved c =
    both-ways c.loop-next.invariant (further-field deepest c.loop-next.left.now c.in-Some-behind_word.next.now c.in-Some-behind_field.further.now
    c.in-Some-behind_word.ensures.left.spelled c.in-Some-behind_field.ensures)

pub returns : goal.returns
returns c =
    iff-steps (both-ways c.loop-next.invariant (further-last deepest c.loop-next.left.now c.in_default-behind_word.ensures))
    (tested c.eq-2.result c.loop-next.left.now (codes ")") c.as_slice-2.result.now c.eq-2.ensures c.as_slice-2.ensures)

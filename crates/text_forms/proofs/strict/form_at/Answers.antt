use Rattle.std.proofs.Common.{sym, ◌∙◌}
use Rattle.text_forms.proofs.Whole.{element-told-at, field-found, field-missed, not-located}
use Rattle.text_forms.proofs.strict.form_at.Goals as goal

pub returns-then-is_vector_text : goal.returns-then-is_vector_text
returns-then-is_vector_text c = element-told-at c.args.text.now c.args.number c.element_at.result (c.is_vector_text.ensures.0 c.if-is_vector_text.true)
    c.element_at.ensures

pub returns-in_err-located : goal.returns-in_err-located
returns-in_err-located c =
    not-located c.args.text.now c.args.number c.from_residual.result c.from_residual.ensures
    (field-missed c.args.text.now c.args.number (c.is_class_text.ensures.0 c.if-not-is_class_text.false) (sym c.in_err-located.was ∙ c.locate.ensures))

pub returns : goal.returns
returns c = field-found c.args.text.now c.args.number c.in_ok-located.located (c.is_class_text.ensures.0 c.if-not-is_class_text.false)
    (sym c.in_ok-located.was ∙ c.locate.ensures)

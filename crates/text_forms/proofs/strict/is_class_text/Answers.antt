use Rattle.text_forms.proofs.Fields.{both-ways, not-told}
use Rattle.text_forms.proofs.Whole.{class-unnamed, class-unbracketed, class-fields}
use Rattle.text_forms.proofs.strict.is_class_text.Goals as goal

pub returns-in_default : goal.returns-in_default
returns-in_default c = not-told (class-unnamed c.args.text.now c.in_default.ensures)

pub returns-in-Some-behind_word : goal.returns-in-Some-behind_word
returns-in-Some-behind_word c =
    both-ways c.are_fields.ensures (class-fields c.args.text.now c.in-Some.rest.now c.in-Some-behind_word.fields.now c.in-Some.ensures
    c.in-Some-behind_word.ensures.left.spelled)

pub returns-in-None : goal.returns-in-None
returns-in-None c = not-told (class-unbracketed c.args.text.now c.in-Some.rest.now c.in-Some.ensures c.in-None.ensures)

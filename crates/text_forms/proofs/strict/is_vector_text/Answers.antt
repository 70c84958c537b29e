use Rattle.text_forms.proofs.Whole.{vector-told, vector-untyped}
use Rattle.text_forms.proofs.strict.is_vector_text.Goals as goal

pub returns-in-Some-behind_type : goal.returns-in-Some-behind_type
returns-in-Some-behind_type c =
    vector-told c.args.text.now c.in-Some.element.now c.in-Some-behind_type.rest.now c.is_empty.result c.in-Some.ensures.left.spelled
    c.in-Some-behind_type.ensures c.is_empty.ensures

pub returns-in-None : goal.returns-in-None
returns-in-None c = (λ told. absurd (cc), λ v. absurd (vector-untyped c.args.text.now c.in-Some.element.now c.in-Some.ensures.left.spelled c.in-None.ensures v))

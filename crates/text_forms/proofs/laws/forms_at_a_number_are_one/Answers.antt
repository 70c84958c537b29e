use Rattle.text_forms.proofs.Whole.{one-form}
use Rattle.text_forms.proofs.laws.forms_at_a_number_are_one.Goals as goal

pub returns : goal.returns
returns c = one-form

use Rattle.text_forms.proofs.Whole.{vector-holds}
use Rattle.text_forms.proofs.laws.vector_text_holds_form.Goals as goal

pub returns : goal.returns
returns c = vector-holds

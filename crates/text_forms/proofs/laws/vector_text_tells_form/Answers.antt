use Rattle.text_forms.proofs.ClassForms.{element-told}
use Rattle.text_forms.proofs.laws.vector_text_tells_form.Goals as goal

pub returns : goal.returns
returns c = element-told

use Rattle.text_forms.proofs.ClassForms.{class-told}
use Rattle.text_forms.proofs.laws.class_text_tells_forms.Goals as goal

pub returns : goal.returns
returns c = class-told

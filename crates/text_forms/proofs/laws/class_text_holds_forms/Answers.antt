use Rattle.text_forms.proofs.Whole.{class-holds}
use Rattle.text_forms.proofs.laws.class_text_holds_forms.Goals as goal

pub returns : goal.returns
returns c = class-holds

use Rattle.text_forms.proofs.Whole.{class-no_vector}
use Rattle.text_forms.proofs.laws.class_texts_are_no_vector_texts.Goals as goal

pub returns : goal.returns
returns c = class-no_vector

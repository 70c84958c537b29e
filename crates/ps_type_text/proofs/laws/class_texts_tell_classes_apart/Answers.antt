use Rattle.ps_type_text.proofs.Apart.{same_class_text}
use Rattle.ps_type_text.proofs.laws.class_texts_tell_classes_apart.Goals as goal

pub returns : goal.returns
returns c = same_class_text

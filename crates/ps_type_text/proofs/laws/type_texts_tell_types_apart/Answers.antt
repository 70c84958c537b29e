use Rattle.ps_type_text.proofs.Apart.{same_type_text}
use Rattle.ps_type_text.proofs.laws.type_texts_tell_types_apart.Goals as goal

pub returns : goal.returns
returns c = same_type_text

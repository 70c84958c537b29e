use Rattle.obj_layout.proofs.HeaderLaws.{header_words-injective}
use Rattle.obj_layout.proofs.laws.header_has_one_spelling.Goals as goal

pub returns : goal.returns
returns c = header_words-injective

use Rattle.std.proofs.Common.{refl, ◌∙◌}
use Rattle.obj_area.proofs.SpellingLaws.{word_read}
use Rattle.obj_area.proofs.spelling.word.Goals as goal

pub returns : goal.returns
returns c = c.read_u64.ensures ∙ word_read c.args.bytes.now c.args.index _ c.requires refl

use Rattle.std.proofs.Common.{refl, arith}
use Rattle.obj_area.proofs.SpellingLaws.{word_written}
use Rattle.obj_area.proofs.spelling.set_word.Goals as goal

pub returns : goal.returns
returns c =
    word_written c.args.bytes.now c.write_u64.new.buf c.args.index c.args.value _ (omega arith) c.requires refl c.write_u64.ensures

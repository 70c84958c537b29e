use Rattle.std.proofs.Common.{arith}
use Rattle.obj_area.proofs.SpellingLaws.{words_read}
use Rattle.obj_area.proofs.spelling.read.Goals as goal

pub returns : goal.returns
returns c =
    words_read c.args.bytes.now c.read_u64_into.new.dst c.args.index _ _ (omega arith) c.requires (omega arith) c.read_u64_into.ensures

use Rattle.std.proofs.Common.{arith}
use Rattle.obj_area.proofs.SpellingLaws.{words_written}
use Rattle.obj_area.proofs.spelling.write.Goals as goal

pub returns : goal.returns
returns c =
    words_written c.args.bytes.now c.write_u64_into.new.dst c.args.from.now c.args.index _ (λ k. omega (arith, c.type_inv.from k)) c.requires (omega arith) c.write_u64_into.ensures

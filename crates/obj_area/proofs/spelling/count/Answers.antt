use Rattle.std.proofs.Common.{arith}
use Rattle.obj_area.proofs.WordLaws.{length-words_of, AreWords-words_of}
use Rattle.obj_area.proofs.spelling.count.Goals as goal

pub returns-clause-count : goal.returns-clause-count
returns-clause-count c = omega (arith, length-words_of c.args.bytes.now)

pub returns-clause-words : goal.returns-clause-words
returns-clause-words c =
    AreWords-words_of c.args.bytes.now (λ k. omega (arith, c.type_inv.bytes k))

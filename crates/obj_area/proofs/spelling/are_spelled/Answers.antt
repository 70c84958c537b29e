use Rattle.std.proofs.Common.{arith}
use Rattle.obj_area.proofs.WordLaws.{bytes_of-words_of}
use Rattle.obj_area.proofs.spelling.are_spelled.Goals as goal

pub returns : goal.returns
returns c =
    bytes_of-words_of c.args.bytes.now c.requires (λ k. omega (arith, c.type_inv.bytes k))

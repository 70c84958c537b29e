use Rattle.std.proofs.Common.{◌≡◌, ◌+◌, ◌-◌, ◌*◌, refl, arith}
use Rattle.obj_area.proofs.WordLaws.{bytes_of-words_of}
use Rattle.obj_area.proofs.spelling.bytes_from.Goals as goal

pub returns-clause-value : goal.returns-clause-value
returns-clause-value c =
    let count : 8 * c.args.index + c.args.len - 8 * c.args.index ≡ c.args.len = omega arith in
    rw (bytes_of-words_of c.args.bytes.now c.requires.whole (λ k. omega (arith, c.type_inv.bytes k)), count) refl

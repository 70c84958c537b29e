use Rattle.std.proofs.Common.{◌+◌, arith, refl}
use Rattle.swizzle.proofs.KeptLaws.{lies-given}
use Rattle.swizzle.proofs.HeaderLaws.{place-lies, place-next}
use Rattle.swizzle.proofs.headers.HeadersLinks.next_at.Goals as goal

pub overflow_add-at : goal.overflow_add-at
overflow_add-at c =
    let l = place-lies c.args.self.now.area.now.words c.args.self.now.area.now.size c.args.at c.requires in
    omega (arith, l.to, l.small)

pub word-requires : goal.word-requires
word-requires c =
    let area = c.args.self.now.area.now in
    lies-given area _ c.args.at 3 _ (place-lies area.words area.size c.args.at c.requires) refl (omega arith)

pub overflow_cast-result : goal.overflow_cast-result
overflow_cast-result c =
    let area = c.args.self.now.area.now in
    let small = (place-next area.words area.size c.args.at c.requires c.word.result (c.args.at + 3) refl c.word.ensures).1 in
    omega (arith, small)

pub returns : goal.returns
returns c =
    let area = c.args.self.now.area.now in
    (place-next area.words area.size c.args.at c.requires c.word.result (c.args.at + 3) refl c.word.ensures).0

use Rattle.std.proofs.Common.{◌+◌, arith, refl}
use Rattle.swizzle.proofs.KeptLaws.{lies-given}
use Rattle.swizzle.proofs.HeaderLaws.{place-lies, place-pid}
use Rattle.swizzle.proofs.headers.HeadersLinks.key_at.Goals as goal

pub overflow_add-at : goal.overflow_add-at
overflow_add-at c =
    let l = place-lies c.args.self.now.area.now.words c.args.self.now.area.now.size c.args.at c.requires in
    omega (arith, l.to, l.small)

pub word-requires : goal.word-requires
word-requires c =
    let area = c.args.self.now.area.now in
    lies-given area _ c.args.at 1 _ (place-lies area.words area.size c.args.at c.requires) refl (omega arith)

pub returns : goal.returns
returns c =
    let area = c.args.self.now.area.now in
    place-pid area.words area.size c.args.at c.requires c.word.result (c.args.at + 1) refl c.word.ensures

use Rattle.std.proofs.Common.{arith}
use Rattle.swizzle.specs.Heap.{object_at}
use Rattle.swizzle.proofs.ObjectLaws.{refs_of_word}
use Rattle.swizzle.proofs.KeptLaws.{lies_in, lies-given, lies-word_at}
use Rattle.swizzle.proofs.swizzle.Swizzle.refs.Goals as goal

pub word-requires : goal.word-requires
word-requires c =
    let l = lies_in c.self.inside _ c.args.object c.self.view_is c.self.invariant c.requires in
    lies-given c.self.inside.area _ _ 0 _ l (omega arith) (omega arith)

pub returns : goal.returns
returns c =
    let l = lies_in c.self.inside _ c.args.object c.self.view_is c.self.invariant c.requires in
    let word = refs_of_word (object_at c.args.self.now c.args.object) c.word.result l.split.fit (lies-word_at _ _ c.args.object 0 _ _ l (omega arith) (omega arith) c.word.ensures) in
    omega (arith, word, l.split.fit.fields.refs)

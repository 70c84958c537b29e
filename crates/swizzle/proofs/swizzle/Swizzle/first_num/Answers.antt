use Rattle.std.proofs.Common.{arith}
use Rattle.swizzle.specs.Heap.{object_at}
use Rattle.swizzle.proofs.ObjectLaws.{refs_of_word}
use Rattle.swizzle.proofs.KeptLaws.{lies_in, lies-given, lies-word_at}
use Rattle.swizzle.proofs.swizzle.Swizzle.first_num.Goals as goal

pub overflow_add-result : goal.overflow_add-result
overflow_add-result c =
    let l = lies_in c.self.inside _ c.args.object c.self.view_is c.self.invariant c.requires in
    omega (arith, l.to, l.small)

pub word-first-requires : goal.word-first-requires
word-first-requires c =
    let l = lies_in c.self.inside _ c.args.object c.self.view_is c.self.invariant c.requires in
    lies-given c.self.inside.area _ _ 0 _ l (omega arith) (omega arith)

pub overflow_add-result-2 : goal.overflow_add-result-2
overflow_add-result-2 c =
    let l = lies_in c.self.inside _ c.args.object c.self.view_is c.self.invariant c.requires in
    let refs = refs_of_word (object_at c.args.self.now c.args.object) c.word-first.result l.split.fit (lies-word_at _ _ c.args.object 0 _ _ l (omega arith) (omega arith) c.word-first.ensures) in
    omega (arith, l.to, l.small, refs)

pub returns : goal.returns
returns c =
    let l = lies_in c.self.inside _ c.args.object c.self.view_is c.self.invariant c.requires in
    let refs = refs_of_word (object_at c.args.self.now c.args.object) c.word-first.result l.split.fit (lies-word_at _ _ c.args.object 0 _ _ l (omega arith) (omega arith) c.word-first.ensures) in
    omega (arith, l.to, l.small, refs)

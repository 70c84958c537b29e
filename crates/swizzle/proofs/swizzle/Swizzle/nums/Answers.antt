use Rattle.std.proofs.Common.{◌∙◌, arith}
use Rattle.std.proofs.lemmas.Nat.{and_mask}
use Rattle.swizzle.specs.Heap.{object_at}
use Rattle.swizzle.proofs.ObjectLaws.{nums_of_word}
use Rattle.swizzle.proofs.KeptLaws.{lies_in, lies-given, lies-word_at}
use Rattle.swizzle.proofs.swizzle.Swizzle.nums.Goals as goal

pub overflow_add-object : goal.overflow_add-object
overflow_add-object c =
    let l = lies_in c.self.inside _ c.args.object c.self.view_is c.self.invariant c.requires in
    omega (arith, l.to, l.small)

pub word-requires : goal.word-requires
word-requires c =
    let l = lies_in c.self.inside _ c.args.object c.self.view_is c.self.invariant c.requires in
    lies-given c.self.inside.area _ _ 2 _ l (omega arith) (omega arith)

pub returns : goal.returns
returns c =
    let l = lies_in c.self.inside _ c.args.object c.self.view_is c.self.invariant c.requires in
    let word = nums_of_word (object_at c.args.self.now c.args.object) c.word.result l.split.fit (lies-word_at _ _ c.args.object 2 _ _ l (omega arith) (omega arith) c.word.ensures) in
    and_mask c.word.result 32 ∙ word

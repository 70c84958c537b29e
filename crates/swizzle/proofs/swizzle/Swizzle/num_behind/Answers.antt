use Rattle.std.proofs.Common.{◌∙◌, ◌+◌, arith}
use Rattle.swizzle.specs.Heap.{header_at, object_at}
use Rattle.swizzle.proofs.ObjectLaws.{word_of_num}
use Rattle.swizzle.proofs.KeptLaws.{lies_in, lies-given, lies-word_at}
use Rattle.swizzle.proofs.swizzle.Swizzle.num_behind.Goals as goal

pub overflow_add-object : goal.overflow_add-object
overflow_add-object c =
    let l = lies_in c.self.inside _ c.args.object c.self.view_is c.self.invariant c.requires.held in
    omega (arith, l.to, l.small, c.requires.refs)

pub overflow_add-object-2 : goal.overflow_add-object-2
overflow_add-object-2 c =
    let l = lies_in c.self.inside _ c.args.object c.self.view_is c.self.invariant c.requires.held in
    omega (arith, l.to, l.small, c.requires.refs)

pub overflow_add-object-3 : goal.overflow_add-object-3
overflow_add-object-3 c =
    let l = lies_in c.self.inside _ c.args.object c.self.view_is c.self.invariant c.requires.held in
    omega (arith, l.to, l.small, c.requires.refs)

pub word-requires : goal.word-requires
word-requires c =
    let l = lies_in c.self.inside _ c.args.object c.self.view_is c.self.invariant c.requires.held in
    let place = c.requires.refs in
    lies-given c.self.inside.area _ _ (4 + (header_at c.args.self.now c.args.object).refs + c.args.index) _ l (omega arith) (omega arith)

pub returns : goal.returns
returns c =
    let l = lies_in c.self.inside _ c.args.object c.self.view_is c.self.invariant c.requires.held in
    let place = c.requires.refs in
    lies-word_at _ _ c.args.object (4 + (header_at c.args.self.now c.args.object).refs + c.args.index) _ _ l (omega arith) (omega arith) c.word.ensures
    ∙ word_of_num (object_at c.args.self.now c.args.object) c.args.index l.split.fit

use Rattle.std.proofs.Common.{◌≡◌, ◌+◌, ap, sym, ◌∙◌, arith}
use Rattle.swizzle.specs.Heap.{object_at}
use Rattle.std.proofs.Common.{Some, subst}
use Rattle.obj_layout.specs.Reference.{reference_in, IsReference}
use Rattle.obj_layout.proofs.ReferenceLaws.{reference_in-reference_word}
use Rattle.swizzle.specs.Heap.{ref_at}
use Rattle.swizzle.proofs.ObjectLaws.{word_of_ref, AreReferences-at}
use Rattle.swizzle.proofs.KeptLaws.{lies_in, lies-given, lies-word_at}
use Rattle.swizzle.proofs.swizzle.Swizzle.peek.Goals as goal

pub overflow_add-object : goal.overflow_add-object
overflow_add-object c =
    let l = lies_in c.self.inside _ c.args.object c.self.view_is c.self.invariant c.requires.held in
    omega (arith, l.to, l.small)

pub overflow_add-object-2 : goal.overflow_add-object-2
overflow_add-object-2 c =
    let l = lies_in c.self.inside _ c.args.object c.self.view_is c.self.invariant c.requires.held in
    omega (arith, l.to, l.small)

pub word-requires : goal.word-requires
word-requires c =
    let l = lies_in c.self.inside _ c.args.object c.self.view_is c.self.invariant c.requires.held in
    lies-given c.self.inside.area _ _ (4 + c.args.slot) _ l (omega arith) (omega arith)

pub unreachable-requires : goal.unreachable-requires
unreachable-requires c =
    let l = lies_in c.self.inside _ c.args.object c.self.view_is c.self.invariant c.requires.held in
    let o = object_at c.args.self.now c.args.object in
    let word = lies-word_at _ _ c.args.object (4 + c.args.slot) _ _ l (omega arith) (omega arith) c.word.ensures ∙ word_of_ref o c.args.slot l.split.fit c.requires.below in
    let read : reference_in c.word.result ≡ Some (ref_at c.args.self.now c.args.object c.args.slot) = ap reference_in word ∙ reference_in-reference_word (ref_at c.args.self.now c.args.object c.args.slot) (AreReferences-at o.refs c.args.slot l.split.fit.references) in
    let none = c.in-None.ensures in
    cc

pub returns-clause-value : goal.returns-clause-value
returns-clause-value c =
    let l = lies_in c.self.inside _ c.args.object c.self.view_is c.self.invariant c.requires.held in
    let o = object_at c.args.self.now c.args.object in
    let word = lies-word_at _ _ c.args.object (4 + c.args.slot) _ _ l (omega arith) (omega arith) c.word.ensures ∙ word_of_ref o c.args.slot l.split.fit c.requires.below in
    let read : reference_in c.word.result ≡ Some (ref_at c.args.self.now c.args.object c.args.slot) = ap reference_in word ∙ reference_in-reference_word (ref_at c.args.self.now c.args.object c.args.slot) (AreReferences-at o.refs c.args.slot l.split.fit.references) in
    let some = c.in-Some.ensures in
    cc

pub returns-clause-fits : goal.returns-clause-fits
returns-clause-fits c =
    let o = object_at c.args.self.now c.args.object in
    let l = lies_in c.self.inside _ c.args.object c.self.view_is c.self.invariant c.requires.held in
    subst IsReference (sym (returns-clause-value c)) (AreReferences-at o.refs c.args.slot l.split.fit.references)

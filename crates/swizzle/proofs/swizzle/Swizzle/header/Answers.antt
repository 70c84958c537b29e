use Rattle.std.proofs.Common.{◌≡◌, Some, None, ap, sym, ◌∙◌, arith, [], ◌∷◌}
use Rattle.obj_layout.specs.Header.{header_fault}
use Rattle.obj_layout.proofs.HeaderLaws.{header_fault-header_words, header_words-injective}
use Rattle.swizzle.specs.Heap.{header_at}
use Rattle.swizzle.proofs.KeptLaws.{lies, lies-given, lies-header}
use Rattle.swizzle.proofs.swizzle.Swizzle.header.Goals as goal

pub word-requires : goal.word-requires
word-requires c =
    let l = lies _ _ _ _ c.args.object c.self.view_is c.self.invariant.cut c.self.invariant.heap c.requires in
    lies-given c.self.inside.area _ _ 0 _ l (omega arith) (omega arith)

pub overflow_add-object : goal.overflow_add-object
overflow_add-object c =
    let l = lies _ _ _ _ c.args.object c.self.view_is c.self.invariant.cut c.self.invariant.heap c.requires in
    omega (arith, l.to, l.small)

pub word-requires-2 : goal.word-requires-2
word-requires-2 c =
    let l = lies _ _ _ _ c.args.object c.self.view_is c.self.invariant.cut c.self.invariant.heap c.requires in
    lies-given c.self.inside.area _ _ 1 _ l (omega arith) (omega arith)

pub overflow_add-object-2 : goal.overflow_add-object-2
overflow_add-object-2 c =
    let l = lies _ _ _ _ c.args.object c.self.view_is c.self.invariant.cut c.self.invariant.heap c.requires in
    omega (arith, l.to, l.small)

pub word-requires-3 : goal.word-requires-3
word-requires-3 c =
    let l = lies _ _ _ _ c.args.object c.self.view_is c.self.invariant.cut c.self.invariant.heap c.requires in
    lies-given c.self.inside.area _ _ 2 _ l (omega arith) (omega arith)

pub overflow_add-object-3 : goal.overflow_add-object-3
overflow_add-object-3 c =
    let l = lies _ _ _ _ c.args.object c.self.view_is c.self.invariant.cut c.self.invariant.heap c.requires in
    omega (arith, l.to, l.small)

pub word-requires-4 : goal.word-requires-4
word-requires-4 c =
    let l = lies _ _ _ _ c.args.object c.self.view_is c.self.invariant.cut c.self.invariant.heap c.requires in
    lies-given c.self.inside.area _ _ 3 _ l (omega arith) (omega arith)

pub unreachable-requires : goal.unreachable-requires
unreachable-requires c =
    let l = lies _ _ _ _ c.args.object c.self.view_is c.self.invariant.cut c.self.invariant.heap c.requires in
    let same = lies-header _ _ _ _ _ _ _ l c.word.ensures c.word-2.ensures c.word-3.ensures c.word-4.ensures in
    let none : header_fault (c.word.result ∷ c.word-2.result ∷ c.word-3.result ∷ c.word-4.result ∷ []) ≡ None = ap header_fault same ∙ header_fault-header_words (header_at c.args.self.now c.args.object) l.split.fit.fields l.split.fit.lengths in
    let both : Some c.in-Err.field-0 ≡ None = sym c.in-Err.ensures.refused ∙ none in
    cc

pub returns-clause-value : goal.returns-clause-value
returns-clause-value c =
    let l = lies _ _ _ _ c.args.object c.self.view_is c.self.invariant.cut c.self.invariant.heap c.requires in
    let same = lies-header _ _ _ _ _ _ _ l c.word.ensures c.word-2.ensures c.word-3.ensures c.word-4.ensures in
    header_words-injective c.in-Ok.header (header_at c.args.self.now c.args.object) c.in-Ok.ensures.fields l.split.fit.fields (c.in-Ok.ensures.read ∙ same)

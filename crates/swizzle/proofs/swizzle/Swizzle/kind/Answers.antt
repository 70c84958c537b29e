use Rattle.std.proofs.Common.{Some, None, ◌≡◌, sym, ◌∙◌, arith}
use Rattle.swizzle.specs.Heap.{header_at, object_at}
use Rattle.swizzle.proofs.ObjectLaws.{kind_in_word}
use Rattle.swizzle.proofs.KeptLaws.{lies_in, lies-given, lies-word_at}
use Rattle.swizzle.proofs.swizzle.Swizzle.kind.Goals as goal

pub word-requires : goal.word-requires
word-requires c =
    let l = lies_in c.self.inside _ c.args.object c.self.view_is c.self.invariant c.requires in
    lies-given c.self.inside.area _ _ 0 _ l (omega arith) (omega arith)

pub unreachable-requires : goal.unreachable-requires
unreachable-requires c =
    let l = lies_in c.self.inside _ c.args.object c.self.view_is c.self.invariant c.requires in
    let is = kind_in_word (object_at c.args.self.now c.args.object) c.word.result l.split.fit
    (lies-word_at _ _ c.args.object 0 _ _ l (omega arith) (omega arith) c.word.ensures) in
    let both : None ≡ Some (header_at c.args.self.now c.args.object).kind = sym c.in-None.is ∙ c.numbered.ensures ∙ is in
    cc

pub returns : goal.returns
returns c =
    let l = lies_in c.self.inside _ c.args.object c.self.view_is c.self.invariant c.requires in
    let is = kind_in_word (object_at c.args.self.now c.args.object) c.word.result l.split.fit
    (lies-word_at _ _ c.args.object 0 _ _ l (omega arith) (omega arith) c.word.ensures) in
    let both : Some c.in-Some.kind ≡ Some (header_at c.args.self.now c.args.object).kind = sym c.in-Some.is ∙ c.numbered.ensures ∙ is in
    cc

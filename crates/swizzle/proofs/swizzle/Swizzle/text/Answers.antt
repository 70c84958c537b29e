use Rattle.std.proofs.Common.{◌∙◌, ap, arith}
use Rattle.swizzle.specs.Objects.{words_before}
use Rattle.swizzle.specs.Heap.{header_at}
use Rattle.swizzle.proofs.KeptLaws.{lies_in}
use Rattle.swizzle.proofs.TextLaws.{words_before-le}
use Rattle.swizzle.proofs.swizzle.Swizzle.text.Goals as goal

pub overflow_add-first : goal.overflow_add-first
overflow_add-first c =
    let l = lies_in c.self.inside _ c.args.object c.self.view_is c.self.invariant c.requires.held in
    let before = c.words_before.ensures ∙ ap words_before c.kind.ensures in
    omega (arith, l.to, l.small, c.first_num.ensures, before, words_before-le (header_at c.args.self.now c.args.object).kind)

pub text_within-requires-clause-first : goal.text_within-requires-clause-first
text_within-requires-clause-first c =
    let before = c.words_before.ensures ∙ ap words_before c.kind.ensures in
    omega (arith, c.first_num.ensures, before)

pub returns-clause-len : goal.returns-clause-len
returns-clause-len c = c.text_within.ensures.len ∙ c.byte_count.ensures

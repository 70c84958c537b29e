use Rattle.std.proofs.Common.{◌∙◌, ap, sym}
use Rattle.ps_base.specs.List.{items_of}
use Rattle.ps_tree.specs.Phrase.{at, Sequence, form_of}
use Rattle.ps_tree.specs.PhraseLists.{phrases_in}
use Rattle.ps_tree.proofs.PhraseLemmas.{form_of-Sequence}
use Rattle.ps_checked.proofs.items.taken_items.Goals as goal

pub returns-in-Sequence-clause-taken : goal.returns-in-Sequence-clause-taken
returns-in-Sequence-clause-taken c =
    ap (λ f. at (form_of f) c.args.program.now.line) (sym c.deref_mut.ensures.value ∙ c.in-Sequence.is)
    ∙ ap (λ f. at f c.args.program.now.line) (form_of-Sequence c.in-Sequence.items ∙ ap (λ items. Sequence (phrases_in items)) (sym (c.into_vec.ensures ∙ ap items_of (c.replace.ensures.value ∙ c.in-Sequence.items-is))))

pub returns-in_default-clause-left : goal.returns-in_default-clause-left
returns-in_default-clause-left c is = ap (λ f. at (form_of f) c.args.program.now.line) c.deref_mut.ensures.value

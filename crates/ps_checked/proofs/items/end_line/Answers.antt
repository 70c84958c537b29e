use Rattle.std.proofs.Common.{◌≡◌, ◌∙◌, ap, sym}
use Rattle.ps_tree.specs.Phrase.{at, Sequence, form_of}
use Rattle.ps_tree.specs.PhraseLists.{phrases_in}
use Rattle.ps_tree.specs.declared.rough.Rough.{Rough}
use Rattle.ps_tree.proofs.PhraseLemmas.{form_of-Sequence}
use Rattle.ps_declared.specs.ps_typing.Program.{end_line}
use Rattle.ps_checked.proofs.Ends.{last_is, last_of_none}
use Rattle.ps_checked.proofs.items.end_line.Goals as goal

pub returns-in-empty : goal.returns-in-empty
returns-in-empty c =
    let is : form_of c.args.program.now.form.value ≡ Sequence (phrases_in c.as_slice.result.now) = ap form_of (sym c.deref.ensures ∙ c.in-Sequence.is) ∙ form_of-Sequence c.in-Sequence.items ∙ ap (λ items. Sequence (phrases_in items)) (sym c.as_slice.ensures) in
    sym (ap (λ form. end_line (at form c.args.program.now.line)) is ∙ last_of_none c.args.program.now.line c.as_slice.result.now c.in-empty.len_below)

pub returns-in-len1-up : goal.returns-in-len1-up
returns-in-len1-up c =
    let is : form_of c.args.program.now.form.value ≡ Sequence (phrases_in c.as_slice.result.now) = ap form_of (sym c.deref.ensures ∙ c.in-Sequence.is) ∙ form_of-Sequence c.in-Sequence.items ∙ ap (λ items. Sequence (phrases_in items)) (sym c.as_slice.ensures) in
    sym (ap (λ form. end_line (at form c.args.program.now.line)) is ∙ last_is c.args.program.now.line c.as_slice.result.now c.last-item.result c.in-len1-up.len_at_least ∙ ap (λ (r : Rough). r.line) (sym c.last-item.is))

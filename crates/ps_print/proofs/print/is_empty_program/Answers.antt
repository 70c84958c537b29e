use Rattle.std.proofs.Common.{◌≡◌, ◌∙◌, ap, sym}
use Rattle.ps_tree.specs.Phrase.{Sequence, at, form_of}
use Rattle.ps_tree.specs.PhraseLists.{phrases_in}
use Rattle.ps_type_pieces.specs.ps_layout.Waiting.{is_empty_program}
use Rattle.ps_tree.proofs.PhraseLemmas.{form_of-Sequence}
use Rattle.ps_print.proofs.Views.{is_empty}
use Rattle.ps_print.proofs.print.is_empty_program.Goals as goal

pub returns-in-Sequence : goal.returns-in-Sequence
returns-in-Sequence c =
    let line = c.args.tree.now.line in
    let is : form_of c.args.tree.now.form.value ≡ Sequence (phrases_in c.as_slice.result.now) =
    ap form_of (sym c.deref.ensures ∙ c.in-Sequence.is) ∙ form_of-Sequence c.in-Sequence.items ∙ ap (λ items. Sequence (phrases_in items)) (sym c.as_slice.ensures) in
    c.is_empty.ensures ∙ is_empty c.as_slice.result.now line ∙ ap (λ f. is_empty_program (at f line)) (sym is)

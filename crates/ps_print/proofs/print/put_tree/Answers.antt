use Rattle.std.proofs.Common.{◌≡◌, ◌∙◌, ap, sym, refl, rules, arith}
use Rattle.ps_tree.specs.Phrase.{Sequence, form_of}
use Rattle.ps_tree.specs.PhraseLists.{phrases_in}
use Rattle.ps_tree.proofs.PhraseLemmas.{form_of-Sequence}
use Rattle.ps_tree.specs.declared.rough.RoughForm.{RoughForm}
use Rattle.ps_type_pieces.specs.ps_layout.Lexemes.{nothing}
use Rattle.ps_type_pieces.specs.ps_layout.Layout.{other, form_lexemes}
use Rattle.ps_type_pieces.specs.ps_layout.Weights.{weight_form}
use Rattle.ps_type_pieces.specs.ps_layout.Waiting.{waiting}
use Rattle.ps_type_pieces.proofs.of_ps_layout.Printing.{puts_one}
use Rattle.ps_print.proofs.Views.{layout_of-form}
use Rattle.ps_print.proofs.print.put_tree.Goals as goal

pub returns-in-Sequence : goal.returns-in-Sequence
returns-in-Sequence c =
    let is : form_of c.args.tree.now.form.value ≡ Sequence (phrases_in c.as_slice.result.now) =
    ap form_of (sym c.deref.ensures ∙ c.in-Sequence.is) ∙ form_of-Sequence c.in-Sequence.items ∙ ap (λ items. Sequence (phrases_in items)) (sym c.as_slice.ensures) in
    let put = c.put_program.ensures refl in
    search (rules, is, put)

pub returns-in_default : goal.returns-in_default
returns-in_default c =
    let tree = c.args.tree.now in
    let is = c.deref-in_default.ensures in
    puts_one _ (waiting c.args.pending.now) (waiting c.put.new.self) c.put.result c.put.ensures
    (ap (λ (f : RoughForm). form_lexemes 0 other nothing (form_of f)) is
    ∙ layout_of-form tree.form.value tree.line (λ items same. c.in_default.not-Sequence items (c.deref.ensures ∙ same)))
    (omega (arith, ap (λ (f : RoughForm). weight_form (form_of f)) is))

use Rattle.std.proofs.Common.{◌≡◌, ◌∙◌, ap, sym}
use Rattle.ps_tree.specs.Phrase.{Form, Write, form_of}
use Rattle.ps_tree.specs.PhraseLists.{items_in}
use Rattle.ps_type_pieces.specs.ps_layout.Layout.{is_taken, before_colon}
use Rattle.ps_tree.proofs.PhraseLemmas.{form_of-Write}
use Rattle.ps_print.proofs.Views.{takes_no_colon}
use Rattle.ps_print.proofs.clauses.takes_colon.Goals as goal

pub returns-in-Write : goal.returns-in-Write
returns-in-Write c =
    let is : form_of c.args.form.now ≡ Write (items_in c.as_slice.result.now) =
    ap form_of c.in-Write.is ∙ form_of-Write c.in-Write.items ∙ ap (λ items. Write (items_in items)) (sym c.as_slice.ensures) in
    c.ends_open.ensures ∙ ap (λ (f : Form). is_taken before_colon f) (sym is)

pub returns-in_default : goal.returns-in_default
returns-in_default c = takes_no_colon c.args.form.now c.in_default.not-Write

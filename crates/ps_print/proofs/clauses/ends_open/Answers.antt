use Rattle.std.proofs.Common.{◌∙◌, ap, sym}
use Rattle.ps_tree.specs.PhraseLists.{items_in}
use Rattle.ps_type_pieces.specs.ps_layout.Layout.{ends_open}
use Rattle.ps_print.proofs.Views.{ends_open_with, other_flag}
use Rattle.ps_print.proofs.clauses.ends_open.Goals as goal

pub returns-in-Some : goal.returns-in-Some
returns-in-Some c =
    other_flag _ _ c.is_none.ensures
    ∙ sym (ends_open_with c.in-Some.field-0-1.now c.in-Some.last.now)
    ∙ ap (λ items. ends_open (items_in items)) (sym c.in-Some.ensures.cases.0)

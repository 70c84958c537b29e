use Rattle.std.proofs.Common.{◌∙◌, ◌++◌, ap, sym}
use Rattle.ps_tree.specs.Phrase.{phrase_of}
use Rattle.ps_type_pieces.specs.ps_layout.Waiting.{waiting, lexemes_of}
use Rattle.ps_type_pieces.specs.ps_layout.Lexemes.{text_of}
use Rattle.ps_type_pieces.specs.ps_layout.Weights.{weight}
use Rattle.ps_print.proofs.Printing.{print_made}
use Rattle.ps_print.proofs.print.print.Goals as goal

pub returns : goal.returns
returns c =
    print_made (phrase_of c.args.tree.now) c.write_all.new.text.items c.write_end.new.text.items
    (waiting c.put_tree.new.pending) (waiting c.new-pending.result) (weight (phrase_of c.args.tree.now))
    (sym c.is_empty_program.ensures ∙ c.if-is_empty_program.false) c.new-pending.ensures
    c.in_ok-put_tree.ensures
    (c.in_ok-write_all.ensures ∙ ap (λ text. text ++ text_of (lexemes_of (waiting c.put_tree.new.pending))) c.new-text.ensures.items)
    c.in_ok-write_end.ensures

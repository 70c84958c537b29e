use Rattle.std.proofs.Common.{◌≡◌, ◌∙◌, ap, sym, subst, arith}
use Rattle.std.specs.Prelude.{OnOk}
use Rattle.ps_tree.specs.Phrase.{WriteItem, item, item_of, absent, present, phrase_of}
use Rattle.ps_tree.specs.PhraseLists.{maybe_in}
use Rattle.ps_tree.specs.declared.rough.RoughItem.{out-RoughItem}
use Rattle.ps_type_pieces.specs.ps_layout.Layout.{item_lexemes}
use Rattle.ps_type_pieces.specs.ps_layout.Weights.{weight_item}
use Rattle.ps_type_pieces.specs.ps_layout.Waiting.{waiting, behind_of, Adds}
use Rattle.ps_print.proofs.Views.{item_of-parts}
use Rattle.ps_type_pieces.proofs.of_ps_layout.Printing.{puts_one}
use Rattle.ps_print.proofs.items.put_item.Goals as goal

pub returns-in-None : goal.returns-in-None
returns-in-None c =
    let parts = out-RoughItem c.args.item.now in
    let is : item_of c.args.item.now ≡ item (phrase_of parts.e) absent parts.line =
    item_of-parts c.args.item.now ∙ ap (λ w. item (phrase_of parts.e) (maybe_in w) parts.line) c.in-None.is in
    puts_one _ (waiting c.args.pending.now) (waiting c.put.new.self) c.put.result c.put.ensures
    (ap (item_lexemes c.args.indent (behind_of c.args.last)) (sym is)) (omega (arith, ap weight_item is))

pub returns-in-Some : goal.returns-in-Some
returns-in-Some c =
    let parts = out-RoughItem c.args.item.now in
    let is : item_of c.args.item.now ≡ item (phrase_of parts.e) (present (phrase_of c.in-Some.w)) parts.line =
    item_of-parts c.args.item.now ∙ ap (λ w. item (phrase_of parts.e) (maybe_in w) parts.line) c.in-Some.is in
    subst
    (λ (i : WriteItem). OnOk c.put_wide.result (Adds (waiting c.args.pending.now) (item_lexemes c.args.indent (behind_of c.args.last) i) (weight_item i) (waiting c.put_wide.new.pending)))
    (sym is) c.put_wide.ensures

use Rattle.std.proofs.Common.{ℕ, List, ap, ◌∙◌}
use Rattle.page_map.specs.Pages.{without}
use Rattle.page_map.proofs.MapLaws.{holding}
use Rattle.page_map.proofs.page_map.hold_all.Goals as goal

pub returns : goal.returns
returns c =
    holding c.args.free.now c.hold.new.self c.hold-2.new.self c.hold_each.new.self c.args.committed.now c.args.staged.now c.args.pins.now
    (c.hold.ensures ∙ ap (λ (list : List ℕ). without c.args.free.now list) c.numbers.ensures)
    (c.hold-2.ensures ∙ ap (λ (list : List ℕ). without c.hold.new.self list) c.numbers-2.ensures)
    c.hold_each.ensures

use Rattle.std.proofs.Common.{ℕ, Bool, List, length, sym, ◌∙◌, ap, subst}
use Rattle.page_map.specs.Map.{MapView}
use Rattle.std.specs.Vec.{with_items}
use Rattle.std.proofs.lemmas.List.{with_items_is}
use Rattle.paged_volume.specs.Standing.{logical_of, map_count}
use Rattle.paged_volume.specs.Changing.{next_number}
use Rattle.paged_volume.specs.Planning.{IsChosen}
use Rattle.paged_volume.proofs.Choosing.{same_next}
use Rattle.paged_volume.proofs.Planned.{is_planned}
use Rattle.paged_volume.proofs.planning.plan.Goals as goal

pub returns : goal.returns
returns c =
    let t = c.args.table.now in
    let now = c.choose.new.map in
    let chosen = subst (λ (xs : List ℕ). IsChosen t.map now xs c.choose.new.chosen (logical_of c.args.next) c.args.next.depth (map_count c.args.next)) c.deref.ensures.value c.choose.ensures in
    let lists = c.trim.ensures.lists in
    is_planned t c.args.next now c.choose.new.chosen c.requires.table c.sound.ensures c.requires.follows c.requires.has chosen c.trim.new.map (record t { next = with_items t.next c.choose.new.chosen })
    (with_items_is t.next c.choose.new.chosen (chosen.size ∙ sym c.requires.table.nexts ∙ sym t.next.ok.0))
    (lists.0 ∙ ap (λ (m : MapView). m.committed) chosen.lists) (lists.1 ∙ ap (λ (m : MapView). m.pins) chosen.lists) (ap (λ (xs : List Bool). length xs) lists.2 ∙ chosen.long)
    (lists.3 ∙ ap (λ (m : MapView). length m.staged) chosen.lists)
    (λ page. c.trim.ensures.staged page ∙ ap (λ (n : ℕ). next_number now n page) c.logical_of.ensures ∙ ap (λ (m : MapView). next_number m (logical_of c.args.next) page) chosen.lists ∙ same_next t.map now.free (logical_of c.args.next) page)

use Rattle.std.proofs.Common.{List, length, map, Option, sym, ◌∙◌, ap}
use Rattle.std.specs.Vec.{with_items}
use Rattle.std.proofs.lemmas.List.{length-map, with_items_is}
use Rattle.paged_volume.specs.Pinning.{outdated}
use Rattle.paged_volume.specs.declared.pinned.Pinned.{Pinned}
use Rattle.paged_volume.proofs.Committing.{turned}
use Rattle.paged_volume.proofs.planning.turn.Goals as goal

pub returns : goal.returns
returns c =
    let t = c.args.table.now in
    let pins_are = with_items_is t.pins c.outdate.new.pins (ap (λ (xs : List (Option Pinned)). length xs) (c.outdate.ensures ∙ ap (λ (xs : List (Option Pinned)). map outdated xs) c.deref_mut.ensures.value) ∙ length-map t.pins.items outdated ∙ sym t.pins.ok.0) in
    turned t (record t { named = c.copy_from_slice.new.self; pins = with_items t.pins c.outdate.new.pins }) c.args.next c.requires (c.copy_from_slice.ensures.items ∙ c.deref-2.ensures.value)
    (pins_are ∙ c.outdate.ensures ∙ ap (λ (xs : List (Option Pinned)). map outdated xs) c.deref_mut.ensures.value) c.settle.new.self c.deref.result.now c.deref.ensures.value c.settle.ensures

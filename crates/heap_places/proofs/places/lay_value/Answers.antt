use Rattle.std.proofs.Common.{subst}
use Rattle.heap_texts.specs.swizzle.Joint.{shown_at}
use Rattle.heap_places.specs.declared.value.Value.{Value}
use Rattle.heap_places.specs.Places.{HasRow}
use Rattle.heap_places.proofs.PlaceLaws.{nums_below, refs_below}
use Rattle.heap_places.proofs.places.lay_value.Goals as goal

pub set_num-requires-clause-below : goal.set_num-requires-clause-below
set_num-requires-clause-below c =
    nums_below c.args.sw.now c.args.object c.args.index c.sound.ensures c.requires.held
    (subst (λ (v : Value). HasRow (shown_at c.args.sw.now c.args.object) c.args.index v) c.in-Num.is c.requires.place)

pub set_num-requires-in-Flag-clause-below : goal.set_num-requires-in-Flag-clause-below
set_num-requires-in-Flag-clause-below c =
    nums_below c.args.sw.now c.args.object c.args.index c.sound.ensures c.requires.held
    (subst (λ (v : Value). HasRow (shown_at c.args.sw.now c.args.object) c.args.index v) c.in-Flag.is c.requires.place)

pub set_ref-requires-clause-below : goal.set_ref-requires-clause-below
set_ref-requires-clause-below c =
    refs_below c.args.sw.now c.args.object c.args.index c.sound.ensures c.requires.held
    (subst (λ (v : Value). HasRow (shown_at c.args.sw.now c.args.object) c.args.index v) c.in-Ref.is c.requires.place)

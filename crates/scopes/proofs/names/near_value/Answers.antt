use Rattle.std.proofs.Common.{subst}
use Rattle.closures.specs.swizzle.Joint.{shown_at}
use Rattle.closures.specs.text_forms.declared.forms.Form.{Form}
use Rattle.closures.specs.heap_places.Places.{HasPlace}
use Rattle.closures.proofs.of_heap_places.PlaceLaws.{refs_below}
use Rattle.scopes.proofs.names.near_value.Goals as goal

pub peek-requires-clause-below : goal.peek-requires-clause-below
peek-requires-clause-below g c =
    refs_below c.args.sw.now c.args.object c.args.place.index c.sound.ensures c.requires.held
    (subst (λ (f : Form). HasPlace (shown_at c.args.sw.now c.args.object) f c.args.place.index) c.in-Reference.is c.requires.place)

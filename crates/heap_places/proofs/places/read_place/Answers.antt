use Rattle.std.proofs.Common.{subst}
use Rattle.heap_texts.specs.text_forms.declared.forms.Form.{Form}
use Rattle.heap_texts.specs.swizzle.Joint.{shown_at}
use Rattle.heap_places.specs.Places.{HasPlace}
use Rattle.heap_places.proofs.PlaceLaws.{refs_below, reads-reference}
use Rattle.heap_places.proofs.places.read_place.Goals as goal

pub touch_slot-requires-clause-below : goal.touch_slot-requires-clause-below
touch_slot-requires-clause-below g c =
    refs_below c.args.sw.now c.args.object c.args.place.index c.sound.ensures c.requires.held
    (subst (λ (f : Form). HasPlace (shown_at c.args.sw.now c.args.object) f c.args.place.index) c.in-Reference.is c.requires.place)

pub returns-in-Ok-clause-read : goal.returns-in-Ok-clause-read
returns-in-Ok-clause-read g c =
    reads-reference c.args.sw.now c.touch_slot.new.self (g.V.Vault.outside c.args.vault.now) (g.V.Vault.outside c.touch_slot.new.vault) c.args.object
    c.args.place.index c.args.place.form c.in-Ok.to
    c.in-Reference.is c.in-Ok.ensures.target c.in-Ok.ensures.keeps c.in-Ok.ensures.joint (λ near. (c.in-Ok.ensures.near near).0) c.in-Ok.ensures.only
    c.in-Ok.ensures.call

use Rattle.text_forms.proofs.Places.{places-apart}
use Rattle.text_forms.proofs.laws.places_lie_apart.Goals as goal

pub returns : goal.returns
returns c = places-apart

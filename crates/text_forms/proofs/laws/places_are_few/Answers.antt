use Rattle.text_forms.proofs.Passing.{few}
use Rattle.text_forms.proofs.laws.places_are_few.Goals as goal

pub returns : goal.returns
returns c = few

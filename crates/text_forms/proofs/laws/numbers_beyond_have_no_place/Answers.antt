use Rattle.text_forms.proofs.Places.{located-beyond}
use Rattle.text_forms.proofs.laws.numbers_beyond_have_no_place.Goals as goal

pub returns : goal.returns
returns c = located-beyond

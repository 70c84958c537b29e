use Rattle.text_forms.proofs.Places.{place-within}
use Rattle.text_forms.proofs.laws.place_lies_in_its_row.Goals as goal

pub returns : goal.returns
returns c = place-within

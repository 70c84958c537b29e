use Rattle.text_forms.proofs.Places.{counted}
use Rattle.text_forms.proofs.laws.rows_hold_all_places.Goals as goal

pub returns : goal.returns
returns c = counted

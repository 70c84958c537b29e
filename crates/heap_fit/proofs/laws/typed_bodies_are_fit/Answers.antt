use Rattle.heap_fit.proofs.TypedFits.{fits_body}
use Rattle.heap_fit.proofs.laws.typed_bodies_are_fit.Goals as goal

pub returns : goal.returns
returns c = λ scopes wholes levels of is_body runs sm are. fits_body wholes levels is_body runs sm are

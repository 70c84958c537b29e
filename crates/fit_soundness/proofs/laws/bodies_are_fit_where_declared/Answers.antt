use Rattle.fit_soundness.proofs.Narrowing.{body_where_declared}
use Rattle.fit_soundness.proofs.laws.bodies_are_fit_where_declared.Goals as goal

pub returns : goal.returns
returns c = body_where_declared

use Rattle.std.proofs.Common.{arith, ◌/◌}
use Rattle.db_dir.proofs.shape.misfit_of_refs.Goals as goal

pub returns-clause-shaped : goal.returns-clause-shaped
returns-clause-shaped c = (c.args.refs / 3, record { is = omega arith; some = omega arith; few = omega arith })

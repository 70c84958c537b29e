use Rattle.proc_values.proofs.StayLaws.{unit-has, constant-read}
use Rattle.proc_values.proofs.laws.constant_is_read.Goals as goal

pub returns-clause-has : goal.returns-clause-has
returns-clause-has c = unit-has

pub returns-clause-read : goal.returns-clause-read
returns-clause-read c = constant-read

use Rattle.proc_values.proofs.StayLaws.{unit-stays, constant-stays, keeps-code, keeps-load}
use Rattle.proc_values.proofs.laws.loaded_stays.Goals as goal

pub returns-clause-unit : goal.returns-clause-unit
returns-clause-unit c = unit-stays

pub returns-clause-constant : goal.returns-clause-constant
returns-clause-constant c = constant-stays

pub returns-clause-kept : goal.returns-clause-kept
returns-clause-kept c = keeps-code

pub returns-clause-more : goal.returns-clause-more
returns-clause-more c = keeps-load

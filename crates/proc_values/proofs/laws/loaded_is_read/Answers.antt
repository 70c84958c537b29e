use Rattle.proc_values.proofs.LoadedLaws.{loaded-is, loaded-slots}
use Rattle.proc_values.proofs.laws.loaded_is_read.Goals as goal

pub returns-clause-unit : goal.returns-clause-unit
returns-clause-unit c = loaded-is

pub returns-clause-slots : goal.returns-clause-slots
returns-clause-slots c = loaded-slots

use Rattle.ps_causes.proofs.Converse.{no_fault}
use Rattle.ps_causes.proofs.laws.program_excludes_fault.Goals as goal

pub returns : goal.returns
returns c text stage program number line is fault = no_fault text stage program number line is fault

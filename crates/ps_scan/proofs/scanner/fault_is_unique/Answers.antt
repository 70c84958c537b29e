use Rattle.ps_scan.proofs.Laws.{same_fault}
use Rattle.ps_scan.proofs.scanner.fault_is_unique.Goals as goal

pub returns : goal.returns
returns c = λ text fault other first second. same_fault first second

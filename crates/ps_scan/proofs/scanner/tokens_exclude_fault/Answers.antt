use Rattle.ps_scan.proofs.Laws.{never_both}
use Rattle.ps_scan.proofs.scanner.tokens_exclude_fault.Goals as goal

pub returns : goal.returns
returns c = λ text tokens fault scans stops. never_both scans stops

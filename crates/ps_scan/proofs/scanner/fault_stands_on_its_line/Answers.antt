use Rattle.ps_scan.proofs.FaultLines.{fault_stands}
use Rattle.ps_scan.proofs.scanner.fault_stands_on_its_line.Goals as goal

pub returns : goal.returns
returns c = fault_stands

use Rattle.ps_scan.proofs.Scanning.{all_tokens, all_in_order}
use Rattle.ps_scan.proofs.scanner.tokens_are_slices.Goals as goal

pub returns-clause-slices : goal.returns-clause-slices
returns-clause-slices c = all_tokens c.requires

pub returns-clause-in_order : goal.returns-clause-in_order
returns-clause-in_order c = all_in_order c.requires

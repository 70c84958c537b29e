use Rattle.ps_scan.proofs.Laws.{same_tokens}
use Rattle.ps_scan.proofs.scanner.tokens_are_unique.Goals as goal

pub returns : goal.returns
returns c = λ text tokens others first second. same_tokens first second

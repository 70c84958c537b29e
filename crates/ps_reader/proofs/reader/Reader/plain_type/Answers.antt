use Rattle.ps_reader.proofs.Steps.{took, missing, failed}
use Rattle.ps_reader.proofs.reader.Reader.plain_type.Goals as goal

pub returns-in_err-take : goal.returns-in_err-take
returns-in_err-take c = failed _ _ c.from_residual.ensures.1 (missing c.in_err-take.ensures)

pub returns : goal.returns
returns c = took c.in_ok-take.ensures

use Rattle.ps_reader.proofs.Steps.{took, missing, failed, built}
use Rattle.ps_reader.proofs.reader.Reader.aborting.Goals as goal

pub returns-in_err-word : goal.returns-in_err-word
returns-in_err-word c = failed _ _ c.from_residual.ensures.1 (missing c.in_err-word.ensures)

pub returns : goal.returns
returns c = built _ c.form_at.ensures.made c.form_at.ensures.fault (took c.in_ok-word.ensures)

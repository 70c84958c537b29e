use Rattle.ps_reader.proofs.Steps.{took, missing, failed, tail_first}
use Rattle.ps_reader.proofs.reader.Reader.element_type.Goals as goal

pub returns-in_err-take : goal.returns-in_err-take
returns-in_err-take c = λ next. failed _ _ c.from_residual.ensures.1 (missing c.in_err-take.ensures)

pub returns : goal.returns
returns c = λ next. tail_first _ _ _ _ c.ty.ensures (took c.in_ok-take.ensures)

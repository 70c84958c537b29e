use Rattle.ps_reader.proofs.Steps.{on, took, took_name, missing, failed}
use Rattle.ps_reader.proofs.reader.Reader.name_behind.Goals as goal

pub returns-in_err-word : goal.returns-in_err-word
returns-in_err-word c = λ room next. failed _ _ c.from_residual.ensures.1 (missing c.in_err-word.ensures)

pub returns-in_err-name : goal.returns-in_err-name
returns-in_err-name c = λ room next. failed _ _ c.from_residual-in_err-name.ensures.1 ((took c.in_ok-word.ensures).halts _ (c.in_err-name.ensures _ _))

pub returns : goal.returns
returns c = λ room next. on (took c.in_ok-word.ensures) (took_name (next c.in_ok-word.word.token.line) c.in_ok-name.ensures)

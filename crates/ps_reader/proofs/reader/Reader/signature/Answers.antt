use Rattle.ps_reader.specs.inside.Stopping.{HaltsWith}
use Rattle.ps_reader.proofs.Steps.{on, took, missing, behind_first, failed}
use Rattle.ps_reader.proofs.reader.Reader.signature.Goals as goal

pub returns-in_err-take : goal.returns-in_err-take
returns-in_err-take c = λ next. failed _ _ c.from_residual.ensures.1 (missing c.in_err-take.ensures)

pub returns-in_err-params : goal.returns-in_err-params
returns-in_err-params c = λ next. failed _ _ c.from_residual-in_err-params.ensures.1 ((took c.in_ok-take.ensures).halts _ (HaltsWith.in_first c.in_err-params.ensures))

pub returns-in_err-gives : goal.returns-in_err-gives
returns-in_err-gives c = λ next. failed _ _ c.from_residual-in_err-gives.ensures.1 ((on (took c.in_ok-take.ensures) (behind_first c.in_ok-params.ensures)).halts _ (HaltsWith.in_first c.in_err-gives.ensures))

pub returns-in_err-take-2 : goal.returns-in_err-take-2
returns-in_err-take-2 c = λ next. failed _ _ c.from_residual-in_err-take-2.ensures.1 ((on (took c.in_ok-take.ensures) (on (behind_first c.in_ok-params.ensures) (behind_first c.in_ok-gives.ensures))).halts _ (missing c.in_err-take-2.ensures))

pub returns : goal.returns
returns c = λ next. on (took c.in_ok-take.ensures) (on (behind_first c.in_ok-params.ensures) (on (behind_first c.in_ok-gives.ensures) (took c.in_ok-take-2.ensures)))

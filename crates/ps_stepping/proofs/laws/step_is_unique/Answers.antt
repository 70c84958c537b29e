use Rattle.ps_stepping.proofs.Determined.{one_instruction, one_step}
use Rattle.ps_stepping.specs.Config.{code_in}
use Rattle.ps_stepping.proofs.laws.step_is_unique.Goals as goal

pub returns-clause-instruction : goal.returns-clause-instruction
returns-clause-instruction _ = λ c i j a b. one_instruction (code_in c.unit) c.at i j a b

pub returns-clause-step : goal.returns-clause-step
returns-clause-step _ = λ c s t a b. one_step c s t a b

use Rattle.std.proofs.Common.{◌∙◌}
use Rattle.ps_cases.proofs.Distinct.{code_place, code_found}
use Rattle.ps_cases.proofs.find.find_code.Goals as goal

pub returns-clause-found : goal.returns-clause-found
returns-clause-found c = rw c.first_with_code.ensures (code_found c.args.table.now c.args.code)

pub returns-clause-only : goal.returns-clause-only
returns-clause-only c = λ k at. c.first_with_code.ensures ∙ code_place c.args.table.now c.args.code k c.requires at

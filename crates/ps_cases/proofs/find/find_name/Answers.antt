use Rattle.std.proofs.Common.{◌∙◌}
use Rattle.ps_cases.proofs.Distinct.{name_place, name_found}
use Rattle.ps_cases.proofs.find.find_name.Goals as goal

pub returns-clause-found : goal.returns-clause-found
returns-clause-found c = rw c.first_with_name.ensures (name_found c.args.table.now c.args.name.now)

pub returns-clause-only : goal.returns-clause-only
returns-clause-only c = λ k at. c.first_with_name.ensures ∙ name_place c.args.table.now c.args.name.now k c.requires at

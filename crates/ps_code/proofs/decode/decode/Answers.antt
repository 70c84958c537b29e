use Rattle.std.proofs.Common.{sym, ◌∙◌}
use Rattle.ps_code.proofs.Fronts.{front_found, front_width, front_within, front_fits, front_is}
use Rattle.ps_code.proofs.decode.decode.Goals as goal

pub returns-in-Some-clause-found : goal.returns-in-Some-clause-found
returns-in-Some-clause-found c =
    rw c.in-Some.ensures.cases.0 (front_found c.in-Some.code.now c.in-Some.rest.now c.take_row.result c.take_row.ensures)

pub returns-in-Some-clause-width : goal.returns-in-Some-clause-width
returns-in-Some-clause-width c =
    front_width c.in-Some.code.now c.in-Some.rest.now c.take_row.result c.take_row.ensures

pub returns-in-Some-clause-within : goal.returns-in-Some-clause-within
returns-in-Some-clause-within c =
    rw c.in-Some.ensures.cases.0 (front_within c.in-Some.code.now c.in-Some.rest.now c.take_row.result c.take_row.ensures)

pub returns-in-Some-clause-fits : goal.returns-in-Some-clause-fits
returns-in-Some-clause-fits c =
    front_fits c.in-Some.code.now c.in-Some.rest.now c.take_row.result c.take_row.ensures

pub returns-in-Some-clause-only : goal.returns-in-Some-clause-only
returns-in-Some-clause-only c = λ i after is_instr spelled.
    front_is c.in-Some.code.now c.in-Some.rest.now c.take_row.result c.take_row.ensures i after is_instr (sym c.in-Some.ensures.cases.0 ∙ spelled)

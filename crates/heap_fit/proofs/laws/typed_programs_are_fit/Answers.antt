use Rattle.std.specs.Prelude.{[]}
use Rattle.heap_fit.proofs.TypedFits.{fits_body}
use Rattle.heap_fit.proofs.TypedPrograms.{program_small, whole_body}
use Rattle.heap_fit.proofs.laws.typed_programs_are_fit.Goals as goal

pub returns : goal.returns
returns c = λ tree program lets leaves is.
    fits_body [] [] (whole_body program (c.typed_program_is_well_typed.ensures tree program lets is)) (c.typed_program_runs.ensures tree program lets is leaves)
    (program_small tree program is (c.bodies_take_and_give_values.ensures tree program leaves is)) tt

use Rattle.unit_meaning.proofs.Meant.{meant}
use Rattle.unit_meaning.proofs.laws.checked_units_run_as_meant.Goals as goal

pub returns : goal.returns
returns c =
    meant c.typed_program_is_well_typed.ensures c.typed_programs_are_fit.ensures c.checked_commits_save_fit_heaps.ensures
    c.programs_run_as_meant_over_kept_heaps.ensures

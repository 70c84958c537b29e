use Rattle.ps_soundness.proofs.Telling.{Told}
use Rattle.fit_soundness.specs.Laws.{IsChecked, run_of}
use Rattle.fit_soundness.proofs.Runs.{checked_fit}
use Rattle.fit_soundness.proofs.Series.{series_fit}
use Rattle.fit_soundness.proofs.laws.series_leave_fit_heaps.Goals as goal

pub returns : goal.returns
returns c =
    let told : Told = record { types = c.type_texts_tell_types_apart.ensures; classes = c.class_texts_tell_classes_apart.ensures } in
    λ weigh turns input replies programs heap are h.
    series_fit IsChecked (run_of weigh turns input replies)
    (λ of at checked fits. checked_fit told weigh (record { turns = turns; input = input; heap = at; replies = replies }) of fits
    (c.typed_program_is_well_typed.ensures checked.tree of checked.lets checked.is) (c.typed_programs_are_fit.ensures checked.tree of checked.lets checked.leaves checked.is))
    programs heap are h

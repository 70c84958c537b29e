use Rattle.ps_soundness.proofs.Telling.{Told}
use Rattle.fit_soundness.proofs.Runs.{checked_fit}
use Rattle.fit_soundness.proofs.laws.checked_commits_save_fit_heaps.Goals as goal

pub returns : goal.returns
returns c =
    let told : Told = record { types = c.type_texts_tell_types_apart.ensures; classes = c.class_texts_tell_classes_apart.ensures } in
    λ weigh given tree of heap_fits lets leaves is.
    checked_fit told weigh given of heap_fits (c.typed_program_is_well_typed.ensures tree of lets is) (c.typed_programs_are_fit.ensures tree of lets leaves is)

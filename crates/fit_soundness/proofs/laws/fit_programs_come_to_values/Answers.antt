use Rattle.ps_soundness.proofs.Telling.{Told}
use Rattle.fit_soundness.specs.Laws.{program}
use Rattle.fit_soundness.proofs.Runs.{program_comes, goes_same}
use Rattle.fit_soundness.proofs.laws.fit_programs_come_to_values.Goals as goal

pub returns : goal.returns
returns c =
    let told : Told = record { types = c.type_texts_tell_types_apart.ensures; classes = c.class_texts_tell_classes_apart.ensures } in
    λ weigh given gives tree line heap_fits is_body.
    (program_comes told weigh given gives tree line heap_fits is_body, goes_same weigh given (program gives tree line) heap_fits)

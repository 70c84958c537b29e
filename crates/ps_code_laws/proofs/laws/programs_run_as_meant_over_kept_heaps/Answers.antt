use Rattle.ps_soundness.proofs.Telling.{Told}
use Rattle.ps_code_laws.proofs.KeptBodies.{kept_runs}
use Rattle.ps_code_laws.proofs.laws.programs_run_as_meant_over_kept_heaps.Goals as goal

pub returns : goal.returns
returns c =
    let told : Told = record { types = c.type_texts_tell_types_apart.ensures; classes = c.class_texts_tell_classes_apart.ensures } in
    kept_runs told

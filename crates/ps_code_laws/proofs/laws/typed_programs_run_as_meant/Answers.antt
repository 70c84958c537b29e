use Rattle.ps_soundness.proofs.Telling.{Told}
use Rattle.ps_code_laws.proofs.Bodies.{typed_program_runs}
use Rattle.ps_code_laws.proofs.laws.typed_programs_run_as_meant.Goals as goal

pub returns : goal.returns
returns c =
    let told : Told = record { types = c.type_texts_tell_types_apart.ensures; classes = c.class_texts_tell_classes_apart.ensures } in
    typed_program_runs told c.typed_bodies_are_fit.ensures

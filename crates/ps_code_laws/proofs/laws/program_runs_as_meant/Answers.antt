use Rattle.ps_soundness.proofs.Telling.{Told}
use Rattle.ps_code_laws.proofs.Bodies.{program_runs}
use Rattle.ps_code_laws.proofs.laws.program_runs_as_meant.Goals as goal

pub returns : goal.returns
returns c =
    let told : Told = record { types = c.type_texts_tell_types_apart.ensures; classes = c.class_texts_tell_classes_apart.ensures } in
    program_runs told

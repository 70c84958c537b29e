use Rattle.ps_soundness.proofs.Telling.{Told}
use Rattle.fit_soundness.proofs.Bodies.{procedures_answer}
use Rattle.fit_soundness.proofs.laws.fit_procedures_answer.Goals as goal

pub returns : goal.returns
returns c =
    let told : Told = record { types = c.type_texts_tell_types_apart.ensures; classes = c.class_texts_tell_classes_apart.ensures } in
    procedures_answer told

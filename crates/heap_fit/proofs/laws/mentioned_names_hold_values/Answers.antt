use Rattle.ps_soundness.proofs.Telling.{Told}
use Rattle.heap_fit.proofs.Mentioned.{mentioned-holds}
use Rattle.heap_fit.proofs.laws.mentioned_names_hold_values.Goals as goal

pub returns : goal.returns
returns c =
    let told : Told = record { types = c.type_texts_tell_types_apart.ensures; classes = c.class_texts_tell_classes_apart.ensures } in
    mentioned-holds told

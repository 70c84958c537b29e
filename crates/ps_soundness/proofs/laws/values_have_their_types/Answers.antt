use Rattle.ps_soundness.proofs.Clauses.{typed_comes_to}
use Rattle.ps_soundness.proofs.Telling.{Told}
use Rattle.ps_soundness.proofs.laws.values_have_their_types.Goals as goal

pub returns : goal.returns
returns c =
    let told : Told = record { types = c.type_texts_tell_types_apart.ensures; classes = c.class_texts_tell_classes_apart.ensures } in
    typed_comes_to told

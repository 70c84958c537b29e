use Rattle.ps_soundness.proofs.Bodies.{comes_to_inside}
use Rattle.ps_soundness.proofs.Telling.{Told}
use Rattle.ps_soundness.proofs.laws.values_in_scopes_have_their_types.Goals as goal

pub returns : goal.returns
returns c =
    let told : Told = record { types = c.type_texts_tell_types_apart.ensures; classes = c.class_texts_tell_classes_apart.ensures } in
    comes_to_inside told

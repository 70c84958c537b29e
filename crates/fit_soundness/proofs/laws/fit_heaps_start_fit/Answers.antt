use Rattle.ps_soundness.proofs.Telling.{Told}
use Rattle.fit_soundness.proofs.Cleaning.{same_cleaned}
use Rattle.fit_soundness.proofs.Runs.{start_fit}
use Rattle.fit_soundness.proofs.laws.fit_heaps_start_fit.Goals as goal

pub returns : goal.returns
returns c =
    let told : Told = record { types = c.type_texts_tell_types_apart.ensures; classes = c.class_texts_tell_classes_apart.ensures } in
    λ weigh replies counted stored f. (same_cleaned stored f, start_fit told weigh replies counted stored f)

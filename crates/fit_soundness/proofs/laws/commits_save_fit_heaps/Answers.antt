use Rattle.ps_soundness.proofs.Telling.{Told}
use Rattle.fit_soundness.proofs.Runs.{commits_fit}
use Rattle.fit_soundness.proofs.laws.commits_save_fit_heaps.Goals as goal

pub returns : goal.returns
returns c =
    let told : Told = record { types = c.type_texts_tell_types_apart.ensures; classes = c.class_texts_tell_classes_apart.ensures } in
    commits_fit told

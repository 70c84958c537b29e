-- What is seen in a space: one object under a name.
use Rattle.std.proofs.Common.{◌≡◌, ℕ, sym, ◌∙◌, ap, subst}
use Rattle.heap_meaning.specs.obj_layout.declared.reference.Reference.TheVariants.{Pid}
use Rattle.heap_meaning.specs.obj_layout.Stored.{Space, HasObject}
use Rattle.heap_meaning.proofs.of_obj_layout.StoredLaws.{HasObject-one}
use Rattle.heap_meaning.specs.swizzle.Joint.{shown_words}
use Rattle.heap_meaning.specs.Standing.{IsOne}
use Rattle.space_meaning.specs.Space.{SeenIn}

pub seen-one : (space : Space) → IsOne (SeenIn space)
seen-one space n a b s t =
    let names : Pid s.pid ≡ Pid t.pid = sym s.name_is ∙ t.name_is in
    let pids : s.pid ≡ t.pid = cc in
    let words = HasObject-one space t.pid s.words t.words (subst (λ (pid : ℕ). HasObject space pid s.words) pids s.there) t.there in
    s.shown_is ∙ ap shown_words words ∙ sym t.shown_is

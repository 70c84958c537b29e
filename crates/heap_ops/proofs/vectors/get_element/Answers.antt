use Rattle.std.proofs.lemmas.Int.{to_z-of_z}
use Rattle.std.proofs.Common.{w32, inl, ℕ, sym, ap, subst, ◌∙◌, Ok, Err}
use Rattle.heap_places.specs.swizzle.Joint.{Shown, shown_at}
use Rattle.heap_places.specs.ps_heap.Objects.{place_of}
use Rattle.heap_places.specs.Places.{HasPlace, ReadsPlace}
use Rattle.heap_ops.specs.Vectors.{index_of}
use Rattle.heap_ops.proofs.VectorLaws.{element-place, gets, fails-element}
use Rattle.heap_ops.proofs.vectors.get_element.Goals as goal

pub read_place-requires-clause-place : goal.read_place-requires-clause-place
read_place-requires-clause-place g c =
    let s = c.in-Ok.ensures.read in
    let same = (s.1.reads.keeps.objects c.args.vector c.requires.held).shown_as in
    subst (λ (k : ℕ). HasPlace (shown_at c.read_shape.new.sw c.args.vector) c.in-Ok.shape.form k) (sym c.index.ensures)
    (subst (λ (it : Shown). HasPlace it c.in-Ok.shape.form (index_of c.in-Ok.shape.form c.in-Some.number)) (sym same)
    (element-place (shown_at c.args.sw.now c.args.vector) c.in-Ok.shape c.args.at c.in-Some.number s.2 (ap (place_of c.in-Ok.shape.low c.in-Ok.shape.count) (sym (to_z-of_z w32 c.args.at c.ranges.at)) ∙ sym c.place.ensures ∙ c.in-Some.is)))

pub returns-in-Ok-read_place-clause-got : goal.returns-in-Ok-read_place-clause-got
returns-in-Ok-read_place-clause-got g c =
    let a = g.V.Vault.outside c.args.vault.now in
    let b = g.V.Vault.outside c.read_shape.new.vault in
    let d = g.V.Vault.outside c.read_place.new.vault in
    gets c.args.sw.now c.read_shape.new.sw c.read_place.new.sw a b d c.args.vector c.in-Some.number c.args.at c.in-Ok.shape c.in-Ok-read_place.value c.requires.held c.in-Ok.ensures.read (ap (place_of c.in-Ok.shape.low c.in-Ok.shape.count) (sym (to_z-of_z w32 c.args.at c.ranges.at)) ∙ sym c.place.ensures ∙ c.in-Some.is)
    (subst (λ (k : ℕ). ReadsPlace c.read_shape.new.sw c.read_place.new.sw b d c.args.vector c.in-Ok.shape.form k (Ok c.in-Ok-read_place.value)) c.index.ensures c.in-Ok-read_place.ensures.read)

pub returns-in-Err-read_place-clause-got : goal.returns-in-Err-read_place-clause-got
returns-in-Err-read_place-clause-got g c =
    let a = g.V.Vault.outside c.args.vault.now in
    let b = g.V.Vault.outside c.read_shape.new.vault in
    let d = g.V.Vault.outside c.read_place.new.vault in
    fails-element c.args.sw.now c.read_shape.new.sw c.read_place.new.sw a b d c.args.vector c.in-Some.number c.args.at c.in-Ok.shape c.in-Err-read_place.fault c.sound.ensures c.requires.held c.in-Ok.ensures.read (ap (place_of c.in-Ok.shape.low c.in-Ok.shape.count) (sym (to_z-of_z w32 c.args.at c.ranges.at)) ∙ sym c.place.ensures ∙ c.in-Some.is)
    (subst (λ (k : ℕ). ReadsPlace c.read_shape.new.sw c.read_place.new.sw b d c.args.vector c.in-Ok.shape.form k (Err c.in-Err-read_place.fault)) c.index.ensures c.in-Err-read_place.ensures.read)

pub returns-in-Err-clause-got : goal.returns-in-Err-clause-got
returns-in-Err-clause-got g c = (c.in-Err.ensures.read.0, inl (c.in-Err.ensures.read.1))

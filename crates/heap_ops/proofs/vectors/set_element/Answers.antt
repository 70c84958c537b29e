use Rattle.std.proofs.lemmas.Int.{to_z-of_z}
use Rattle.std.proofs.Common.{w32, inl, ℕ, sym, ap, subst, ◌∙◌}
use Rattle.heap_places.specs.ps_heap.Objects.{place_of}
use Rattle.heap_places.specs.swizzle.Joint.{Shown, shown_at}
use Rattle.heap_places.specs.Places.{HasRow}
use Rattle.heap_ops.specs.Vectors.{index_of}
use Rattle.heap_places.proofs.PlaceLaws.{stands_then}
use Rattle.heap_ops.proofs.ClassLaws.{stands-kept}
use Rattle.heap_ops.proofs.VectorLaws.{element-row, near-fitted, near-kept, refuses}
use Rattle.heap_ops.proofs.vectors.set_element.Goals as goal

pub write_place-requires-clause-place : goal.write_place-requires-clause-place
write_place-requires-clause-place g c =
    let s = c.in-Ok.ensures.read in
    let same = (s.1.reads.keeps.objects c.args.vector c.requires.held).shown_as in
    subst (λ (k : ℕ). HasRow (shown_at c.read_shape.new.sw c.args.vector) k c.in-Some-fit.stored) (sym c.index.ensures)
    (subst (λ (it : Shown). HasRow it (index_of c.in-Ok.shape.form c.in-Some.number) c.in-Some-fit.stored) (sym same)
    (element-row (shown_at c.args.sw.now c.args.vector) c.in-Ok.shape c.args.at c.in-Some.number c.args.to c.in-Some-fit.stored s.2 (ap (place_of c.in-Ok.shape.low c.in-Ok.shape.count) (sym (to_z-of_z w32 c.args.at c.ranges.at)) ∙ sym c.place.ensures ∙ c.in-Some.is) (sym c.fit.ensures ∙ c.in-Some-fit.is)))

pub write_place-requires-clause-near : goal.write_place-requires-clause-near
write_place-requires-clause-near g c =
    let s = c.in-Ok.ensures.read in
    near-fitted c.read_shape.new.sw c.in-Ok.shape.form c.args.to c.in-Some-fit.stored (sym c.fit.ensures ∙ c.in-Some-fit.is)
    (near-kept c.args.sw.now c.read_shape.new.sw c.args.to s.1.reads.keeps c.requires.near)

pub returns-in-None-clause-set : goal.returns-in-None-clause-set
returns-in-None-clause-set g c =
    refuses c.args.sw.now c.read_shape.new.sw (g.V.Vault.outside c.args.vault.now) (g.V.Vault.outside c.read_shape.new.vault) c.args.vector c.args.at c.in-Ok.shape c.args.to c.misfitting.result
    c.requires.held c.in-Ok.ensures.read (sym c.fit.ensures ∙ c.in-None.is) c.misfitting.ensures

pub returns-in-Err-clause-set : goal.returns-in-Err-clause-set
returns-in-Err-clause-set g c = (c.in-Err.ensures.read.0, inl (c.in-Err.ensures.read.1))

pub returns-in-Some-fit-clause-stands : goal.returns-in-Some-fit-clause-stands
returns-in-Some-fit-clause-stands g c =
    stands_then c.args.sw.now c.read_shape.new.sw c.write_place.new.sw
    (stands-kept c.args.sw.now c.read_shape.new.sw c.in-Ok.ensures.read.1.reads.keeps) c.write_place.ensures.stands

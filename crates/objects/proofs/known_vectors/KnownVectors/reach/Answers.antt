use Rattle.std.proofs.Common.{w32, sym, ap, ◌∙◌, arith}
use Rattle.std.proofs.lemmas.Int.{to_z-of_z}
use Rattle.joint_ops.specs.ps_heap.Objects.{place_of}
use Rattle.objects.proofs.VectorEntries.{reached-so}
use Rattle.objects.proofs.known_vectors.KnownVectors.reach.Goals as goal

pub returns-in-Some : goal.returns-in-Some
returns-in-Some c = λ here so.
    let entry = c.index-entry.result.now in
    reached-so here c.args.self.now.entries.items c.index_of-index.result c.args.vector c.in-Some.place c.args.at entry so
    (omega (arith, c.if-index-len.false, c.len.ensures)) c.index-entry.ensures c.if-entry-vector.false
    (ap (place_of entry.low entry.count) (sym (to_z-of_z w32 c.args.at c.ranges.at)) ∙ sym c.subscript.ensures ∙ c.in-Some.is)

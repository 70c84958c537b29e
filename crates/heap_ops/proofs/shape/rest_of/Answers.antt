use Rattle.std.proofs.Common.{Bool, ap, sym, ◌∙◌, length, if◌then◌else◌}
use Rattle.heap_places.specs.swizzle.Joint.{shown_at}
use Rattle.heap_places.proofs.of_swizzle.NameLaws.{shown-counts}
use Rattle.heap_ops.proofs.shape.rest_of.Goals as goal

pub returns-then-number : goal.returns-then-number
returns-then-number c =
    let it = shown_at c.args.sw.now c.args.vector in
    let counts = shown-counts c.args.sw.now c.args.vector c.sound.ensures c.requires in
    c.refs.ensures ∙ sym counts.0 ∙ sym (ap (λ (b : Bool). if b then length it.refs else length it.nums) c.if-number.true)

pub returns-else-number : goal.returns-else-number
returns-else-number c =
    let it = shown_at c.args.sw.now c.args.vector in
    let counts = shown-counts c.args.sw.now c.args.vector c.sound.ensures c.requires in
    c.nums.ensures ∙ sym counts.1 ∙ sym (ap (λ (b : Bool). if b then length it.refs else length it.nums) c.if-number.false)

use Rattle.std.proofs.Common.{Bool, ap, sym, ◌∙◌, ◌-◌, ℕ, length, if◌then◌else◌}
use Rattle.heap_places.specs.swizzle.Joint.{shown_at}
use Rattle.heap_places.proofs.of_swizzle.NameLaws.{shown-counts}
use Rattle.heap_ops.specs.Vectors.{count_of}
use Rattle.heap_ops.proofs.shape.count.Goals as goal

pub returns-then-is_number : goal.returns-then-is_number
unfolding count_of
returns-then-is_number c =
    let it = shown_at c.args.sw.now c.args.vector in
    let counts = shown-counts c.args.sw.now c.args.vector c.sound.ensures c.requires in
    c.saturating_sub.ensures ∙ ap (λ (n : ℕ). n - 2) (c.nums.ensures ∙ sym counts.1)
    ∙ sym (ap (λ (b : Bool). if b then length it.nums - 2 else length it.refs - 1) (sym c.is_number.ensures ∙ c.if-is_number.true))

pub returns-else-is_number : goal.returns-else-is_number
unfolding count_of
returns-else-is_number c =
    let it = shown_at c.args.sw.now c.args.vector in
    let counts = shown-counts c.args.sw.now c.args.vector c.sound.ensures c.requires in
    c.saturating_sub-else-is_number.ensures ∙ ap (λ (n : ℕ). n - 1) (c.refs.ensures ∙ sym counts.0)
    ∙ sym (ap (λ (b : Bool). if b then length it.nums - 2 else length it.refs - 1) (sym c.is_number.ensures ∙ c.if-is_number.false))

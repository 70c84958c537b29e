-- The measures of what goes over a tree, and what its loops keep.
use Rattle.std.proofs.Common.{◌≡◌, ◌≤◌, ◌+◌, ◌*◌, drop}
use Rattle.ps_program.specs.NodeView.{node_of, nodes_in}
use Rattle.ps_program.specs.inside.Listed.{parts_all}
use Rattle.ps_program.specs.inside.PartsView.{arms_in, further_in}
use Rattle.ps_program.specs.inside.Weights.{weight, weight_all, weight_arms, weight_parts}
use Rattle.ps_slots.specs.inside.Sizes.{size, size_of, size_parts, size_arms, as_part, join}
use Rattle.ps_slots.proofs.sizes.+sizes.Given as goal

abbrev pub decreases-complex_of : goal.decreases-complex_of
decreases-complex_of l = 5 * weight (node_of l.body.now.tree) + 1

abbrev pub decreases-sizes_of : goal.decreases-sizes_of
decreases-sizes_of l = 5 * weight (node_of l.tree.now)

abbrev pub decreases-then_part : goal.decreases-then_part
decreases-then_part l = 5 * weight (node_of l.part.now) + 1

abbrev pub decreases-then_all : goal.decreases-then_all
decreases-then_all l = 5 * weight_all (nodes_in l.items.now) + 2

abbrev pub decreases-sizes_of_arms : goal.decreases-sizes_of_arms
decreases-sizes_of_arms l = 5 * weight_arms (arms_in l.arms.now) + 3

abbrev pub decreases-sizes_of_further : goal.decreases-sizes_of_further
decreases-sizes_of_further l = 5 * weight_parts (further_in l.further) + 4

-- what is left and, after it, what was found make the whole
abbrev pub invariant-sizes_of-loop-body : goal.invariant-sizes_of-loop-body
invariant-sizes_of-loop-body l = record {
  sized : join (size (node_of l.rest)) (size_of l.sizes) ≡ size (node_of l.initial.rest);
  lighter : weight (node_of l.rest) ≤ weight (node_of l.initial.rest);
}

abbrev pub decreases-sizes_of-loop-body : goal.decreases-sizes_of-loop-body
decreases-sizes_of-loop-body l = weight (node_of l.rest)

abbrev pub invariant-sizes_of_arms-loop-arm : goal.invariant-sizes_of_arms-loop-arm
invariant-sizes_of_arms-loop-arm l = join (size_of l.sizes) (size_arms (arms_in (drop l.arm-index l.arms))) ≡ size_arms (arms_in l.arms)

abbrev pub invariant-then_all-loop-item : goal.invariant-then_all-loop-item
invariant-then_all-loop-item l =
    join (size_of l.sizes) (size_parts l.before (parts_all (as_part l.kind) (nodes_in (drop l.item-index l.items))))
    ≡ join (size_of l.initial.sizes) (size_parts l.initial.before (parts_all (as_part l.kind) (nodes_in l.items)))

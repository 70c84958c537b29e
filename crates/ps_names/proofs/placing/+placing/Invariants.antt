-- The measures of placing, and what its loops keep.
use Rattle.std.proofs.Common.{◌≡◌, ◌≤◌, ◌+◌, ◌*◌, take, drop, length}
use Rattle.ps_base.specs.List.{items_of}
use Rattle.ps_program.specs.NodeView.{node_of, node_of_form, nodes_in, arm_of}
use Rattle.ps_program.specs.inside.PartsView.{arms_in}
use Rattle.ps_program.specs.inside.Weights.{weight, weight_all, weight_arms}
use Rattle.ps_placer.specs.ps_typing.Placed.{placed_all, placed_arms}
use Rattle.ps_placer.specs.inside.Standing.{Does}
use Rattle.ps_names.specs.inside.Chains.{rewound, weight_placed, weight_arm, Rises}
use Rattle.ps_names.proofs.placing.+placing.Given as goal

abbrev pub decreases-place_tree : goal.decreases-place_tree
decreases-place_tree l = 10 * weight (node_of l.tree.now) + 3

abbrev pub decreases-place_chain : goal.decreases-place_chain
decreases-place_chain l = 10 * weight (node_of l.tree.now) + 2

abbrev pub decreases-place_parts : goal.decreases-place_parts
decreases-place_parts l = 10 * weight_placed (node_of_form l.form.now)

abbrev pub decreases-place_assigned : goal.decreases-place_assigned
decreases-place_assigned l = 10 * weight (node_of l.e.now) + 5

abbrev pub decreases-place_declared : goal.decreases-place_declared
decreases-place_declared l = 10 * weight (node_of l.e.now) + 5

abbrev pub decreases-place_scan : goal.decreases-place_scan
decreases-place_scan l = 10 * (weight (node_of l.a.now) + weight (node_of l.f.now)) + 5

abbrev pub decreases-place_pair : goal.decreases-place_pair
decreases-place_pair l = 10 * (weight (node_of l.a.now) + weight (node_of l.b.now)) + 4

abbrev pub decreases-place_triple : goal.decreases-place_triple
decreases-place_triple l = 10 * (weight (node_of l.a.now) + weight (node_of l.b.now) + weight (node_of l.c.now)) + 5

abbrev pub decreases-place_all : goal.decreases-place_all
decreases-place_all l = 10 * weight_all (nodes_in (items_of l.items.now)) + 4

abbrev pub decreases-place_with_all : goal.decreases-place_with_all
decreases-place_with_all l = 10 * (weight (node_of l.first.now) + weight_all (nodes_in (items_of l.items.now))) + 5

abbrev pub decreases-place_arm : goal.decreases-place_arm
decreases-place_arm l = 10 * weight_arm (arm_of l.arm.now) + 5

abbrev pub decreases-place_arms : goal.decreases-place_arms
decreases-place_arms l = 10 * weight_arms (arms_in (items_of l.arms.now)) + 6

abbrev pub decreases-place_case : goal.decreases-place_case
decreases-place_case l = 10 * (weight (node_of l.e.now) + weight_arms (arms_in (items_of l.arms.now)) + weight (node_of l.d.now)) + 7

abbrev pub decreases-place_block : goal.decreases-place_block
decreases-place_block l = 10 * weight_all (nodes_in (items_of l.items.now)) + 5

abbrev pub decreases-place_loop : goal.decreases-place_loop
decreases-place_loop l = 10 * (weight (node_of l.it.now.a) + weight (node_of l.it.now.b) + weight (node_of l.it.now.c) + weight (node_of l.it.now.s)) + 6

abbrev pub decreases-place_literal : goal.decreases-place_literal
decreases-place_literal l = 10 * weight (node_of l.body.now.tree) + 4

-- the trees before the place have their places, and the others are as they were
abbrev pub invariant-place_all-loop-i : goal.invariant-place_all-loop-i
invariant-place_all-loop-i l = record {
  same_length : length l.trees.items ≡ length l.initial.trees.items;
  rest : drop l.i l.trees.items ≡ drop l.i l.initial.trees.items;
  done : Does (λ around locals. placed_all around locals (nodes_in (take l.i l.initial.trees.items))) l.initial.placer (nodes_in (take l.i l.trees.items)) l.placer;
}

abbrev pub invariant-place_arms-loop-i : goal.invariant-place_arms-loop-i
invariant-place_arms-loop-i l = record {
  same_length : length l.list.items ≡ length l.initial.list.items;
  rest : drop l.i l.list.items ≡ drop l.i l.initial.list.items;
  done : Does (λ around locals. placed_arms around locals (arms_in (take l.i l.initial.list.items))) l.initial.placer (arms_in (take l.i l.list.items)) l.placer;
}

-- what is above, put round the clause in hand, makes the whole
abbrev pub invariant-place_chain-loop-tree : goal.invariant-place_chain-loop-tree
invariant-place_chain-loop-tree l = record {
  whole : rewound (node_of l.above) (node_of l.tree) ≡ node_of l.initial.tree;
  lighter : weight (node_of l.above) + weight (node_of l.tree) ≤ weight (node_of l.initial.tree) + 1;
}

abbrev pub decreases-place_chain-loop-tree : goal.decreases-place_chain-loop-tree
decreases-place_chain-loop-tree l = weight (node_of l.tree)

abbrev pub invariant-place_chain-loop-above : goal.invariant-place_chain-loop-above
invariant-place_chain-loop-above l = record {
  rises : Rises l.fn.placer l.placer (node_of l.fn.tree) (node_of l.above) (node_of l.tree);
  lighter : weight (node_of l.above) ≤ weight (node_of l.fn.tree);
}

abbrev pub decreases-place_chain-loop-above : goal.decreases-place_chain-loop-above
decreases-place_chain-loop-above l = weight (node_of l.above)

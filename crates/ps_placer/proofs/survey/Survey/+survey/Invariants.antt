-- The measures of the survey, and what its loops keep.
use Rattle.std.proofs.Common.{◌≡◌, ◌≤◌, ◌+◌, ◌*◌, drop}
use Rattle.ps_program.specs.NodeView.{node_of, nodes_in}
use Rattle.ps_program.specs.inside.PartsView.{arms_in, further_in}
use Rattle.ps_program.specs.inside.Weights.{weight, weight_all, weight_arms, weight_parts}
use Rattle.ps_placer.specs.inside.Marks.{marks, marks_of, marks_all, marks_arms, join}
use Rattle.ps_placer.proofs.survey.Survey.+survey.Given as goal

abbrev pub decreases-body : goal.decreases-body
decreases-body l = 5 * weight (node_of l.body.now.tree) + 1

abbrev pub decreases-tree : goal.decreases-tree
decreases-tree l = 5 * weight (node_of l.tree.now)

abbrev pub decreases-two : goal.decreases-two
decreases-two l = 5 * (weight (node_of l.a.now) + weight (node_of l.b.now)) + 1

abbrev pub decreases-all : goal.decreases-all
decreases-all l = 5 * weight_all (nodes_in l.items.now) + 2

abbrev pub decreases-arms : goal.decreases-arms
decreases-arms l = 5 * weight_arms (arms_in l.arms.now) + 3

abbrev pub decreases-further : goal.decreases-further
decreases-further l = 5 * weight_parts (further_in l.further) + 4

-- what was marked and what is left make the whole
abbrev pub invariant-tree-loop-body : goal.invariant-tree-loop-body
invariant-tree-loop-body l = record {
  marked : join (marks_of l.self) (marks l.literals (node_of l.rest)) ≡ join (marks_of l.initial.self) (marks l.literals (node_of l.initial.rest));
  lighter : weight (node_of l.rest) ≤ weight (node_of l.initial.rest);
}

abbrev pub decreases-tree-loop-body : goal.decreases-tree-loop-body
decreases-tree-loop-body l = weight (node_of l.rest)

abbrev pub invariant-all-loop-item : goal.invariant-all-loop-item
invariant-all-loop-item l = join (marks_of l.self) (marks_all l.literals (nodes_in (drop l.item-index l.items))) ≡ join (marks_of l.initial.self) (marks_all l.literals (nodes_in l.items))

abbrev pub invariant-arms-loop-arm : goal.invariant-arms-loop-arm
invariant-arms-loop-arm l = join (marks_of l.self) (marks_arms l.literals (arms_in (drop l.arm-index l.arms))) ≡ join (marks_of l.initial.self) (marks_arms l.literals (arms_in l.arms))

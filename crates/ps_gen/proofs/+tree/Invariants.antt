-- The measures of what goes over a tree, and what its loops keep.
use Rattle.std.proofs.Common.{◌+◌, ◌*◌, drop, length}
use Rattle.ps_base.specs.TyView.{ty_view}
use Rattle.ps_base.specs.declared.instr.Instr.TheVariants as instr
use Rattle.ps_program.specs.NodeView.{node_of, nodes_in}
use Rattle.ps_program.specs.inside.PartsView.{arms_in}
use Rattle.ps_program.specs.inside.Weights.{weight, weight_all, weight_arms}
use Rattle.ps_emitter.specs.Pieces.{state_of, Left, LeftOpen}
use Rattle.ps_gen.specs.inside.Clauses.{clauses, labels_of, arms_of}
use Rattle.ps_gen.specs.inside.Steps.{Stands}
use Rattle.ps_gen.proofs.+tree.Given as goal

abbrev pub decreases-tree::tree : goal.decreases-tree::tree
decreases-tree::tree l = 12 * weight (node_of l.tree.now) + 3

abbrev pub decreases-tree::form : goal.decreases-tree::form
decreases-tree::form l = 12 * weight (node_of l.it.now) + 2

abbrev pub decreases-tree::behind : goal.decreases-tree::behind
decreases-tree::behind l = 12 * weight (node_of l.link.now) + 1

abbrev pub decreases-jumps::jump_over : goal.decreases-jumps::jump_over
decreases-jumps::jump_over l = 12 * weight (node_of l.a.now) + 4

abbrev pub decreases-operands::all : goal.decreases-operands::all
decreases-operands::all l = 12 * weight_all (nodes_in l.items.now) + 4

abbrev pub decreases-operands::one_then : goal.decreases-operands::one_then
decreases-operands::one_then l = 12 * weight (node_of l.a.now) + 4

abbrev pub decreases-operands::two_then : goal.decreases-operands::two_then
decreases-operands::two_then l = 12 * (weight (node_of l.a.now) + weight (node_of l.b.now)) + 5

abbrev pub decreases-operands::all_then : goal.decreases-operands::all_then
decreases-operands::all_then l = 12 * weight_all (nodes_in l.items.now) + 5

abbrev pub decreases-operands::vector_filled : goal.decreases-operands::vector_filled
decreases-operands::vector_filled l = 12 * (weight (node_of l.l.now) + weight (node_of l.u.now) + weight (node_of l.e.now)) + 5

abbrev pub decreases-operands::vector_of : goal.decreases-operands::vector_of
decreases-operands::vector_of l = 12 * (weight (node_of l.l.now) + weight_all (nodes_in l.items.now)) + 5

abbrev pub decreases-jumps::block : goal.decreases-jumps::block
decreases-jumps::block l = 12 * weight_all (nodes_in l.items.now) + 5

abbrev pub decreases-jumps::if_else : goal.decreases-jumps::if_else
decreases-jumps::if_else l = 12 * (weight (node_of l.c.now) + weight (node_of l.a.now) + weight (node_of l.b.now)) + 6

abbrev pub decreases-jumps::while_loop : goal.decreases-jumps::while_loop
decreases-jumps::while_loop l = 12 * (weight (node_of l.c.now) + weight (node_of l.a.now)) + 5

abbrev pub decreases-jumps::repeat_loop : goal.decreases-jumps::repeat_loop
decreases-jumps::repeat_loop l = 12 * (weight (node_of l.a.now) + weight (node_of l.c.now) + weight (node_of l.b.now)) + 6

abbrev pub decreases-jumps::for_loop : goal.decreases-jumps::for_loop
decreases-jumps::for_loop l = 12 * (weight (node_of l.it.now.a) + weight (node_of l.it.now.b) + weight (node_of l.it.now.c) + weight (node_of l.it.now.s)) + 7

abbrev pub decreases-jumps::for_turns : goal.decreases-jumps::for_turns
decreases-jumps::for_turns l = 12 * weight (node_of l.it.now.s) + 5

abbrev pub decreases-cases::case : goal.decreases-cases::case
decreases-cases::case l = 12 * (weight (node_of l.e.now) + weight_arms (arms_in l.arms.now) + weight (node_of l.d.now)) + 9

abbrev pub decreases-cases::put_arm : goal.decreases-cases::put_arm
decreases-cases::put_arm l = 12 * (weight_all (nodes_in l.labels.now) + weight (node_of l.a.now)) + 7

abbrev pub decreases-cases::arm_labels : goal.decreases-cases::arm_labels
decreases-cases::arm_labels l = 12 * weight_all (nodes_in l.labels.now) + 6

abbrev pub decreases-cases::put_label : goal.decreases-cases::put_label
decreases-cases::put_label l = 12 * weight (node_of l.label.now) + 4

abbrev pub decreases-scans::scan : goal.decreases-scans::scan
decreases-scans::scan l = 12 * (weight (node_of l.a.now) + weight (node_of l.f.now)) + 5

abbrev pub decreases-literals::procedure : goal.decreases-literals::procedure
decreases-literals::procedure l = 12 * weight (node_of l.body.now.tree) + 6

abbrev pub decreases-literals::unit : goal.decreases-literals::unit
decreases-literals::unit l = 12 * weight (node_of l.body.now.tree) + 5

abbrev pub invariant-operands::all-loop-item : goal.invariant-operands::all-loop-item
invariant-operands::all-loop-item l = Left (clauses (nodes_in (drop l.item-index l.items))) (clauses (nodes_in l.items)) (state_of l.fn.emitter) (state_of l.emitter)

abbrev pub invariant-cases::case-loop-arm : goal.invariant-cases::case-loop-arm
invariant-cases::case-loop-arm l = LeftOpen instr.Jump (arms_of (ty_view l.ty) (arms_in (drop l.arm-index l.arms))) (arms_of (ty_view l.ty) (arms_in l.arms)) l.ends.items (state_of l.initial.emitter) (state_of l.emitter)

abbrev pub invariant-cases::arm_labels-loop-label : goal.invariant-cases::arm_labels-loop-label
invariant-cases::arm_labels-loop-label l = LeftOpen instr.JumpTrue (labels_of (ty_view l.ty) (nodes_in (drop l.label-index l.labels))) (labels_of (ty_view l.ty) (nodes_in l.labels)) l.holes.items (state_of l.fn.emitter) (state_of l.emitter)

-- a part of the tree whose code stands, and the links around it
abbrev pub invariant-tree::tree-loop-link : goal.invariant-tree::tree-loop-link
invariant-tree::tree-loop-link l = Stands (node_of l.tree) l.links.items l.known (state_of l.fn.emitter) (state_of l.emitter)

abbrev pub decreases-tree::tree-loop-link : goal.decreases-tree::tree-loop-link
decreases-tree::tree-loop-link l = length l.links.items

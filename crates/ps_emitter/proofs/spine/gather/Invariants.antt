use Rattle.ps_program.specs.Node.{Node}
use Rattle.ps_program.specs.NodeView.{node_of}
use Rattle.ps_program.specs.inside.Weights.{weight}
use Rattle.ps_emitter.specs.Chains.{Chained}
use Rattle.ps_emitter.proofs.spine.gather.Given as goal

-- the links so far lead to what is left
abbrev pub invariant-loop-first : goal.invariant-loop-first
invariant-loop-first l = (whole : Node) → Chained whole l.initial.links.items (node_of l.initial.tree) → Chained whole l.links.items (node_of l.rest)

abbrev pub decreases-loop-first : goal.decreases-loop-first
decreases-loop-first l = weight (node_of l.rest)

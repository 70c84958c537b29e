use Rattle.std.proofs.Common.{◌≡◌}
use Rattle.ps_program.specs.NodeView.{node_of}
use Rattle.ps_program.specs.inside.Weights.{weight}
use Rattle.ps_emitter.specs.Giving.{type_of}
use Rattle.ps_emitter.specs.Chains.{called}
use Rattle.ps_emitter.specs.inside.Sources.{results}
use Rattle.ps_emitter.proofs.known.known_of.Given as goal

abbrev pub invariant-loop-known : goal.invariant-loop-known
invariant-loop-known l = called (results l.calls (type_of (node_of l.rest))) ≡ called (type_of (node_of l.tree))

abbrev pub decreases-loop-known : goal.decreases-loop-known
decreases-loop-known l = weight (node_of l.rest)

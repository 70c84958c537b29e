use Rattle.std.proofs.Common.{◌≡◌}
use Rattle.ps_emitter.specs.Chains.{called, type_in}
use Rattle.ps_emitter.specs.inside.Sources.{results}
use Rattle.ps_emitter.proofs.known.Known.results.Given as goal

abbrev pub invariant-loop-left : goal.invariant-loop-left
invariant-loop-left l = called (results l.left (type_in l.known)) ≡ called (results l.fn.times (type_in l.fn.self))

abbrev pub decreases-loop-left : goal.decreases-loop-left
decreases-loop-left l = l.left

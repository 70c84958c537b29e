use Rattle.commit_walk.specs.Walk.{Lists, GoesBelow, May}
use Rattle.commit_walk.proofs.walk.reach_refs.Given as goal

abbrev pub invariant-loop-slot : goal.invariant-loop-slot
invariant-loop-slot l = Lists l.fn.sw l.sw (λ y. GoesBelow l.fn.sw l.slot l.object y × May l.fn.sw y)

use Rattle.commit_walk.specs.Walk.{Lists, StartsAt, May}
use Rattle.commit_walk.proofs.walk.reach_assigned.Given as goal

abbrev pub invariant-loop-place : goal.invariant-loop-place
invariant-loop-place l = Lists l.fn.sw l.sw (λ y. StartsAt l.fn.sw l.number l.fn.sw.assigned l.place y × May l.fn.sw y)

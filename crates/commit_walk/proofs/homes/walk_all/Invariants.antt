use Rattle.commit_walk.specs.Homes.{IsHomed}
use Rattle.commit_walk.proofs.homes.walk_all.Given as goal

abbrev pub invariant-loop-source : goal.invariant-loop-source
invariant-loop-source l = IsHomed l.fn.sw l.sw l.sources l.source-index l.sw.reached

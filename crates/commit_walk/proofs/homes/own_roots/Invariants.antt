use Rattle.commit_walk.specs.Homes.{OwnsRoots}
use Rattle.commit_walk.proofs.homes.own_roots.Given as goal

abbrev pub invariant-loop-source : goal.invariant-loop-source
invariant-loop-source l = OwnsRoots l.fn.sw l.sw l.sources l.source-index

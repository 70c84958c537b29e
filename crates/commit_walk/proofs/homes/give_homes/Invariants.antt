use Rattle.std.proofs.Common.{◌≤◌}
use Rattle.commit_walk.specs.Homes.{GivesHomes}
use Rattle.commit_walk.proofs.homes.give_homes.Given as goal

abbrev pub invariant-loop-place : goal.invariant-loop-place
invariant-loop-place l = (l.from ≤ l.place) × GivesHomes l.fn.sw l.sw l.fn.sw.reached l.from l.place l.number

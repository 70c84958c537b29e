use Rattle.std.proofs.Common.{◌≡◌, ◌-◌, ℕ}
use Rattle.swizzle.specs.Heap.{num_at}
use Rattle.commit_walk.specs.Walk.{Steady}
use Rattle.commit_walk.proofs.FromLaws.{IsUnderWay}
use Rattle.commit_walk.proofs.walk.walk_from.Given as goal

abbrev pub invariant-loop-next : goal.invariant-loop-next
invariant-loop-next l =
    Steady l.fn.sw l.sw × ((y : ℕ) → num_at l.sw y 0 ≡ num_at l.fn.sw y 0) × IsUnderWay l.fn.sw l.fn.sw.reached l.fn.from l.sw.reached l.next

abbrev pub decreases-loop-next : goal.decreases-loop-next
decreases-loop-next l = l.fn.sw.size - l.next

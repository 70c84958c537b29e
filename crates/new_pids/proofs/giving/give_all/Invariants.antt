use Rattle.std.proofs.Common.{◌≡◌, ◌≤◌, ◌+◌, ◌*◌, ◌^◌, take}
use Rattle.new_pids.specs.Giving.{GivesAll, AreBelow}
use Rattle.new_pids.proofs.giving.give_all.Given as goal

abbrev pub invariant-loop-place : goal.invariant-loop-place
invariant-loop-place g l =
    GivesAll l.fn.sw (take l.place l.fn.sw.reached) l.first l.sw l.next
    × AreBelow l.sw l.next
    × (l.sw.reached ≡ l.fn.sw.reached)
    × (l.first ≤ l.next)
    × (l.next ≤ l.first + l.place * 2 ^ 34)

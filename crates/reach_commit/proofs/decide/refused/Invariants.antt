use Rattle.std.proofs.Common.{◌<◌, ℕ, get_or}
use Rattle.swizzle.specs.Heap.{num_at}
use Rattle.reach_commit.specs.Deciding.{IsHomed, IsWriting}
use Rattle.reach_commit.proofs.decide.refused.Given as goal

abbrev pub invariant-loop-place : goal.invariant-loop-place
invariant-loop-place l = (p : ℕ) → p < l.place → IsHomed l.sw (get_or l.sw.assigned p 0) → IsWriting l.writing (num_at l.sw (get_or l.sw.assigned p 0) 0)

use Rattle.std.proofs.Common.{◌<◌, ℕ, get_or}
use Rattle.reach_commit.specs.Deciding.{IsHomed}
use Rattle.reach_commit.proofs.decide.is_assigned.Given as goal

abbrev pub invariant-loop-place : goal.invariant-loop-place
invariant-loop-place l = (p : ℕ) → p < l.place → IsHomed l.sw (get_or l.sw.assigned p 0) → ⊥

use Rattle.std.proofs.Common.{◌≡◌, ◌<◌, ℕ}
use Rattle.commit_walk.specs.Homes.{source_at}
use Rattle.reach_commit.proofs.decide.is_writing.Given as goal

abbrev pub invariant-loop-source : goal.invariant-loop-source
invariant-loop-source l = (p : ℕ) → p < l.source-index → (source_at l.writing p).number ≡ l.number → ⊥

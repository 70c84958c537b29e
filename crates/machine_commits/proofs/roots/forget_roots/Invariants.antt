use Rattle.std.proofs.Common.{◌≡◌, ◌<◌, ◌≤◌, ℕ, length, get_or, None}
use Rattle.machine_core.specs.joint_held.reach_commit.commit_walk.declared.homes.Source.{Source}
use Rattle.machine_commits.proofs.roots.forget_roots.Given as goal

-- so many sources have no root
abbrev pub invariant-loop-source : goal.invariant-loop-source
invariant-loop-source l = record {
  long : length l.source-items ≡ length l.fn.writing.items;
  front : (k : ℕ) (d : Source) → k < l.source-index → k < length l.source-items → get_or l.source-items k d ≡ record { number = (get_or l.fn.writing.items k d).number; root = None };
  rest : (k : ℕ) (d : Source) → l.source-index ≤ k → k < length l.source-items → get_or l.source-items k d ≡ get_or l.fn.writing.items k d;
}

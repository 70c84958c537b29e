use Rattle.std.proofs.Common.{◌≡◌, ◌≤◌, length, take, min}
use Rattle.ps_log.proofs.log.Log.truncate.Given as goal

-- the last entries have been taken back, and none too many
abbrev pub invariant-loop-self : goal.invariant-loop-self
invariant-loop-self g l = record {
  taken : l.self ≡ take (length l.self) l.initial.self;
  enough : min l.len (length l.initial.self) ≤ length l.self;
}

abbrev pub decreases-loop-self : goal.decreases-loop-self
decreases-loop-self g l = length l.self

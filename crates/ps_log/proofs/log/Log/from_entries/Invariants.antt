use Rattle.std.proofs.Common.{◌≡◌}
use Rattle.ps_log.proofs.log.Log.from_entries.Given as goal

-- the log has the entries so far
abbrev pub invariant-loop-entry : goal.invariant-loop-entry
invariant-loop-entry g l = l.log ≡ l.yielded

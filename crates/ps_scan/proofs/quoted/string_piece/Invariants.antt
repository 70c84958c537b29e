use Rattle.std.proofs.Common.{◌-◌, ◌≤◌, length}
use Rattle.ps_scan.proofs.Strings.{Counted}
use Rattle.ps_scan.proofs.quoted.string_piece.Given as goal

abbrev pub invariant-loop-length : goal.invariant-loop-length
invariant-loop-length l = record { counted : Counted l.rest l.at l.spelled; within : l.at ≤ length l.rest; few : l.spelled ≤ l.at }

abbrev pub decreases-loop-length : goal.decreases-loop-length
decreases-loop-length l = length l.rest - l.at

use Rattle.std.proofs.Common.{◌-◌, ◌≤◌, length}
use Rattle.ps_scan.proofs.Strings.{SoFar}
use Rattle.ps_scan.proofs.quoted.spelled_behind_quote.Given as goal

abbrev pub invariant-loop-byte : goal.invariant-loop-byte
invariant-loop-byte l = record { so_far : SoFar l.rest l.at l.bytes.items; within : l.at ≤ length l.rest }

abbrev pub decreases-loop-byte : goal.decreases-loop-byte
decreases-loop-byte l = length l.rest - l.at

use Rattle.std.proofs.Common.{◌+◌, ◌-◌, ◌≤◌, length}
use Rattle.ps_scan.proofs.Scanning.{ScannedTo}
use Rattle.ps_scan.proofs.scanner.scan.Given as goal

abbrev pub invariant-loop-tokens : goal.invariant-loop-tokens
invariant-loop-tokens l = record { scanned : ScannedTo l.text l.at l.line.0 l.tokens.items; within : l.at ≤ length l.text; lines : l.line.0 ≤ l.at + 1 }

abbrev pub decreases-loop-tokens : goal.decreases-loop-tokens
decreases-loop-tokens l = length l.text - l.at

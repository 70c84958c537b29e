use Rattle.std.proofs.Common.{◌≡◌, ◌+◌, ◌-◌, ◌≤◌, drop, length}
use Rattle.ps_stepping.specs.ps_heap.Texts.{line_of}
use Rattle.machine_core.proofs.input.line_length.Given as goal

-- the bytes before the place are of the line
abbrev pub invariant-loop-count : goal.invariant-loop-count
invariant-loop-count l = (l.count ≤ length l.bytes) × (l.count + length (line_of (drop l.count l.bytes)) ≡ length (line_of l.bytes))

abbrev pub decreases-loop-count : goal.decreases-loop-count
decreases-loop-count l = length l.bytes - l.count

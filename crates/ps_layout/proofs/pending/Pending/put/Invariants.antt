-- The pieces from one place on stand before the others.
use Rattle.std.proofs.Common.{◌≡◌, ◌++◌, ◌≤◌, length, drop}
use Rattle.ps_layout.specs.Waiting.{waiting}
use Rattle.ps_layout.proofs.pending.Pending.put.Given as goal

abbrev pub invariant-loop-i : goal.invariant-loop-i
invariant-loop-i l = record {
  put : waiting l.self ≡ drop l.i l.pieces ++ waiting l.initial.self;
  within : l.i ≤ length l.pieces;
}

abbrev pub decreases-loop-i : goal.decreases-loop-i
decreases-loop-i l = l.i

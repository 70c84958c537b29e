-- what is left to be found again
use Rattle.std.proofs.Common.{◌≡◌, ℕ, length}
use Rattle.ps_placer.specs.inside.Tables.{value_at}
use Rattle.ps_placer.specs.inside.Standing.{undone}
use Rattle.ps_placer.proofs.placer.Placer.leave.Given as goal

abbrev pub invariant-loop-it : goal.invariant-loop-it
invariant-loop-it l = record {
  same : l.self ≡ record l.initial.self { spots = l.self.spots };
  undo : (k : ℕ) → undone l.hidden.items (value_at l.self.spots k) k ≡ undone l.initial.hidden.items (value_at l.initial.self.spots k) k;
}

abbrev pub decreases-loop-it : goal.decreases-loop-it
decreases-loop-it l = length l.hidden.items

-- the names from the position on are found, and what they hid is known
use Rattle.std.proofs.Common.{◌≡◌, ◌≤◌, ◌+◌, ℕ, length, drop}
use Rattle.ps_placer.specs.inside.Tables.{value_at}
use Rattle.ps_placer.specs.inside.Standing.{found_from, undone}
use Rattle.ps_placer.proofs.placer.Placer.enter.Given as goal

abbrev pub invariant-loop-position : goal.invariant-loop-position
invariant-loop-position l = record {
  within : l.position ≤ length l.kept;
  same : l.self ≡ record l.fn.self { scopes = l.fn.self.scopes + 1; spots = l.self.spots };
  outer_scopes : l.scopes ≡ l.fn.self.scopes;
  found : (k : ℕ) → value_at l.self.spots k ≡ found_from l.self.scopes l.position (drop l.position l.kept) (value_at l.fn.self.spots k) k;
  undo : (k : ℕ) → undone l.hidden.items (value_at l.self.spots k) k ≡ value_at l.fn.self.spots k;
}

abbrev pub decreases-loop-position : goal.decreases-loop-position
decreases-loop-position l = l.position

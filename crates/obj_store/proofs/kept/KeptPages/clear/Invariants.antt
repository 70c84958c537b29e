use Rattle.std.proofs.Common.{◌≡◌, ℕ, ◌<◌, length, get_or, None}
use Rattle.obj_store.proofs.kept.KeptPages.clear.Given as goal

-- nothing is kept in the places so far
abbrev pub invariant-loop-place : goal.invariant-loop-place
invariant-loop-place l = record {
  long : length l.self.places.items ≡ length l.initial.self.places.items;
  none : (k : ℕ) → k < l.place → get_or l.self.places.items k None ≡ None;
}

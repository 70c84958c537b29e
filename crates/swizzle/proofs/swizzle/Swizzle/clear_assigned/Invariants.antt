use Rattle.std.proofs.Common.{◌≡◌, length, map}
use Rattle.swizzle.specs.Heap.{without_mark}
use Rattle.swizzle.proofs.swizzle.Swizzle.clear_assigned.Given as goal

abbrev pub invariant-loop : goal.invariant-loop
invariant-loop l = (l.self.size ≡ l.fn.self.size) × (map without_mark l.self.objects ≡ map without_mark l.fn.self.objects) × (l.self.reached ≡ l.fn.self.reached)

abbrev pub decreases-loop : goal.decreases-loop
decreases-loop l = length l.self.assigned

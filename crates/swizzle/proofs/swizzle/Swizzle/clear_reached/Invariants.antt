use Rattle.std.proofs.Common.{◌≡◌, length, map}
use Rattle.swizzle.specs.Heap.{without_reach}
use Rattle.swizzle.proofs.swizzle.Swizzle.clear_reached.Given as goal

abbrev pub invariant-loop : goal.invariant-loop
invariant-loop l = (l.self.size ≡ l.fn.self.size) × (map without_reach l.self.objects ≡ map without_reach l.fn.self.objects) × (l.self.assigned ≡ l.fn.self.assigned)

abbrev pub decreases-loop : goal.decreases-loop
decreases-loop l = length l.self.reached

-- With no database open for writing there is nothing to store.
use Rattle.std.proofs.Common.{◌≡◌, ◌⊎◌, inl, inr, ℕ, ◌<◌, List, [], length, ap, arith}
use Rattle.swizzle.specs.Heap.{Heap}
use Rattle.commit_walk.specs.declared.homes.Source.{Source}
use Rattle.reach_commit.specs.Deciding.{AreWritable, HasWork}

none_below : (writing : List Source) (place : ℕ) → writing ≡ [] → place < length writing → ⊥
none_below writing place none below = absurd (omega (arith, below, ap length none))

idle : (heap : Heap) (writing : List Source) → writing ≡ [] → AreWritable heap writing → HasWork heap writing → ⊥
idle heap writing none writable (inl assigned) =
    let here = writable assigned.0 assigned.1 in
    none_below writing here.place none here.below
idle heap writing none writable (inr made) = none_below writing made.place none made.below

-- where something is to be stored, what is so unless none is open is so
pub writes : (heap : Heap) (writing : List Source) {W : Type 0} → (writing ≡ []) ⊎ W → AreWritable heap writing → HasWork heap writing → W
writes heap writing (inl none) writable work = absurd (idle heap writing none writable work)
writes heap writing (inr may) writable work = may

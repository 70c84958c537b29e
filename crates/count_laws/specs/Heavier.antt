-- When events differ in what is counted alone.
use Rattle.std.specs.Prelude.{◌≡◌, ℕ, ◌≤◌, List, [], ◌∷◌}
use Rattle.ps_heap.specs.Values.{Routine}
use Rattle.ps_heap.specs.Events.{Event, Out, Turn, Ask, Commit, Finish}

-- code weighs at least as much
abbrev pub Weighs : (Routine → ℕ) → (Routine → ℕ) → Type 0
Weighs light heavy = (does : Routine) → light does ≤ heavy does

-- the same event, with as many counted bytes or more
abbrev pub IsLess : Event → Event → Type 0
IsLess (Out bytes m) (Out others n) = (others ≡ bytes) × (m ≤ n)
IsLess (Turn m) (Turn n) = m ≤ n
IsLess (Ask for_what m) (Ask other n) = (other ≡ for_what) × (m ≤ n)
IsLess (Commit heap m) (Commit other n) = (other ≡ heap) × (m ≤ n)
IsLess (Finish e m) (Finish other n) = (other ≡ e) × (m ≤ n)
IsLess event other = ⊥

abbrev pub AreLess : List Event → List Event → Type 0
AreLess [] [] = Unit {0}
AreLess (event ∷ events) (other ∷ others) = IsLess event other × AreLess events others
AreLess events others = ⊥

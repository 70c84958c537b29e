-- What a file holds.
use Rattle.std.specs.Prelude.{ℕ, List}
use Rattle.obj_layout.specs.Stored.{Space}
use Rattle.obj_store.specs.Spaces.{space_held}

-- what stands for something as a space does so as the file in which that is found
abbrev pub HeldAs : {H : Type 0} → (Space → H → Type 0) → List ℕ → H → Type 0
HeldAs kept_as bytes heap = kept_as (space_held bytes) heap

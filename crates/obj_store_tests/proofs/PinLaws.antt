-- A pin that holds something is there.
use Rattle.std.proofs.Common.{◌<◌, List, [], ◌∷◌, length, get_or, arith, Option, None}
use Rattle.std.specs.Prelude.{IsSome}

pub pin_there : {A : Type 0} (pins : List (Option A)) → IsSome (get_or pins 0 None) → 0 < length pins
pin_there [] some = absurd (cc)
pin_there (pin ∷ pins) some = omega arith

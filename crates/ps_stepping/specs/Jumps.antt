-- Jumps within a unit.
use Rattle.std.specs.Prelude.{ℕ, List, [], ◌∷◌, nat_lt, Option, Some, None, if◌then◌else◌}
use Rattle.ps_heap.specs.Ends.{OutOfTurns}
use Rattle.ps_heap.specs.Events.{Turn}
use Rattle.ps_meaning.specs.Meaning.{Store, spent}
use Rattle.ps_stepping.specs.Config.{Config}
use Rattle.ps_stepping.specs.Steps.{Step, Goes, Stops, Stuck, on}

-- Forward to a greater offset than that of the jump itself, and back to a smaller one, which takes a turn.
abbrev pub forward : ℕ → ℕ → Config → Step
forward own to c = if nat_lt own to then on (record c { at = to }) else Stuck

abbrev pub turn_to : Option Store → ℕ → Config → Step
turn_to None to c = Stops OutOfTurns 0
turn_to (Some store) to c = Goes (Turn store.held.counted ∷ []) (record c { at = to; store = store })

abbrev pub back : ℕ → ℕ → Config → Step
back own to c = if nat_lt to own then turn_to (spent c.store) to c else Stuck

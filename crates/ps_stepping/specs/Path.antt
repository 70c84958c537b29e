-- The way of a run: from one configuration to another, and from a configuration to the end.
use Rattle.std.specs.Prelude.{ℕ, List, [], ◌∷◌, ◌++◌}
use Rattle.ps_heap.specs.Ends.{End}
use Rattle.ps_heap.specs.Events.{Event, Finish}
use Rattle.ps_stepping.specs.Config.{Config}
use Rattle.ps_stepping.specs.Machine.{Goes, Stops, and_touched, Steps}

-- some steps lead from the first configuration to the last, with these events
pub data Reaches : Config → List Event → Config → Type 0 where
  no_step : {c : Config} → Reaches c [] c
  more : {c next last : Config} {events behind : List Event} → Steps c (Goes events next) → Reaches next behind last → Reaches c (events ++ behind) last

-- some steps lead from the configuration to an end, with these events, of which the last is the end
pub data Finishes : Config → List Event → Type 0 where
  stops : {c : Config} {e : End} {touched : ℕ} → Steps c (Stops e touched) → Finishes c (Finish e (and_touched touched c.store.held.counted) ∷ [])
  goes : {c next : Config} {events behind : List Event} → Steps c (Goes events next) → Finishes next behind → Finishes c (events ++ behind)

-- The events of a run of a program, and its end.
use Rattle.std.specs.Prelude.{ℕ, pos, List, [], ◌∷◌, ◌++◌, None}
use Rattle.ps_typing.specs.ps_program.Node.{BodyNode, body}
use Rattle.ps_heap.specs.Values.{Num, Nil, Routine}
use Rattle.ps_heap.specs.Weights.{code_weight, routine_weight}
use Rattle.ps_heap.specs.Ends.{End, Done}
use Rattle.ps_heap.specs.Events.{Event, Finish}
use Rattle.ps_heap.specs.Held.{Reply, StoredHeap, nothing_stored, started}
use Rattle.ps_meaning.specs.Meaning.{Outcome, Value_is, Ends, Frame, Store, State, counted_in}
use Rattle.ps_meaning.specs.Evaluation.{eval}
use Rattle.ps_meaning.specs.Calls.{context}

unfoldable pub fresh_frame : Frame
fresh_frame = record { nums = λ slot. Num (pos 0); refs = λ slot. Nil; scope = None }

-- What a run is given: how many turns it may take, its input, the heap that was kept, and the replies to what it asks.
pub record Given : Type 0 where
  pub turns : ℕ
  pub input : List ℕ
  pub heap : StoredHeap
  pub replies : List Reply

-- over no heap, and without replies
abbrev pub over_nothing : ℕ → List ℕ → Given
over_nothing turns input = record { turns = turns; input = input; heap = nothing_stored; replies = [] }

-- nothing is made yet but the code, which counts so many bytes
abbrev pub fresh_store : (Routine → ℕ) → Given → ℕ → Store
fresh_store weigh given counted = record { turns = given.turns; input = given.input; held = started weigh given.replies counted given.heap }

unfoldable pub fresh_state : (Routine → ℕ) → Given → ℕ → State
fresh_state weigh given counted = record { events = []; store = fresh_store weigh given counted }

-- What a program returns where this is what the code of procedures weighs. Its own code is counted from the start.
unfoldable pub outcome_with : (Routine → ℕ) → Given → BodyNode → Outcome
outcome_with weigh given (body params gives tree scope line) =
    eval (context given.turns 0) tree fresh_frame (fresh_state weigh given (code_weight (body params gives tree scope line)))

abbrev pub outcome_of : Given → BodyNode → Outcome
outcome_of given program = outcome_with routine_weight given program

unfoldable pub all_events : Outcome → List Event
all_events (Value_is v frame state) = state.events ++ Finish Done (counted_in state.store) ∷ []
all_events (Ends e state) = state.events ++ Finish e (counted_in state.store) ∷ []

unfoldable pub end_reached : Outcome → End
end_reached (Value_is v frame state) = Done
end_reached (Ends e state) = e

-- the events of a run, of which the last is its end
unfoldable pub events_with : (Routine → ℕ) → Given → BodyNode → List Event
events_with weigh given program = all_events (outcome_with weigh given program)

abbrev pub run_events : Given → BodyNode → List Event
run_events given program = events_with routine_weight given program

unfoldable pub run_end : Given → BodyNode → End
run_end given program = end_reached (outcome_of given program)

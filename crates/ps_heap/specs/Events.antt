-- What a run does that can be seen, with asks and commits, and the events of programs that run one after the other.
use Rattle.std.specs.Prelude.{ℕ, Bool, true, false, if◌then◌else◌, List, [], ◌∷◌, ◌++◌}
use Rattle.ps_heap.specs.Ends.{End, Done, report_of}
use Rattle.ps_heap.specs.Held.{StoredHeap}

-- what is asked for: a new database, or one to be opened in the mode that the text names
pub data Asked : Type 0 where
  ToCreate : (name : List ℕ) → Asked
  ToOpen : (name mode : List ℕ) → Asked

-- Each event has the counted bytes of the program when it happens.
pub data Event : Type 0 where
  Out : (bytes : List ℕ) (counted : ℕ) → Event
  Turn : (counted : ℕ) → Event
  -- a database is asked for; the faults of the call are tested afterwards
  Ask : (for_what : Asked) (counted : ℕ) → Event
  -- this heap is kept from now on
  Commit : (heap : StoredHeap) (counted : ℕ) → Event
  Finish : (end_of_run : End) (counted : ℕ) → Event

abbrev pub count_of : Event → ℕ
count_of (Out bytes counted) = counted
count_of (Turn counted) = counted
count_of (Ask for_what counted) = counted
count_of (Commit heap counted) = counted
count_of (Finish end_of_run counted) = counted

-- what an event outputs: asks and commits nothing
abbrev pub output_of : Event → List ℕ
output_of (Out bytes counted) = bytes
output_of (Finish end_of_run counted) = report_of end_of_run
output_of _ = []

abbrev pub outputs : List Event → List ℕ
outputs [] = []
outputs (event ∷ events) = output_of event ++ outputs events

-- the heap of the last commit among these events, or the one before them
abbrev pub heap_after : StoredHeap → List Event → StoredHeap
heap_after heap [] = heap
heap_after heap (Commit other counted ∷ events) = heap_after other events
heap_after heap (event ∷ events) = heap_after heap events

-- the events end in the end of a run that is done
abbrev pub is_done : List Event → Bool
is_done [] = false
is_done (Finish Done counted ∷ []) = true
is_done (event ∷ events) = is_done events

-- Programs one after the other, each over the heap of the last commit before it. After the first that isn't done none runs.
unfoldable pub series_events : List (StoredHeap → List Event) → StoredHeap → List Event
series_events [] heap = []
series_events (run ∷ runs) heap =
    let events = run heap in
    events ++ (if is_done events then series_events runs (heap_after heap events) else [])

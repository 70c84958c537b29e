-- What the machine holds for what the meaning holds: each procedure is the unit of its body, and all else stays.
use Rattle.std.specs.Prelude.{◌≡◌, ℕ, List, map}
use Rattle.ps_gen.specs.Units.{unit_of}
use Rattle.ps_stepping.specs.ps_heap.Values.{Value, Procedure, Routine, as_written, as_compiled, word_of}
use Rattle.ps_stepping.specs.ps_heap.Objects.{Heap, Object, Structure, Elements, Scope, Keyed}
use Rattle.ps_stepping.specs.ps_heap.Held.{Held, StoredHeap}
use Rattle.ps_stepping.specs.ps_heap.Events.{Event, Commit}
use Rattle.ps_stepping.specs.ps_meaning.Meaning.{Frame, Store}
use Rattle.ps_stepping.specs.Config.{Locals}

unfoldable pub compiled_routine : Routine → Routine
compiled_routine (as_written of) = as_compiled (unit_of of)
compiled_routine (as_compiled of) = as_compiled of

abbrev pub compiled : Value → Value
compiled (Procedure does scope) = Procedure (compiled_routine does) scope
compiled v = v

abbrev pub compiled_all : List Value → List Value
compiled_all vs = map compiled vs

abbrev pub compiled_object : Object → Object
compiled_object (Structure class fields) = Structure class (compiled_all fields)
compiled_object (Elements ty low elements) = Elements ty low (compiled_all elements)
compiled_object (Scope text parent names) = Scope text parent (compiled_all names)
compiled_object (Keyed table) = Keyed table

abbrev pub compiled_heap : Heap → Heap
compiled_heap heap = map compiled_object heap

abbrev pub compiled_held : Held → Held
compiled_held held = record held { objects = compiled_heap held.objects }

abbrev pub compiled_store : Store → Store
compiled_store store = record store { held = compiled_held store.held }

-- a heap that is kept, and the events: a commit's is the compiled heap
abbrev pub compiled_stored : StoredHeap → StoredHeap
compiled_stored stored = record stored { objects = compiled_heap stored.objects }

abbrev pub compiled_event : Event → Event
compiled_event (Commit heap counted) = Commit (compiled_stored heap) counted
compiled_event event = event

abbrev pub compiled_events : List Event → List Event
compiled_events events = map compiled_event events

-- the locals of a frame: as numbers, and as references
abbrev pub compiled_locals : Frame → Locals
compiled_locals frame = record { nums = λ slot. word_of (frame.nums slot); refs = λ slot. compiled (frame.refs slot) }

-- What code weighs goes by the unit that it's made into: a body weighs what its unit does.
abbrev pub WeighsUnits : (Routine → ℕ) → Type 0
WeighsUnits weigh = (of : Routine) → weigh (compiled_routine of) ≡ weigh of

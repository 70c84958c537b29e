-- What the rows speak of: programs as what is held after each of their calls.
use Rattle.std.proofs.Common.{ℕ, List, [], Option, Some, None, get_or, false}
use Rattle.ps_heap.specs.Values.{Value, Nil, Pointer}
use Rattle.ps_heap.specs.Texts.{Attempt, Yields, Fails}
use Rattle.ps_heap.specs.Tables.{string_key, Entry, by_strings}
use Rattle.ps_heap.specs.Objects.{Heap, Object, Keyed, object_at}
use Rattle.ps_heap.specs.References.{values_of}
use Rattle.ps_heap.specs.Weights.{routine_weight}
use Rattle.ps_heap.specs.Held.{Held, StoredHeap, started}
use Rattle.ps_heap.specs.Calls.{Answer, enter_call, lookup_call, create_answer, open_answer, asks_to_create, asks_to_open}
use Rattle.ps_heap.specs.Databases.{Database}

-- what an attempt yields, where it does
abbrev pub held_by : Held → Attempt Held → Held
held_by before (Yields h) = h
held_by before (Fails trap) = before

abbrev pub value_by : Attempt Answer → Value
value_by (Yields a) = a.value
value_by (Fails trap) = Nil

abbrev pub held_found : Held → Attempt Answer → Held
held_found before (Yields a) = a.held
held_found before (Fails trap) = before

abbrev pub values_at : Option Object → List Value
values_at None = []
values_at (Some object) = values_of object

-- the field, element or kept name of this number
abbrev pub part_of : Held → Value → ℕ → Value
part_of h (Pointer id) n = get_or (values_at (object_at h.objects id)) n Nil
part_of h _ n = Nil

abbrev pub entry : List ℕ → ℕ → Entry (List ℕ)
entry key object = record { key = key; object = object }

-- the calls, each asked for and answered
abbrev pub creates : List ℕ → List ℕ → Held → Answer
creates name password h = create_answer name password (asks_to_create name h).held

abbrev pub opens : List ℕ → List ℕ → List ℕ → Held → Answer
opens name password mode h = open_answer name password mode (asks_to_open name mode h).held

abbrev pub enters : List ℕ → Value → Value → Held → Held
enters key table v h = held_by h (enter_call (string_key key) table v h)

abbrev pub looks_up : List ℕ → Value → Held → Value
looks_up key table h = value_by (lookup_call (string_key key) table h)

abbrev pub new_run : StoredHeap → Held
new_run stored = started routine_weight [] 0 stored

abbrev pub removes : List ℕ → Value → Held → Held
removes key table h = enters key table Nil h

abbrev pub table_with : List (Entry (List ℕ)) → Object
table_with entries = Keyed (by_strings entries)

abbrev pub database : List ℕ → List ℕ → ℕ → Database
database name password root = record { name = name; password = password; root = root }

-- objects of which none is committed, with so many bytes counted
abbrev pub uncommitted : Heap → ℕ → Held
uncommitted objects counted = record {
  objects = objects;
  homes = [];
  directory = [];
  openings = [];
  created = [];
  assigned = [];
  touched = [];
  asked = false;
  replies = [];
  counted = counted;
  weigh = routine_weight;
}

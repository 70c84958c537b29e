-- Calls over tables and databases, and the instructions of scans, computed.
use Rattle.std.proofs.Common.{◌≡◌, ℕ, ℤ, pos, List, [], ◌∷◌, refl, None, nat_eq, if◌then◌else◌}
use Rattle.std.specs.Prelude.{codes, ◌+◌}
use Rattle.ps_code.specs.ps_base.CodeUnit.{UnitView, unit, no_constants}
use Rattle.ps_code.specs.ps_base.declared.line.Line.{Line}
use Rattle.ps_code.specs.ps_base.declared.trap.Trap.TheVariants as trap
use Rattle.ps_code.specs.ps_base.declared.instr.Instr.TheVariants as instr
use Rattle.ps_heap.specs.Ends.{Trapped}
use Rattle.ps_heap.specs.Values.{Value, Num, Text, Nil, Pointer}
use Rattle.ps_heap.specs.Tables.{without_keys, by_strings, entered, looked_up, cardinality, next_string, next_int}
use Rattle.ps_heap.specs.Objects.{Heap, Object, Structure, Keyed, table_of}
use Rattle.ps_heap.specs.Databases.{admission}
use Rattle.ps_heap.specs.Held.{home_at, touched_after, touched_weight, is_first_touch, places_with, is_among}
use Rattle.ps_heap.specs.Commit.{decision, are_writable}
use Rattle.ps_heap.specs.Calls.{enter_call, lookup_call, cardinality_call, asks_to_create, asks_to_open, open_answer, commit_call}
use Rattle.ps_heap.specs.Library.{library_procedure, heap_call}
use Rattle.ps_heap.specs.Scans.{next_key}
use Rattle.ps_heap.specs.Events.{Turn}
use Rattle.ps_heap.proofs.Scenes.{entry, uncommitted}
use Rattle.ps_stepping.specs.Config.{Config}
use Rattle.ps_stepping.specs.Steps.{Goes, Stops, Stuck, on}
use Rattle.ps_stepping.specs.Library.{library}
use Rattle.ps_stepping.specs.Machine.{acts}

abbrev line : Line
line = record { 0 = 7 }

-- a body with three locals of each row
abbrev code : UnitView
code = unit [] no_constants (record { nums = 3; refs = 3; num_params = 0; ref_params = 0 })

abbrev with_locals : (ℕ → ℤ) → (ℕ → Value) → List ℤ → List Value → Heap → ℕ → Config
with_locals ns vs nums refs heap counted = record {
  unit = code;
  at = 10;
  nums = nums;
  refs = refs;
  locals = record { nums = ns; refs = vs };
  scope = None;
  callers = [];
  store = record { turns = 1; input = []; held = uncommitted heap counted };
}

abbrev at : List ℤ → List Value → Heap → ℕ → Config
at nums refs heap counted = with_locals (λ s. pos 0) (λ s. Nil) nums refs heap counted

abbrev a_box : Object
a_box = Structure (codes "box(int n)") (Num (pos 1) ∷ [])

abbrev empty : Heap
empty = Keyed without_keys ∷ a_box ∷ []

abbrev with_k : Heap
with_k = Keyed (by_strings (entry (codes "k") 1 ∷ [])) ∷ a_box ∷ []

table_is_made : library 3 line (at [] [] [] 0) ≡ on (at [] (Pointer 0 ∷ []) (Keyed without_keys ∷ []) 64)
unfolding library_procedure heap_call enter_call lookup_call cardinality_call looked_up entered cardinality table_of asks_to_create asks_to_open open_answer admission commit_call
    decision are_writable next_key next_string next_int home_at touched_after touched_weight is_first_touch places_with is_among
table_is_made = refl

-- the key stands below the table, and that below the value
entry_is_put : library 4 line (at [] (Pointer 1 ∷ Pointer 0 ∷ Text (codes "k") ∷ []) empty 0) ≡ on (at [] [] with_k (88 + 48))
unfolding library_procedure heap_call enter_call lookup_call cardinality_call looked_up entered cardinality table_of asks_to_create asks_to_open open_answer admission commit_call
    decision are_writable next_key next_string next_int home_at touched_after touched_weight is_first_touch places_with is_among
entry_is_put = refl

entry_is_found : library 5 line (at [] (Pointer 0 ∷ Text (codes "k") ∷ []) with_k 0) ≡ on (at [] (Pointer 1 ∷ []) with_k 0)
unfolding library_procedure heap_call enter_call lookup_call cardinality_call looked_up entered cardinality table_of asks_to_create asks_to_open open_answer admission commit_call
    decision are_writable next_key next_string next_int home_at touched_after touched_weight is_first_touch places_with is_among
entry_is_found = refl

ints_are_no_keys_here : library 7 line (at (pos 1 ∷ []) (Pointer 0 ∷ []) with_k 0) ≡ Stops (Trapped trap.KeyKind line) 0
unfolding library_procedure heap_call enter_call lookup_call cardinality_call looked_up entered cardinality table_of asks_to_create asks_to_open open_answer admission commit_call
    decision are_writable next_key next_string next_int home_at touched_after touched_weight is_first_touch places_with is_among
ints_are_no_keys_here = refl

entries_are_counted : library 8 line (at [] (Pointer 0 ∷ []) with_k 0) ≡ on (at (pos 1 ∷ []) [] with_k 0)
unfolding library_procedure heap_call enter_call lookup_call cardinality_call looked_up entered cardinality table_of asks_to_create asks_to_open open_answer admission commit_call
    decision are_writable next_key next_string next_int home_at touched_after touched_weight is_first_touch places_with is_among
entries_are_counted = refl

text_is_no_table : library 8 line (at [] (Text (codes "k") ∷ []) with_k 0) ≡ Stuck
unfolding library_procedure heap_call enter_call lookup_call cardinality_call looked_up entered cardinality table_of asks_to_create asks_to_open open_answer admission commit_call
    decision are_writable next_key next_string next_int home_at touched_after touched_weight is_first_touch places_with is_among
text_is_no_table = refl

nothing_to_commit : library 2 line (at [] [] with_k 0) ≡ on (at [] (Nil ∷ []) with_k 0)
unfolding library_procedure heap_call enter_call lookup_call cardinality_call looked_up entered cardinality table_of asks_to_create asks_to_open open_answer admission commit_call
    decision are_writable next_key next_string next_int home_at touched_after touched_weight is_first_touch places_with is_among
nothing_to_commit = refl

no_such_procedure : library 13 line (at [] [] [] 0) ≡ Stuck
unfolding library_procedure heap_call enter_call lookup_call cardinality_call looked_up entered cardinality table_of asks_to_create asks_to_open open_answer admission commit_call
    decision are_writable next_key next_string next_int home_at touched_after touched_weight is_first_touch places_with is_among
no_such_procedure = refl

-- A scan. The table and the procedure stand in two locals; the key that is found is the last one from then on.
abbrev scanning : ℤ → Value → Config → Config
scanning started last c = record c {
  locals = record {
    nums = λ s. if nat_eq s 2 then started else pos 0;
    refs = λ s. if nat_eq s 2 then last else (if nat_eq s 0 then Pointer 0 else Nil);
  };
}

key_is_found : acts (instr.ScanT 0 0 20 line) 5 (scanning (pos 0) Nil (at [] [] with_k 0))
    ≡ on (with_locals (λ s. if nat_eq s 2 then pos 1 else (if nat_eq s 2 then pos 0 else pos 0))
    (λ s. if nat_eq s 2 then Text (codes "k") else (if nat_eq s 2 then Nil else (if nat_eq s 0 then Pointer 0 else Nil)))
    [] (Pointer 1 ∷ Text (codes "k") ∷ Nil ∷ []) with_k 0)
unfolding library_procedure heap_call enter_call lookup_call cardinality_call looked_up entered cardinality table_of asks_to_create asks_to_open open_answer admission commit_call
    decision are_writable next_key next_string next_int home_at touched_after touched_weight is_first_touch places_with is_among
key_is_found = refl

-- after the last key it jumps
no_key_above : acts (instr.ScanT 0 0 20 line) 5 (scanning (pos 1) (Text (codes "k")) (at [] [] with_k 0))
    ≡ on (record (scanning (pos 1) (Text (codes "k")) (at [] [] with_k 0)) { at = 20 })
unfolding library_procedure heap_call enter_call lookup_call cardinality_call looked_up entered cardinality table_of asks_to_create asks_to_open open_answer admission commit_call
    decision are_writable next_key next_string next_int home_at touched_after touched_weight is_first_touch places_with is_among
no_key_above = refl

-- after a call that answered true a turn is taken
another_turn : acts (instr.ScanMore 0 3) 5 (at (pos 1 ∷ []) [] [] 0)
    ≡ Goes (Turn 0 ∷ []) (record (with_locals (λ s. if nat_eq s 0 then pos 1 else pos 0) (λ s. Nil) [] [] [] 0) { at = 3; store = record { turns = 0; input = []; held = uncommitted [] 0 } })
another_turn = refl

last_call : acts (instr.ScanMore 0 3) 5 (at (pos 0 ∷ []) [] [] 0) ≡ on (with_locals (λ s. if nat_eq s 0 then pos 1 else pos 0) (λ s. Nil) [] [] [] 0)
last_call = refl

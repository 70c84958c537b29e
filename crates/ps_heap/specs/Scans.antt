-- Scans: which key comes next, on the table as it then is, and as what it is handed to the procedure.
use Rattle.std.specs.Prelude.{ℕ, ℤ, Bool, true, false, List, [], ◌∷◌, Option, Some, None}
use Rattle.std.specs.Option.{option_map}
use Rattle.ps_heap.specs.Texts.{Attempt, Yields, Fails}
use Rattle.ps_heap.specs.Values.{Value, Num, Text, Pointer}
use Rattle.ps_heap.specs.Tables.{Key, string_key, int_key, Entry, entry_of, Table, on_yield, next_string, next_int}
use Rattle.ps_heap.specs.Objects.{Heap, table_of}
use Rattle.ps_heap.specs.Calls.{then_try}

-- the greatest number of calls after which a scan goes on
abbrev pub most_scan_calls : ℕ
most_scan_calls = 2147483647

-- a key with the object under it
pub record Found : Type 0 where
  pub key : Key
  pub object : ℕ

abbrev pub found_of : {K : Type 0} → (K → Key) → Entry K → Found
found_of key_of entry = record { key = key_of entry.key; object = entry.object }

abbrev pub last_string : Option Key → Option (List ℕ)
last_string (Some (string_key bytes)) = Some bytes
last_string _ = None

abbrev pub last_int : Option Key → Option ℤ
last_int (Some (int_key value)) = Some value
last_int _ = None

-- the least key above the last one, or the least of all, in a table by strings or in one by ints
abbrev pub next_in_table : Bool → Option Key → Table → Attempt (Option Found)
next_in_table true last table = on_yield (next_string (last_string last) table) (option_map (found_of string_key))
next_in_table false last table = on_yield (next_int (last_int last) table) (option_map (found_of int_key))

-- the same of what a value denotes
unfoldable pub next_key : Bool → Heap → Value → Option Key → Attempt (Option Found)
next_key strings heap table last = then_try (table_of heap table) (next_in_table strings last)

-- a key as the procedure gets it
abbrev pub shown_key : Key → Value
shown_key (string_key bytes) = Text bytes
shown_key (int_key value) = Num value

-- what the procedure is called with
abbrev pub scan_arguments : Found → List Value
scan_arguments found = shown_key found.key ∷ Pointer found.object ∷ []

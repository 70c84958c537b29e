-- A plain step, and calls on databases, computed: what is held before and after them, and their events.
use Rattle.std.proofs.Common.{◌≡◌, ℤ, pos, true, List, [], ◌∷◌, refl, Some, None, inl, inr, arith}
use Rattle.std.specs.Prelude.{codes}
use Rattle.reaching.specs.Reaching.{IsIn, is_in, without, walk, reach, first_source}
use Rattle.ps_code.specs.ps_base.CodeUnit.{UnitView, unit, no_constants}
use Rattle.ps_code.specs.ps_base.declared.line.Line.{Line}
use Rattle.ps_code.specs.ps_base.declared.instr.Instr.TheVariants as instr
use Rattle.ps_heap.specs.Calls.{enter_call, lookup_call, cardinality_call, asks_to_create, asks_to_open, create_answer, open_answer, commit_call}
use Rattle.ps_heap.specs.Commit.{loose_from, loose, roots_of, after_places, at_home, source_of, sources, first_database, created_with, home_after, homes_after, are_writable, saved, decision}
use Rattle.ps_heap.specs.Databases.{Reading, Writing, database_from, database_at, every_root, each_once, open_for_writing, create_fault, admission}
use Rattle.ps_heap.specs.Events.{Ask, Commit, ToCreate, ToOpen}
use Rattle.ps_heap.specs.Held.{Held, StoredHeap, nothing_stored, home_at, row, reached_from_roots, touched_after, touched_weight, is_first_touch, places_with, is_among}
use Rattle.ps_heap.specs.Library.{library_procedure, heap_call}
use Rattle.ps_heap.specs.Objects.{Keyed}
use Rattle.ps_heap.specs.References.{next_in}
use Rattle.ps_heap.specs.Tables.{without_keys}
use Rattle.ps_heap.specs.Values.{Value, Nil, Pointer, Text}
use Rattle.ps_heap.proofs.Scenes.{new_run, database}
use Rattle.ps_stepping.specs.Config.{Config}
use Rattle.ps_stepping.specs.Steps.{Goes, on}
use Rattle.ps_stepping.specs.Library.{library}
use Rattle.ps_stepping.specs.Machine.{acts}
use Rattle.database_steps.specs.Databases.{SameDatabases, AreNamed, IsAlone}
use Rattle.database_steps.specs.Quiet.{AreQuiet}

abbrev line : Line
line = record { 0 = 7 }

abbrev code : UnitView
code = unit [] no_constants (record { nums = 3; refs = 3; num_params = 0; ref_params = 0 })

abbrev at : List ℤ → List Value → Held → Config
at nums refs held = record {
  unit = code;
  at = 10;
  nums = nums;
  refs = refs;
  locals = record { nums = λ s. pos 0; refs = λ s. Nil };
  scope = None;
  callers = [];
  store = record { turns = 1; input = []; held = held };
}

-- A number is pushed: all is held as before.
number_is_pushed : (h : Held) → acts (instr.Int (pos 7)) 5 (at [] [] h) ≡ on (at (pos 7 ∷ []) [] h)
number_is_pushed h = refl

-- A database is made by a run over no heap.
abbrev with_d : Held
with_d = record (new_run nothing_stored) {
  objects = Keyed without_keys ∷ [];
  directory = database (codes "d") [] 0 ∷ [];
  openings = record { number = 1; mode = Writing } ∷ [];
  created = 1 ∷ [];
  asked = true;
  counted = 168;
}

database_is_made : library 0 line (at [] (Text [] ∷ Text (codes "d") ∷ []) (new_run nothing_stored))
    ≡ Goes (Ask (ToCreate (codes "d")) 104 ∷ []) (at [] (Pointer 0 ∷ []) with_d)
unfolding library_procedure heap_call create_answer create_fault asks_to_create open_answer admission asks_to_open commit_call enter_call lookup_call cardinality_call reached_from_roots row home_at
    every_root reach walk without is_in next_in touched_after touched_weight is_first_touch each_once
database_is_made = refl

-- it is open, and the next one isn't
is_open : open_for_writing with_d.openings ≡ 1 ∷ []
unfolding each_once is_in
is_open = refl

next_is_not : IsIn 2 (1 ∷ []) → ⊥
next_is_not (inl e) = omega (arith, e)
next_is_not (inr none) = none

is_alone : IsAlone with_d
is_alone = record { named = (record { first = omega arith; last = omega arith }, tt); replies = refl }

-- The database is committed: its root is at home in it, and the databases that are open stay so.
abbrev d_alone : StoredHeap
d_alone = record { objects = Keyed without_keys ∷ []; homes = Some 1 ∷ []; directory = database (codes "d") [] 0 ∷ [] }

database_is_committed : library 2 line (at [] [] with_d)
    ≡ Goes (Commit d_alone 168 ∷ []) (at [] (Nil ∷ []) (record with_d { homes = Some 1 ∷ []; created = [] }))
unfolding library_procedure heap_call create_answer create_fault asks_to_create open_answer admission asks_to_open commit_call enter_call lookup_call cardinality_call reached_from_roots row home_at
    every_root reach walk without is_in first_source next_in touched_after touched_weight is_first_touch each_once decision are_writable saved homes_after home_after first_database sources source_of
    at_home created_with after_places roots_of loose loose_from database_at database_from places_with is_among
database_is_committed = refl

commit_is_not_quiet : AreQuiet (Commit d_alone 168 ∷ []) → ⊥
commit_is_not_quiet quiet = quiet.0

-- Another run opens it for reading, and then for writing.
abbrev reading : Held
reading = record (new_run d_alone) { homes = Some 1 ∷ []; openings = record { number = 1; mode = Reading } ∷ []; touched = 0 ∷ []; asked = true; counted = 216 }

opened_for_reading : library 1 line (at [] (Text (codes "read") ∷ Text [] ∷ Text (codes "d") ∷ []) (new_run d_alone))
    ≡ Goes (Ask (ToOpen (codes "d") (codes "read")) 152 ∷ []) (at [] (Pointer 0 ∷ []) reading)
unfolding library_procedure heap_call create_answer create_fault asks_to_create open_answer admission asks_to_open commit_call enter_call lookup_call cardinality_call reached_from_roots row home_at
    every_root reach walk without is_in next_in touched_after touched_weight is_first_touch each_once
opened_for_reading = refl

abbrev writing : Held
writing = record reading { openings = record { number = 1; mode = Reading } ∷ record { number = 1; mode = Writing } ∷ [] }

opened_for_writing : library 1 line (at [] (Text (codes "write") ∷ Text [] ∷ Text (codes "d") ∷ []) reading)
    ≡ Goes (Ask (ToOpen (codes "d") (codes "write")) 216 ∷ []) (at [] (Pointer 0 ∷ []) writing)
unfolding library_procedure heap_call create_answer create_fault asks_to_create open_answer admission asks_to_open commit_call enter_call lookup_call cardinality_call reached_from_roots row home_at
    every_root reach walk without is_in next_in touched_after touched_weight is_first_touch each_once
opened_for_writing = refl

-- none but the one that is there can be open
no_other_is_open : AreNamed (record writing { openings = record { number = 2; mode = Reading } ∷ [] }) → ⊥
no_other_is_open named = omega (arith, named.0.last)

-- a table is made beside it: the databases are the same
abbrev and_table : Held
and_table = record writing { objects = Keyed without_keys ∷ Keyed without_keys ∷ []; counted = 280 }

table_is_made : library 3 line (at [] [] writing) ≡ on (at [] (Pointer 1 ∷ []) and_table)
unfolding library_procedure heap_call create_answer create_fault asks_to_create open_answer admission asks_to_open commit_call enter_call lookup_call cardinality_call reached_from_roots row home_at
    every_root reach walk without is_in next_in touched_after touched_weight is_first_touch each_once
table_is_made = refl

same_databases : SameDatabases writing and_table
same_databases = record { homes = refl; directory = refl; openings = refl; created = refl; asked = refl; replies = refl; weigh = refl }

-- an opening more is no plain step
not_the_same : SameDatabases reading writing → ⊥
not_the_same same = let e : writing.openings ≡ reading.openings = same.openings in cc

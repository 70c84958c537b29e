-- Weights, and what is counted of tables, databases and objects that are touched.
use Rattle.std.proofs.Common.{◌≡◌, ℕ, zero, suc, ◌+◌, List, [], ◌∷◌, refl, pos, Option, Some, None}
use Rattle.std.specs.Prelude.{codes, ◌*◌, ◌/◌, replicate}
use Rattle.ps_base.specs.TyView as ty
use Rattle.ps_typing.specs.ps_program.Node.{body}
use Rattle.ps_typing.specs.ps_program.Node as node
use Rattle.ps_heap.specs.Values.{Value, Num, Text, Nil, Pointer, Procedure, as_written, as_compiled}
use Rattle.reaching.specs.Reaching.{is_in, without, walk, reach, first_source}
use Rattle.ps_heap.specs.Tables.{string_key, entered, looked_up, by_ints}
use Rattle.ps_heap.specs.Objects.{Object, Structure, Scope, Elements, Keyed, Heap, table_of}
use Rattle.ps_heap.specs.References.{next_in}
use Rattle.ps_heap.specs.Databases.{database_from, database_at, every_root, each_once, create_fault, admission}
use Rattle.ps_heap.specs.Scopes.{scope_out, name_in, with_name}
use Rattle.ps_heap.specs.Held.{Held, reading, Part, StoredHeap, nothing_stored, made, is_among, home_at, assigned_part, way_out, assigned_name, row, reached_from_roots, started, touched_after, touched_weight, is_first_touch, places_with}
use Rattle.ps_heap.specs.Commit.{fresh_weight, fresh_words, weights_at, places_weight, loose_from, loose, roots_of, after_places, starts, newly_reached, at_home, source_of, sources, first_database, created_with, home_after, homes_after, are_writable, saved, decision}
use Rattle.ps_heap.specs.Weights.{unit_weight, constants_weight, routine_weight, full_weight, whole_weight}
use Rattle.ps_heap.specs.Events.{Ask, ToCreate}
use Rattle.ps_heap.specs.Calls.{enter_call, lookup_call, asks_to_create, asks_to_open, create_answer, open_answer, commit_call}
use Rattle.ps_heap.proofs.Scenes.{held_found, entry, creates, opens, enters, removes, new_run, table_with, database}
use Rattle.ps_base.specs.CodeUnit.{unit, no_constants, constant_then, text, literal}

abbrev box : ℕ → Object
box n = Structure (codes "box(int n)") (Num (pos n) ∷ [])

-- proc( -> int); 1
abbrev ticks : Option ℕ → Value
ticks scope = Procedure (as_written (body [] ty.Int (node.Int (pos 1)) None (record { 0 = 1 }))) scope

-- Weights: by themselves, in full, and with the texts and procedures in their places.
structure : full_weight (box 1) ≡ 112
structure = refl

structure_with_a_text : whole_weight routine_weight (Structure (codes "address(int number;string town)") (Num (pos 76) ∷ Text (codes "St Andrews") ∷ [])) ≡ 64 + 72 + 56
structure_with_a_text = refl

vector : whole_weight routine_weight (Elements (codes "*string") (pos 1) (Text (codes "a") ∷ Nil ∷ [])) ≡ 72 + 48 + 48
vector = refl

scope : whole_weight routine_weight (Scope (codes "scope(int n)") (Some 3) (Num (pos 1) ∷ [])) ≡ 64 + 56
scope = refl

table_by_strings : whole_weight routine_weight (table_with (entry (codes "head") 1 ∷ entry (codes "tail of nine") 2 ∷ [])) ≡ 64 + (88 + 48) + (88 + 56)
table_by_strings = refl

table_by_ints : whole_weight routine_weight (Keyed (by_ints (record { key = pos 1; object = 1 } ∷ []))) ≡ 64 + 88
table_by_ints = refl

-- a procedure in a place: a closure, and the code of its body, which has one clause; its scope isn't part of it
structure_with_a_procedure : whole_weight routine_weight (Structure (codes "counter(proc(->int) next)") (ticks (Some 1) ∷ [])) ≡ 56 + 72 + 56 + (64 + 56 + 96)
structure_with_a_procedure = refl

-- where code is all that there is: six words and one for its bytes, a word for each constant, and the constants
compiled : routine_weight (as_compiled (unit (replicate 6 0) (constant_then (text (codes "proc(->int)")) (constant_then (literal (unit [] no_constants (record { nums = 0; refs = 0; num_params = 0; ref_params = 0 }))) no_constants)) (record { nums = 0; refs = 0; num_params = 0; ref_params = 0 }))) ≡ 56 + (8 + 56) + (8 + 48)
unfolding unit_weight constants_weight
compiled = refl

-- Databases. The directory counts at the first call that asks, the root of a new database before it is asked for; a directory with one database more
-- counts where the call has no fault.
abbrev fresh_run : Held
fresh_run = new_run nothing_stored

asked_first : (asks_to_create (codes "d") fresh_run).held.counted ≡ 40 + 64
unfolding decision are_writable each_once saved homes_after row home_after first_database sources source_of at_home created_with after_places roots_of loose loose_from home_at database_at database_from reached_from_roots every_root reach walk without is_in first_source next_in places_with is_among create_answer create_fault asks_to_create open_answer admission asks_to_open enter_call lookup_call table_of looked_up entered touched_after touched_weight is_first_touch commit_call
asked_first = refl

asked_event : (asks_to_create (codes "d") fresh_run).events ≡ Ask (ToCreate (codes "d")) 104 ∷ []
unfolding decision are_writable each_once saved homes_after row home_after first_database sources source_of at_home created_with after_places roots_of loose loose_from home_at database_at database_from reached_from_roots every_root reach walk without is_in first_source next_in places_with is_among create_answer create_fault asks_to_create open_answer admission asks_to_open enter_call lookup_call table_of looked_up entered touched_after touched_weight is_first_touch commit_call
asked_event = refl

one_made : (creates (codes "d") [] fresh_run).held.counted ≡ 40 + 64 + 64
unfolding decision are_writable each_once saved homes_after row home_after first_database sources source_of at_home created_with after_places roots_of loose loose_from home_at database_at database_from reached_from_roots every_root reach walk without is_in first_source next_in places_with is_among create_answer create_fault asks_to_create open_answer admission asks_to_open enter_call lookup_call table_of looked_up entered touched_after touched_weight is_first_touch commit_call
one_made = refl

two_made : (creates (codes "e") [] (creates (codes "d") [] fresh_run).held).held.counted ≡ 168 + 64 + 88
unfolding decision are_writable each_once saved homes_after row home_after first_database sources source_of at_home created_with after_places roots_of loose loose_from home_at database_at database_from reached_from_roots every_root reach walk without is_in first_source next_in places_with is_among create_answer create_fault asks_to_create open_answer admission asks_to_open enter_call lookup_call table_of looked_up entered touched_after touched_weight is_first_touch commit_call
two_made = refl

-- an error record counts in full with its three texts, and no directory is made
not_made : (creates [] [] fresh_run).held.counted ≡ 104 + (48 + 24 + 120) + 56 + 48 + 64
unfolding decision are_writable each_once saved homes_after row home_after first_database sources source_of at_home created_with after_places roots_of loose loose_from home_at database_at database_from reached_from_roots every_root reach walk without is_in first_source next_in places_with is_among create_answer create_fault asks_to_create open_answer admission asks_to_open enter_call lookup_call table_of looked_up entered touched_after touched_weight is_first_touch commit_call
not_made = refl

error_record_made : (creates [] [] fresh_run).held.objects ≡ Structure (codes "error.record(string error.context;string error.fault;string error.explain)") (Text (codes "create.database") ∷ Text (codes "bad name") ∷ Text (codes "a name has 1 to 64 bytes") ∷ []) ∷ []
unfolding decision are_writable each_once saved homes_after row home_after first_database sources source_of at_home created_with after_places roots_of loose loose_from home_at database_at database_from reached_from_roots every_root reach walk without is_in first_source next_in places_with is_among create_answer create_fault asks_to_create open_answer admission asks_to_open enter_call lookup_call table_of looked_up entered touched_after touched_weight is_first_touch commit_call
error_record_made = refl

abbrev stored : StoredHeap
stored = record {
  objects = table_with (entry (codes "k") 1 ∷ entry (codes "kk") 2 ∷ []) ∷ box 1 ∷ Structure (codes "address(int number;string town)") (Num (pos 76) ∷ Text (codes "St Andrews") ∷ []) ∷ [];
  homes = Some 1 ∷ Some 1 ∷ Some 1 ∷ [];
  directory = database (codes "d") [] 0 ∷ [];
}

abbrev opened : Held
opened = (opens (codes "d") [] (codes "write") (new_run stored)).held

-- an opening counts the directory with its names and passwords, once, and touches the root
root_touched : opened.counted ≡ (64 + 48 + 40) + (64 + 136 + 136)
unfolding decision are_writable each_once saved homes_after row home_after first_database sources source_of at_home created_with after_places roots_of loose loose_from home_at database_at database_from reached_from_roots every_root reach walk without is_in first_source next_in places_with is_among create_answer create_fault asks_to_create open_answer admission asks_to_open enter_call lookup_call table_of looked_up entered touched_after touched_weight is_first_touch commit_call
root_touched = refl

opened_again : (opens (codes "d") [] (codes "read") opened).held.counted ≡ opened.counted
unfolding decision are_writable each_once saved homes_after row home_after first_database sources source_of at_home created_with after_places roots_of loose loose_from home_at database_at database_from reached_from_roots every_root reach walk without is_in first_source next_in places_with is_among create_answer create_fault asks_to_create open_answer admission asks_to_open enter_call lookup_call table_of looked_up entered touched_after touched_weight is_first_touch commit_call
opened_again = refl

not_admitted : (opens (codes "d") (codes "px") (codes "read") (new_run stored)).held.counted ≡ 152 + 360
unfolding decision are_writable each_once saved homes_after row home_after first_database sources source_of at_home created_with after_places roots_of loose loose_from home_at database_at database_from reached_from_roots every_root reach walk without is_in first_source next_in places_with is_among create_answer create_fault asks_to_create open_answer admission asks_to_open enter_call lookup_call table_of looked_up entered touched_after touched_weight is_first_touch commit_call
not_admitted = refl

-- Touches: what is read of a place counts once, in full and with the texts in its places, as it is then. What isn't committed doesn't count.
abbrev counted_by : Held → Held → ℕ → Type 0
counted_by before h bytes = h.counted ≡ before.counted + bytes

abbrev lookup : List ℕ → Held → Held
lookup key h = held_found h (lookup_call (string_key key) (Pointer 0) h)

box_touched : counted_by opened (lookup (codes "k") opened) 112
unfolding decision are_writable each_once saved homes_after row home_after first_database sources source_of at_home created_with after_places roots_of loose loose_from home_at database_at database_from reached_from_roots every_root reach walk without is_in first_source next_in places_with is_among create_answer create_fault asks_to_create open_answer admission asks_to_open enter_call lookup_call table_of looked_up entered touched_after touched_weight is_first_touch commit_call
box_touched = refl

touched_once_for_all : counted_by opened (lookup (codes "k") (lookup (codes "k") opened)) 112
unfolding decision are_writable each_once saved homes_after row home_after first_database sources source_of at_home created_with after_places roots_of loose loose_from home_at database_at database_from reached_from_roots every_root reach walk without is_in first_source next_in places_with is_among create_answer create_fault asks_to_create open_answer admission asks_to_open enter_call lookup_call table_of looked_up entered touched_after touched_weight is_first_touch commit_call
touched_once_for_all = refl

touched_with_its_text : counted_by opened (lookup (codes "kk") opened) (64 + 72 + 56)
unfolding decision are_writable each_once saved homes_after row home_after first_database sources source_of at_home created_with after_places roots_of loose loose_from home_at database_at database_from reached_from_roots every_root reach walk without is_in first_source next_in places_with is_among create_answer create_fault asks_to_create open_answer admission asks_to_open enter_call lookup_call table_of looked_up entered touched_after touched_weight is_first_touch commit_call
touched_with_its_text = refl

missing_key : counted_by opened (lookup (codes "x") opened) 0
unfolding decision are_writable each_once saved homes_after row home_after first_database sources source_of at_home created_with after_places roots_of loose loose_from home_at database_at database_from reached_from_roots every_root reach walk without is_in first_source next_in places_with is_among create_answer create_fault asks_to_create open_answer admission asks_to_open enter_call lookup_call table_of looked_up entered touched_after touched_weight is_first_touch commit_call
missing_key = refl

read_of_a_field : counted_by opened (reading (Pointer 2) opened) 192
unfolding decision are_writable each_once saved homes_after row home_after first_database sources source_of at_home created_with after_places roots_of loose loose_from home_at database_at database_from reached_from_roots every_root reach walk without is_in first_source next_in places_with is_among create_answer create_fault asks_to_create open_answer admission asks_to_open enter_call lookup_call table_of looked_up entered touched_after touched_weight is_first_touch commit_call
read_of_a_field = refl

read_of_nil : counted_by opened (reading Nil opened) 0
unfolding decision are_writable each_once saved homes_after row home_after first_database sources source_of at_home created_with after_places roots_of loose loose_from home_at database_at database_from reached_from_roots every_root reach walk without is_in first_source next_in places_with is_among create_answer create_fault asks_to_create open_answer admission asks_to_open enter_call lookup_call table_of looked_up entered touched_after touched_weight is_first_touch commit_call
read_of_nil = refl

new_object_read : counted_by opened (reading (Pointer 3) (made (box 1) opened)) 56
unfolding decision are_writable each_once saved homes_after row home_after first_database sources source_of at_home created_with after_places roots_of loose loose_from home_at database_at database_from reached_from_roots every_root reach walk without is_in first_source next_in places_with is_among create_answer create_fault asks_to_create open_answer admission asks_to_open enter_call lookup_call table_of looked_up entered touched_after touched_weight is_first_touch commit_call
new_object_read = refl

-- as it is when it is first touched: a text that is assigned afterwards doesn't count
touched_as_it_was : counted_by opened (reading (Pointer 2) (assigned_part 2 1 (Text (codes "a town with a far longer name")) (reading (Pointer 2) opened))) 192
unfolding decision are_writable each_once saved homes_after row home_after first_database sources source_of at_home created_with after_places roots_of loose loose_from home_at database_at database_from reached_from_roots every_root reach walk without is_in first_source next_in places_with is_among create_answer create_fault asks_to_create open_answer admission asks_to_open enter_call lookup_call table_of looked_up entered touched_after touched_weight is_first_touch commit_call
touched_as_it_was = refl

-- what was committed by this program counts when it is touched afterwards
abbrev box_saved : Held
box_saved = (commit_call (enters (codes "n") (Pointer 0) (Pointer 3) (made (box 1) opened))).held

made_and_entered : counted_by opened box_saved (56 + 136)
unfolding decision are_writable each_once saved homes_after row home_after first_database sources source_of at_home created_with after_places roots_of loose loose_from home_at database_at database_from reached_from_roots every_root reach walk without is_in first_source next_in places_with is_among create_answer create_fault asks_to_create open_answer admission asks_to_open enter_call lookup_call table_of looked_up entered touched_after touched_weight is_first_touch commit_call
made_and_entered = refl

touched_after_its_commit : counted_by box_saved (lookup (codes "n") box_saved) 112
unfolding decision are_writable each_once saved homes_after row home_after first_database sources source_of at_home created_with after_places roots_of loose loose_from home_at database_at database_from reached_from_roots every_root reach walk without is_in first_source next_in places_with is_among create_answer create_fault asks_to_create open_answer admission asks_to_open enter_call lookup_call table_of looked_up entered touched_after touched_weight is_first_touch commit_call
touched_after_its_commit = refl

-- An entry counts where it is new, with its key.
new_entry : counted_by opened (enters (codes "twenty-four bytes of key") (Pointer 0) (Pointer 1) opened) (88 + 64)
unfolding decision are_writable each_once saved homes_after row home_after first_database sources source_of at_home created_with after_places roots_of loose loose_from home_at database_at database_from reached_from_roots every_root reach walk without is_in first_source next_in places_with is_among create_answer create_fault asks_to_create open_answer admission asks_to_open enter_call lookup_call table_of looked_up entered touched_after touched_weight is_first_touch commit_call
new_entry = refl

entry_changed : counted_by opened (enters (codes "k") (Pointer 0) (Pointer 2) opened) 0
unfolding decision are_writable each_once saved homes_after row home_after first_database sources source_of at_home created_with after_places roots_of loose loose_from home_at database_at database_from reached_from_roots every_root reach walk without is_in first_source next_in places_with is_among create_answer create_fault asks_to_create open_answer admission asks_to_open enter_call lookup_call table_of looked_up entered touched_after touched_weight is_first_touch commit_call
entry_changed = refl

entry_removed : counted_by opened (removes (codes "k") (Pointer 0) opened) 0
unfolding decision are_writable each_once saved homes_after row home_after first_database sources source_of at_home created_with after_places roots_of loose loose_from home_at database_at database_from reached_from_roots every_root reach walk without is_in first_source next_in places_with is_among create_answer create_fault asks_to_create open_answer admission asks_to_open enter_call lookup_call table_of looked_up entered touched_after touched_weight is_first_touch commit_call
entry_removed = refl

-- Scopes. A kept name's scope, and each on the way out to it, are touched before the name gets its value.
abbrev scopes_stored : StoredHeap
scopes_stored = record {
  objects = table_with (entry (codes "k") 3 ∷ []) ∷ Scope (codes "scope(string s)") None (Text [] ∷ []) ∷ Scope (codes "scope(int n)") (Some 1) (Num (pos 0) ∷ []) ∷ Structure (codes "counter(proc(->int) next)") (ticks (Some 2) ∷ []) ∷ [];
  homes = Some 1 ∷ Some 1 ∷ Some 1 ∷ Some 1 ∷ [];
  directory = database (codes "d") [] 0 ∷ [];
}

abbrev in_scopes : Held
in_scopes = (opens (codes "d") [] (codes "write") (new_run scopes_stored)).held

scope_of_the_name : counted_by in_scopes (assigned_name (Some 2) 0 0 (Num (pos 1)) in_scopes) (64 + 56)
unfolding decision are_writable each_once saved homes_after row home_after first_database sources source_of at_home created_with after_places roots_of loose loose_from home_at database_at database_from reached_from_roots every_root reach walk without is_in first_source next_in places_with is_among create_answer create_fault asks_to_create open_answer admission asks_to_open enter_call lookup_call table_of looked_up entered touched_after touched_weight is_first_touch commit_call scope_out with_name name_in way_out
scope_of_the_name = refl

way_to_the_name : counted_by in_scopes (assigned_name (Some 2) 1 0 (Text (codes "a text of more than eight bytes")) in_scopes) (64 + 56 + (64 + 56 + 40))
unfolding decision are_writable each_once saved homes_after row home_after first_database sources source_of at_home created_with after_places roots_of loose loose_from home_at database_at database_from reached_from_roots every_root reach walk without is_in first_source next_in places_with is_among create_answer create_fault asks_to_create open_answer admission asks_to_open enter_call lookup_call table_of looked_up entered touched_after touched_weight is_first_touch commit_call scope_out with_name name_in way_out
way_to_the_name = refl

name_assigned_out_there : (assigned_name (Some 2) 1 0 (Text (codes "a")) in_scopes).assigned ≡ Part 1 0 ∷ []
unfolding decision are_writable each_once saved homes_after row home_after first_database sources source_of at_home created_with after_places roots_of loose loose_from home_at database_at database_from reached_from_roots every_root reach walk without is_in first_source next_in places_with is_among create_answer create_fault asks_to_create open_answer admission asks_to_open enter_call lookup_call table_of looked_up entered touched_after touched_weight is_first_touch commit_call scope_out with_name name_in way_out
name_assigned_out_there = refl

scope_of_a_procedure_that_is_read : counted_by in_scopes (reading (ticks (Some 2)) in_scopes) 0
unfolding decision are_writable each_once saved homes_after row home_after first_database sources source_of at_home created_with after_places roots_of loose loose_from home_at database_at database_from reached_from_roots every_root reach walk without is_in first_source next_in places_with is_among create_answer create_fault asks_to_create open_answer admission asks_to_open enter_call lookup_call table_of looked_up entered touched_after touched_weight is_first_touch commit_call scope_out with_name name_in way_out
scope_of_a_procedure_that_is_read = refl

-- The fresh weight of a commit.
nothing_fresh : fresh_weight opened ≡ 0
unfolding decision are_writable each_once saved homes_after row home_after first_database sources source_of at_home created_with after_places roots_of loose loose_from home_at database_at database_from reached_from_roots every_root reach walk without is_in first_source next_in places_with is_among create_answer create_fault asks_to_create open_answer admission asks_to_open enter_call lookup_call table_of looked_up entered touched_after touched_weight is_first_touch commit_call fresh_weight fresh_words weights_at places_weight newly_reached starts
nothing_fresh = refl

new_database : fresh_weight (creates (codes "d") [] fresh_run).held ≡ 64 + (64 + 48 + 40)
unfolding decision are_writable each_once saved homes_after row home_after first_database sources source_of at_home created_with after_places roots_of loose loose_from home_at database_at database_from reached_from_roots every_root reach walk without is_in first_source next_in places_with is_among create_answer create_fault asks_to_create open_answer admission asks_to_open enter_call lookup_call table_of looked_up entered touched_after touched_weight is_first_touch commit_call fresh_weight fresh_words weights_at places_weight newly_reached starts
new_database = refl

new_box : fresh_weight (enters (codes "n") (Pointer 0) (Pointer 3) (made (box 1) opened)) ≡ 112 + 136
unfolding decision are_writable each_once saved homes_after row home_after first_database sources source_of at_home created_with after_places roots_of loose loose_from home_at database_at database_from reached_from_roots every_root reach walk without is_in first_source next_in places_with is_among create_answer create_fault asks_to_create open_answer admission asks_to_open enter_call lookup_call table_of looked_up entered touched_after touched_weight is_first_touch commit_call fresh_weight fresh_words weights_at places_weight newly_reached starts
new_box = refl

in_words : fresh_words (enters (codes "n") (Pointer 0) (Pointer 3) (made (box 1) opened)) ≡ 31
unfolding decision are_writable each_once saved homes_after row home_after first_database sources source_of at_home created_with after_places roots_of loose loose_from home_at database_at database_from reached_from_roots every_root reach walk without is_in first_source next_in places_with is_among create_answer create_fault asks_to_create open_answer admission asks_to_open enter_call lookup_call table_of looked_up entered touched_after touched_weight is_first_touch commit_call fresh_weight fresh_words weights_at places_weight newly_reached starts
in_words = refl

entry_anew : fresh_weight (enters (codes "k") (Pointer 0) (Pointer 2) opened) ≡ 136
unfolding decision are_writable each_once saved homes_after row home_after first_database sources source_of at_home created_with after_places roots_of loose loose_from home_at database_at database_from reached_from_roots every_root reach walk without is_in first_source next_in places_with is_among create_answer create_fault asks_to_create open_answer admission asks_to_open enter_call lookup_call table_of looked_up entered touched_after touched_weight is_first_touch commit_call fresh_weight fresh_words weights_at places_weight newly_reached starts
entry_anew = refl

entry_gone : fresh_weight (removes (codes "k") (Pointer 0) opened) ≡ 0
unfolding decision are_writable each_once saved homes_after row home_after first_database sources source_of at_home created_with after_places roots_of loose loose_from home_at database_at database_from reached_from_roots every_root reach walk without is_in first_source next_in places_with is_among create_answer create_fault asks_to_create open_answer admission asks_to_open enter_call lookup_call table_of looked_up entered touched_after touched_weight is_first_touch commit_call fresh_weight fresh_words weights_at places_weight newly_reached starts
entry_gone = refl

int_assigned : fresh_weight (assigned_part 1 0 (Num (pos 2)) opened) ≡ 0
unfolding decision are_writable each_once saved homes_after row home_after first_database sources source_of at_home created_with after_places roots_of loose loose_from home_at database_at database_from reached_from_roots every_root reach walk without is_in first_source next_in places_with is_among create_answer create_fault asks_to_create open_answer admission asks_to_open enter_call lookup_call table_of looked_up entered touched_after touched_weight is_first_touch commit_call fresh_weight fresh_words weights_at places_weight newly_reached starts
int_assigned = refl

text_assigned_twice : fresh_weight (assigned_part 2 1 (Text (codes "another one")) (assigned_part 2 1 (Text (codes "b")) opened)) ≡ 56
unfolding decision are_writable each_once saved homes_after row home_after first_database sources source_of at_home created_with after_places roots_of loose loose_from home_at database_at database_from reached_from_roots every_root reach walk without is_in first_source next_in places_with is_among create_answer create_fault asks_to_create open_answer admission asks_to_open enter_call lookup_call table_of looked_up entered touched_after touched_weight is_first_touch commit_call fresh_weight fresh_words weights_at places_weight newly_reached starts
text_assigned_twice = refl

-- Fifty links after one another under a key, as words of a volume: more than 480.
links : ℕ → ℕ → Heap
links id zero = Structure (codes "link(int n;pntr next)") (Num (pos 0) ∷ Nil ∷ []) ∷ []
links id (suc n) = Structure (codes "link(int n;pntr next)") (Num (pos n) ∷ Pointer (suc id) ∷ []) ∷ links (suc id) n

abbrev chain : Held
chain = record (creates (codes "d") [] fresh_run).held { objects = table_with (entry (codes "head") 1 ∷ []) ∷ links 1 49 }

chain_weighs : fresh_words chain ≡ (200 + 50 * 128 + 152) / 8
unfolding links decision are_writable each_once saved homes_after row home_after first_database sources source_of at_home created_with after_places roots_of loose loose_from home_at database_at database_from reached_from_roots every_root reach walk without is_in first_source next_in places_with is_among create_answer create_fault asks_to_create open_answer admission asks_to_open enter_call lookup_call table_of looked_up entered touched_after touched_weight is_first_touch commit_call fresh_weight fresh_words weights_at places_weight newly_reached starts
chain_weighs = refl

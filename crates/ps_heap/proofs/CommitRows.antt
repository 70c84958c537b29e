-- Commits, computed: programs one after the other, as what is held after each of their calls.
use Rattle.std.proofs.Common.{◌≡◌, ℕ, [], ◌∷◌, refl, pos, Some, None}
use Rattle.std.specs.Prelude.{codes}
use Rattle.ps_base.specs.TyView as ty
use Rattle.ps_typing.specs.ps_program.Node.{body}
use Rattle.ps_typing.specs.ps_program.Node as node
use Rattle.text_forms.specs.Forms.{forms_of, form_in, forms_from, form_here, begins}
use Rattle.ps_heap.specs.Values.{Value, Num, Text, Nil, Pointer, Procedure, as_written}
use Rattle.reaching.specs.Reaching.{is_in, without, walk, reach, first_source}
use Rattle.ps_heap.specs.Tables.{string_key, entered, looked_up, without_keys}
use Rattle.ps_heap.specs.Objects.{Object, Structure, Scope, Keyed, table_of}
use Rattle.ps_heap.specs.References.{next_in}
use Rattle.ps_heap.specs.Databases.{database_from, database_at, every_root, each_once, create_fault, admission}
use Rattle.ps_heap.specs.Scopes.{scope_out, name_in, with_name}
use Rattle.ps_heap.specs.Held.{Held, Under, Part, StoredHeap, nothing_stored, made, is_among, home_at, assigned_part, way_out, assigned_name, row, reached_from_roots, started, touched_after, touched_weight, is_first_touch, places_with}
use Rattle.ps_heap.specs.Commit.{Saves, NotWritable, NothingToDo, loose_from, loose, roots_of, after_places, at_home, source_of, sources, first_database, created_with, home_after, homes_after, are_writable, saved, decision}
use Rattle.ps_heap.specs.Calls.{Answer, enter_call, lookup_call, asks_to_create, asks_to_open, create_answer, open_answer, commit_call}
use Rattle.ps_heap.proofs.Scenes.{part_of, entry, creates, opens, enters, looks_up, removes, new_run, table_with, database}

-- A database with a person and their address under a key; the next program opens it for reading.
abbrev person : Value → Object
person home = Structure (codes "person(string name;int age;pntr home)") (Text (codes "al") ∷ Num (pos 41) ∷ home ∷ [])

abbrev address : Object
address = Structure (codes "address(int number;string town)") (Num (pos 76) ∷ Text (codes "St Andrews") ∷ [])

abbrev people_entered : Held
people_entered = enters (codes "al") (Pointer 0) (Pointer 2) (made (person (Pointer 1)) (made address (creates (codes "people") (codes "pw") (new_run nothing_stored)).held))

abbrev people_stored : StoredHeap
people_stored = record {
  objects = table_with (entry (codes "al") 2 ∷ []) ∷ address ∷ person (Pointer 1) ∷ [];
  homes = Some 1 ∷ Some 1 ∷ Some 1 ∷ [];
  directory = database (codes "people") (codes "pw") 0 ∷ [];
}

root_answered : (creates (codes "people") (codes "pw") (new_run nothing_stored)).value ≡ Pointer 0
unfolding decision are_writable each_once saved homes_after row home_after first_database sources source_of at_home created_with after_places roots_of loose loose_from home_at database_at database_from reached_from_roots every_root reach walk without is_in first_source next_in places_with is_among create_answer create_fault asks_to_create open_answer admission asks_to_open enter_call lookup_call table_of looked_up entered touched_after touched_weight is_first_touch commit_call
root_answered = refl

people_saved : decision people_entered ≡ Saves people_stored
unfolding decision are_writable each_once saved homes_after row home_after first_database sources source_of at_home created_with after_places roots_of loose loose_from home_at database_at database_from reached_from_roots every_root reach walk without is_in first_source next_in places_with is_among create_answer create_fault asks_to_create open_answer admission asks_to_open enter_call lookup_call table_of looked_up entered touched_after touched_weight is_first_touch commit_call
people_saved = refl

nil_answered : (commit_call people_entered).value ≡ Nil
unfolding decision are_writable each_once saved homes_after row home_after first_database sources source_of at_home created_with after_places roots_of loose loose_from home_at database_at database_from reached_from_roots every_root reach walk without is_in first_source next_in places_with is_among create_answer create_fault asks_to_create open_answer admission asks_to_open enter_call lookup_call table_of looked_up entered touched_after touched_weight is_first_touch commit_call
nil_answered = refl

abbrev reader : Answer
reader = opens (codes "people") (codes "pw") (codes "read") (new_run people_stored)

root_opened : reader.value ≡ Pointer 0
unfolding decision are_writable each_once saved homes_after row home_after first_database sources source_of at_home created_with after_places roots_of loose loose_from home_at database_at database_from reached_from_roots every_root reach walk without is_in first_source next_in places_with is_among create_answer create_fault asks_to_create open_answer admission asks_to_open enter_call lookup_call table_of looked_up entered touched_after touched_weight is_first_touch commit_call
root_opened = refl

person_found : looks_up (codes "al") (Pointer 0) reader.held ≡ Pointer 2
unfolding decision are_writable each_once saved homes_after row home_after first_database sources source_of at_home created_with after_places roots_of loose loose_from home_at database_at database_from reached_from_roots every_root reach walk without is_in first_source next_in places_with is_among create_answer create_fault asks_to_create open_answer admission asks_to_open enter_call lookup_call table_of looked_up entered touched_after touched_weight is_first_touch commit_call
person_found = refl

town_read : part_of reader.held (part_of reader.held (Pointer 2) 2) 1 ≡ Text (codes "St Andrews")
unfolding decision are_writable each_once saved homes_after row home_after first_database sources source_of at_home created_with after_places roots_of loose loose_from home_at database_at database_from reached_from_roots every_root reach walk without is_in first_source next_in places_with is_among create_answer create_fault asks_to_create open_answer admission asks_to_open enter_call lookup_call table_of looked_up entered touched_after touched_weight is_first_touch commit_call
town_read = refl

another_password : part_of (opens (codes "people") (codes "px") (codes "read") (new_run people_stored)).held (Pointer 3) 1 ≡ Text (codes "password")
unfolding decision are_writable each_once saved homes_after row home_after first_database sources source_of at_home created_with after_places roots_of loose loose_from home_at database_at database_from reached_from_roots every_root reach walk without is_in first_source next_in places_with is_among create_answer create_fault asks_to_create open_answer admission asks_to_open enter_call lookup_call table_of looked_up entered touched_after touched_weight is_first_touch commit_call
another_password = refl

-- A counter: a procedure over a scope, which is kept with it. A later program calls it twice and commits; one after that finds what it counted.
abbrev counter : Value → Object
counter next = Structure (codes "counter(proc(->int) next)") (next ∷ [])

-- proc( -> int); 1
abbrev ticks : Value
ticks = Procedure (as_written (body [] ty.Int (node.Int (pos 1)) None (record { 0 = 1 }))) (Some 1)

abbrev n_scope : ℕ → Object
n_scope n = Scope (codes "scope(int n)") None (Num (pos n) ∷ [])

abbrev counter_entered : Held
counter_entered = enters (codes "k") (Pointer 0) (Pointer 2) (made (counter ticks) (made (n_scope 0) (creates (codes "c") [] (new_run nothing_stored)).held))

abbrev counter_stored : ℕ → StoredHeap
counter_stored n = record {
  objects = table_with (entry (codes "k") 2 ∷ []) ∷ n_scope n ∷ counter ticks ∷ [];
  homes = Some 1 ∷ Some 1 ∷ Some 1 ∷ [];
  directory = database (codes "c") [] 0 ∷ [];
}

abbrev counted_twice : Held
counted_twice = assigned_name (Some 1) 0 0 (Num (pos 2)) (assigned_name (Some 1) 0 0 (Num (pos 1)) (opens (codes "c") [] (codes "write") (new_run (counter_stored 0))).held)

scope_saved_with_its_procedure : decision counter_entered ≡ Saves (counter_stored 0)
unfolding decision are_writable each_once saved homes_after row home_after first_database sources source_of at_home created_with after_places roots_of loose loose_from home_at database_at database_from reached_from_roots every_root reach walk without is_in first_source next_in places_with is_among create_answer create_fault asks_to_create open_answer admission asks_to_open enter_call lookup_call table_of looked_up entered touched_after touched_weight is_first_touch commit_call
scope_saved_with_its_procedure = refl

scope_saved_anew : decision counted_twice ≡ Saves (counter_stored 2)
unfolding forms_of form_in forms_from form_here begins decision are_writable each_once saved homes_after row home_after first_database sources source_of at_home created_with after_places roots_of loose loose_from home_at database_at database_from reached_from_roots every_root reach walk without is_in first_source next_in places_with is_among create_answer create_fault asks_to_create open_answer admission asks_to_open enter_call lookup_call table_of looked_up entered touched_after touched_weight is_first_touch commit_call scope_out with_name name_in way_out
scope_saved_anew = refl

-- A box that a pair refers to twice is one box for a later program too.
abbrev box : ℕ → Object
box n = Structure (codes "box(int n)") (Num (pos n) ∷ [])

abbrev pair_stored : StoredHeap
pair_stored = record {
  objects = table_with (entry (codes "k") 2 ∷ []) ∷ box 1 ∷ Structure (codes "pair(pntr a;pntr b)") (Pointer 1 ∷ Pointer 1 ∷ []) ∷ [];
  homes = Some 1 ∷ Some 1 ∷ Some 1 ∷ [];
  directory = database (codes "p") [] 0 ∷ [];
}

abbrev seven : Held
seven = assigned_part 1 0 (Num (pos 7)) (opens (codes "p") [] (codes "read") (new_run pair_stored)).held

one_box : part_of seven (part_of seven (Pointer 2) 1) 0 ≡ Num (pos 7)
unfolding decision are_writable each_once saved homes_after row home_after first_database sources source_of at_home created_with after_places roots_of loose loose_from home_at database_at database_from reached_from_roots every_root reach walk without is_in first_source next_in places_with is_among create_answer create_fault asks_to_create open_answer admission asks_to_open enter_call lookup_call table_of looked_up entered touched_after touched_weight is_first_touch commit_call
one_box = refl

-- A box that is entered and saved; taken out, changed and saved; and entered again, by one program.
abbrev with_box : ℕ → StoredHeap
with_box n = record { objects = table_with (entry (codes "k") 1 ∷ []) ∷ box n ∷ []; homes = Some 1 ∷ Some 1 ∷ []; directory = database (codes "d") [] 0 ∷ [] }

abbrev without_box : ℕ → StoredHeap
without_box n = record { objects = table_with [] ∷ box n ∷ []; homes = Some 1 ∷ Some 1 ∷ []; directory = database (codes "d") [] 0 ∷ [] }

abbrev first_saved : Held
first_saved = (commit_call (enters (codes "k") (Pointer 0) (Pointer 1) (made (box 1) (creates (codes "d") [] (new_run nothing_stored)).held))).held

abbrev taken_out : Held
taken_out = assigned_part 1 0 (Num (pos 2)) (removes (codes "k") (Pointer 0) first_saved)

nothing_behind_a_commit : decision first_saved ≡ NothingToDo
unfolding decision are_writable each_once saved homes_after row home_after first_database sources source_of at_home created_with after_places roots_of loose loose_from home_at database_at database_from reached_from_roots every_root reach walk without is_in first_source next_in places_with is_among create_answer create_fault asks_to_create open_answer admission asks_to_open enter_call lookup_call table_of looked_up entered touched_after touched_weight is_first_touch commit_call
nothing_behind_a_commit = refl

nothing_assigned_afterwards : (commit_call taken_out).held.assigned ≡ []
unfolding decision are_writable each_once saved homes_after row home_after first_database sources source_of at_home created_with after_places roots_of loose loose_from home_at database_at database_from reached_from_roots every_root reach walk without is_in first_source next_in places_with is_among create_answer create_fault asks_to_create open_answer admission asks_to_open enter_call lookup_call table_of looked_up entered touched_after touched_weight is_first_touch commit_call
nothing_assigned_afterwards = refl

saved_while_unreached : decision taken_out ≡ Saves (without_box 2)
unfolding decision are_writable each_once saved homes_after row home_after first_database sources source_of at_home created_with after_places roots_of loose loose_from home_at database_at database_from reached_from_roots every_root reach walk without is_in first_source next_in places_with is_among create_answer create_fault asks_to_create open_answer admission asks_to_open enter_call lookup_call table_of looked_up entered touched_after touched_weight is_first_touch commit_call
saved_while_unreached = refl

back_again : decision (enters (codes "k") (Pointer 0) (Pointer 1) (commit_call taken_out).held) ≡ Saves (with_box 2)
unfolding decision are_writable each_once saved homes_after row home_after first_database sources source_of at_home created_with after_places roots_of loose loose_from home_at database_at database_from reached_from_roots every_root reach walk without is_in first_source next_in places_with is_among create_answer create_fault asks_to_create open_answer admission asks_to_open enter_call lookup_call table_of looked_up entered touched_after touched_weight is_first_touch commit_call
back_again = refl

-- The database is open for reading alone: a change is refused and stays assigned; without one there is nothing to do.
abbrev read_open : Held
read_open = (opens (codes "d") [] (codes "read") (new_run (with_box 1))).held

abbrev five : Held
five = assigned_part 1 0 (Num (pos 5)) read_open

not_writable : decision five ≡ NotWritable
unfolding decision are_writable each_once saved homes_after row home_after first_database sources source_of at_home created_with after_places roots_of loose loose_from home_at database_at database_from reached_from_roots every_root reach walk without is_in first_source next_in places_with is_among create_answer create_fault asks_to_create open_answer admission asks_to_open enter_call lookup_call table_of looked_up entered touched_after touched_weight is_first_touch commit_call
not_writable = refl

refused_by_a_record : part_of (commit_call five).held (Pointer 2) 1 ≡ Text (codes "not writable")
unfolding decision are_writable each_once saved homes_after row home_after first_database sources source_of at_home created_with after_places roots_of loose loose_from home_at database_at database_from reached_from_roots every_root reach walk without is_in first_source next_in places_with is_among create_answer create_fault asks_to_create open_answer admission asks_to_open enter_call lookup_call table_of looked_up entered touched_after touched_weight is_first_touch commit_call
refused_by_a_record = refl

no_event : (commit_call five).events ≡ []
unfolding decision are_writable each_once saved homes_after row home_after first_database sources source_of at_home created_with after_places roots_of loose loose_from home_at database_at database_from reached_from_roots every_root reach walk without is_in first_source next_in places_with is_among create_answer create_fault asks_to_create open_answer admission asks_to_open enter_call lookup_call table_of looked_up entered touched_after touched_weight is_first_touch commit_call
no_event = refl

stays_assigned : (commit_call five).held.assigned ≡ Part 1 0 ∷ []
unfolding decision are_writable each_once saved homes_after row home_after first_database sources source_of at_home created_with after_places roots_of loose loose_from home_at database_at database_from reached_from_roots every_root reach walk without is_in first_source next_in places_with is_among create_answer create_fault asks_to_create open_answer admission asks_to_open enter_call lookup_call table_of looked_up entered touched_after touched_weight is_first_touch commit_call
stays_assigned = refl

nothing_to_do : decision read_open ≡ NothingToDo
unfolding decision are_writable each_once saved homes_after row home_after first_database sources source_of at_home created_with after_places roots_of loose loose_from home_at database_at database_from reached_from_roots every_root reach walk without is_in first_source next_in places_with is_among create_answer create_fault asks_to_create open_answer admission asks_to_open enter_call lookup_call table_of looked_up entered touched_after touched_weight is_first_touch commit_call
nothing_to_do = refl

nothing_answered : (commit_call read_open).value ≡ Nil
unfolding decision are_writable each_once saved homes_after row home_after first_database sources source_of at_home created_with after_places roots_of loose loose_from home_at database_at database_from reached_from_roots every_root reach walk without is_in first_source next_in places_with is_among create_answer create_fault asks_to_create open_answer admission asks_to_open enter_call lookup_call table_of looked_up entered touched_after touched_weight is_first_touch commit_call
nothing_answered = refl

nothing_seen : (commit_call read_open).events ≡ []
unfolding decision are_writable each_once saved homes_after row home_after first_database sources source_of at_home created_with after_places roots_of loose loose_from home_at database_at database_from reached_from_roots every_root reach walk without is_in first_source next_in places_with is_among create_answer create_fault asks_to_create open_answer admission asks_to_open enter_call lookup_call table_of looked_up entered touched_after touched_weight is_first_touch commit_call
nothing_seen = refl

-- A place is assigned also where it gets the value that it has.
abbrev same_value : Held
same_value = assigned_part 1 0 (Num (pos 1)) (opens (codes "d") [] (codes "write") (new_run (with_box 1))).held

saved_with_the_same_value : decision same_value ≡ Saves (with_box 1)
unfolding decision are_writable each_once saved homes_after row home_after first_database sources source_of at_home created_with after_places roots_of loose loose_from home_at database_at database_from reached_from_roots every_root reach walk without is_in first_source next_in places_with is_among create_answer create_fault asks_to_create open_answer admission asks_to_open enter_call lookup_call table_of looked_up entered touched_after touched_weight is_first_touch commit_call
saved_with_the_same_value = refl

same_key_assigned : (removes (codes "x") (Pointer 0) (new_run (with_box 1))).assigned ≡ Under 0 (string_key (codes "x")) ∷ []
unfolding decision are_writable each_once saved homes_after row home_after first_database sources source_of at_home created_with after_places roots_of loose loose_from home_at database_at database_from reached_from_roots every_root reach walk without is_in first_source next_in places_with is_among create_answer create_fault asks_to_create open_answer admission asks_to_open enter_call lookup_call table_of looked_up entered touched_after touched_weight is_first_touch commit_call
same_key_assigned = refl

assigned_once : (assigned_part 1 0 (Num (pos 3)) same_value).assigned ≡ Part 1 0 ∷ []
unfolding decision are_writable each_once saved homes_after row home_after first_database sources source_of at_home created_with after_places roots_of loose loose_from home_at database_at database_from reached_from_roots every_root reach walk without is_in first_source next_in places_with is_among create_answer create_fault asks_to_create open_answer admission asks_to_open enter_call lookup_call table_of looked_up entered touched_after touched_weight is_first_touch commit_call
assigned_once = refl

new_objects_are_not_noted : (assigned_part 2 0 (Num (pos 3)) (made (box 1) same_value)).assigned ≡ Part 1 0 ∷ []
unfolding decision are_writable each_once saved homes_after row home_after first_database sources source_of at_home created_with after_places roots_of loose loose_from home_at database_at database_from reached_from_roots every_root reach walk without is_in first_source next_in places_with is_among create_answer create_fault asks_to_create open_answer admission asks_to_open enter_call lookup_call table_of looked_up entered touched_after touched_weight is_first_touch commit_call
new_objects_are_not_noted = refl

-- A database that was made is saved though nothing is in it.
made_and_saved : decision (creates (codes "d") [] (new_run nothing_stored)).held ≡ Saves (record { objects = Keyed without_keys ∷ []; homes = Some 1 ∷ []; directory = database (codes "d") [] 0 ∷ [] })
unfolding decision are_writable each_once saved homes_after row home_after first_database sources source_of at_home created_with after_places roots_of loose loose_from home_at database_at database_from reached_from_roots every_root reach walk without is_in first_source next_in places_with is_among create_answer create_fault asks_to_create open_answer admission asks_to_open enter_call lookup_call table_of looked_up entered touched_after touched_weight is_first_touch commit_call
made_and_saved = refl

-- What a program finds: a stored object that no root reaches is no longer committed.
unreached_at_the_start : (new_run (without_box 2)).homes ≡ Some 1 ∷ None ∷ []
unfolding decision are_writable each_once saved homes_after row home_after first_database sources source_of at_home created_with after_places roots_of loose loose_from home_at database_at database_from reached_from_roots every_root reach walk without is_in first_source next_in places_with is_among create_answer create_fault asks_to_create open_answer admission asks_to_open enter_call lookup_call table_of looked_up entered touched_after touched_weight is_first_touch commit_call
unreached_at_the_start = refl

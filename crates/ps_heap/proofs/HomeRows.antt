-- Newly reached objects and their homes, computed.
use Rattle.std.proofs.Common.{◌≡◌, ℕ, List, [], ◌∷◌, refl, pos, Some, None}
use Rattle.std.specs.Prelude.{codes}
use Rattle.ps_base.specs.TyView as ty
use Rattle.ps_typing.specs.ps_program.Node.{body}
use Rattle.ps_typing.specs.ps_program.Node as node
use Rattle.ps_heap.specs.Values.{Value, Num, Nil, Pointer, Procedure, Vector, as_written}
use Rattle.reaching.specs.Reaching.{is_in, without, walk, reach, first_source}
use Rattle.ps_heap.specs.Tables.{string_key, entered, looked_up}
use Rattle.ps_heap.specs.Objects.{Object, Structure, Scope, Elements, Heap, table_of}
use Rattle.ps_heap.specs.References.{next_in}
use Rattle.ps_heap.specs.Databases.{database_from, database_at, every_root, each_once, create_fault, admission}
use Rattle.ps_heap.specs.Held.{Held, Under, StoredHeap, nothing_stored, made, is_among, home_at, assigned_part, row, reached_from_roots, started, touched_after, touched_weight, is_first_touch, places_with}
use Rattle.ps_heap.specs.Commit.{NotWritable, loose_from, loose, roots_of, after_places, starts, newly_reached, at_home, source_of, sources, first_database, created_with, home_after, homes_after, are_writable, saved, decision}
use Rattle.ps_heap.specs.Calls.{enter_call, lookup_call, asks_to_create, asks_to_open, create_answer, open_answer, commit_call}
use Rattle.ps_heap.proofs.Scenes.{part_of, entry, creates, opens, new_run, table_with, database}

abbrev box : ℕ → Object
box n = Structure (codes "box(int n)") (Num (pos n) ∷ [])

abbrev link : Value → Object
link next = Structure (codes "link(pntr next)") (next ∷ [])

-- A procedure's scope, the scope round it, what is kept there and what an element of a vector denotes are reached; a box to which nothing refers isn't.
abbrev closure : Heap
closure =
    table_with (entry (codes "k") 3 ∷ [])
    ∷ Scope (codes "scope(*pntr v)") None (Vector 5 ∷ [])
    ∷ Scope (codes "scope(int m)") (Some 1) (Num (pos 0) ∷ [])
    ∷ Structure (codes "counter(proc(->int) next)") (Procedure (as_written (body [] ty.Int (node.Int (pos 1)) None (record { 0 = 1 }))) (Some 2) ∷ [])
    ∷ box 9
    ∷ Elements (codes "*pntr") (pos 1) (Nil ∷ Pointer 6 ∷ [])
    ∷ box 8 ∷ []

abbrev of_closure : Held
of_closure = record (creates (codes "d") [] (new_run nothing_stored)).held { objects = closure }

scopes_reached : newly_reached of_closure ≡ 0 ∷ 3 ∷ 2 ∷ 1 ∷ 5 ∷ 6 ∷ []
unfolding newly_reached starts decision are_writable each_once saved homes_after row home_after first_database sources source_of at_home created_with after_places roots_of loose loose_from home_at database_at database_from reached_from_roots every_root reach walk without is_in first_source next_in places_with is_among create_answer create_fault asks_to_create open_answer admission asks_to_open enter_call lookup_call table_of looked_up entered touched_after touched_weight is_first_touch commit_call
scopes_reached = refl

homes_of_reached : homes_after of_closure ≡ Some 1 ∷ Some 1 ∷ Some 1 ∷ Some 1 ∷ None ∷ Some 1 ∷ Some 1 ∷ []
unfolding decision are_writable each_once saved homes_after row home_after first_database sources source_of at_home created_with after_places roots_of loose loose_from home_at database_at database_from reached_from_roots every_root reach walk without is_in first_source next_in places_with is_among create_answer create_fault asks_to_create open_answer admission asks_to_open enter_call lookup_call table_of looked_up entered touched_after touched_weight is_first_touch commit_call
homes_of_reached = refl

-- Reaching doesn't go on through an object that is committed: what it refers to by places that aren't assigned is committed too.
abbrev through_committed : Held
through_committed = record (new_run (record { objects = table_with (entry (codes "k") 1 ∷ []) ∷ link Nil ∷ []; homes = Some 1 ∷ Some 1 ∷ []; directory = database (codes "d") [] 0 ∷ [] })) {
  objects = table_with (entry (codes "k") 1 ∷ []) ∷ link (Pointer 2) ∷ box 1 ∷ [];
  assigned = Under 0 (string_key (codes "k")) ∷ [];
}

not_through_committed : newly_reached through_committed ≡ []
unfolding newly_reached starts decision are_writable each_once saved homes_after row home_after first_database sources source_of at_home created_with after_places roots_of loose loose_from home_at database_at database_from reached_from_roots every_root reach walk without is_in first_source next_in places_with is_among create_answer create_fault asks_to_create open_answer admission asks_to_open enter_call lookup_call table_of looked_up entered touched_after touched_weight is_first_touch commit_call
not_through_committed = refl

-- Two new databases: the first refers to the root of the second. That root is at home in its own database, and what is behind it in the first.
abbrev two : Held
two = record (creates (codes "e") [] (creates (codes "d") [] (new_run nothing_stored)).held).held {
  objects = table_with (entry (codes "k") 1 ∷ []) ∷ table_with (entry (codes "k") 2 ∷ []) ∷ box 1 ∷ box 2 ∷ [];
}

homes_of_two : homes_after two ≡ Some 1 ∷ Some 2 ∷ Some 1 ∷ None ∷ []
unfolding decision are_writable each_once saved homes_after row home_after first_database sources source_of at_home created_with after_places roots_of loose loose_from home_at database_at database_from reached_from_roots every_root reach walk without is_in first_source next_in places_with is_among create_answer create_fault asks_to_create open_answer admission asks_to_open enter_call lookup_call table_of looked_up entered touched_after touched_weight is_first_touch commit_call
homes_of_two = refl

-- A root that was made is reached though nothing refers to it and nothing else is assigned.
created_roots_reached : newly_reached (creates (codes "d") [] (new_run nothing_stored)).held ≡ 0 ∷ []
unfolding newly_reached starts decision are_writable each_once saved homes_after row home_after first_database sources source_of at_home created_with after_places roots_of loose loose_from home_at database_at database_from reached_from_roots every_root reach walk without is_in first_source next_in places_with is_among create_answer create_fault asks_to_create open_answer admission asks_to_open enter_call lookup_call table_of looked_up entered touched_after touched_weight is_first_touch commit_call
created_roots_reached = refl

-- Two stored databases, each with a link, and a new box to which both links are made to refer: it is at home in the one that was opened first, whichever was
-- made first, whichever link was assigned first.
abbrev both_stored : StoredHeap
both_stored = record {
  objects = table_with (entry (codes "k") 2 ∷ []) ∷ table_with (entry (codes "k") 3 ∷ []) ∷ link Nil ∷ link Nil ∷ [];
  homes = Some 1 ∷ Some 2 ∷ Some 1 ∷ Some 2 ∷ [];
  directory = database (codes "d") [] 0 ∷ database (codes "e") [] 1 ∷ [];
}

abbrev both_assigned : Held → Held
both_assigned h = assigned_part 3 0 (Pointer 4) (assigned_part 2 0 (Pointer 4) (made (box 1) h))

abbrev opened_in : List ℕ → List ℕ → Held
opened_in first second = (opens second [] (codes "write") (opens first [] (codes "write") (new_run both_stored)).held).held

home_by_order_of_opening : homes_after (both_assigned (opened_in (codes "e") (codes "d"))) ≡ Some 1 ∷ Some 2 ∷ Some 1 ∷ Some 2 ∷ Some 2 ∷ []
unfolding decision are_writable each_once saved homes_after row home_after first_database sources source_of at_home created_with after_places roots_of loose loose_from home_at database_at database_from reached_from_roots every_root reach walk without is_in first_source next_in places_with is_among create_answer create_fault asks_to_create open_answer admission asks_to_open enter_call lookup_call table_of looked_up entered touched_after touched_weight is_first_touch commit_call
home_by_order_of_opening = refl

home_by_the_other_order : homes_after (both_assigned (opened_in (codes "d") (codes "e"))) ≡ Some 1 ∷ Some 2 ∷ Some 1 ∷ Some 2 ∷ Some 1 ∷ []
unfolding decision are_writable each_once saved homes_after row home_after first_database sources source_of at_home created_with after_places roots_of loose loose_from home_at database_at database_from reached_from_roots every_root reach walk without is_in first_source next_in places_with is_among create_answer create_fault asks_to_create open_answer admission asks_to_open enter_call lookup_call table_of looked_up entered touched_after touched_weight is_first_touch commit_call
home_by_the_other_order = refl

-- For the order it counts when a database became open for writing, and not when it was first opened.
abbrev read_first : Held
read_first = (opens (codes "d") [] (codes "write") (opens (codes "e") [] (codes "write") (opens (codes "d") [] (codes "read") (new_run both_stored)).held).held).held

home_by_opening_for_writing : homes_after (both_assigned read_first) ≡ Some 1 ∷ Some 2 ∷ Some 1 ∷ Some 2 ∷ Some 2 ∷ []
unfolding decision are_writable each_once saved homes_after row home_after first_database sources source_of at_home created_with after_places roots_of loose loose_from home_at database_at database_from reached_from_roots every_root reach walk without is_in first_source next_in places_with is_among create_answer create_fault asks_to_create open_answer admission asks_to_open enter_call lookup_call table_of looked_up entered touched_after touched_weight is_first_touch commit_call
home_by_opening_for_writing = refl

-- Of two databases one is open for writing, and objects of both are assigned: not writable.
one_of_two_is_not_open : decision (both_assigned (opens (codes "d") [] (codes "write") (new_run both_stored)).held) ≡ NotWritable
unfolding decision are_writable each_once saved homes_after row home_after first_database sources source_of at_home created_with after_places roots_of loose loose_from home_at database_at database_from reached_from_roots every_root reach walk without is_in first_source next_in places_with is_among create_answer create_fault asks_to_create open_answer admission asks_to_open enter_call lookup_call table_of looked_up entered touched_after touched_weight is_first_touch commit_call
one_of_two_is_not_open = refl

-- A database may be read by pointers though it isn't open: here that of the second link, by a pointer from the first one.
abbrev linked : Held
linked = new_run (record both_stored { objects = table_with (entry (codes "k") 2 ∷ []) ∷ table_with (entry (codes "k") 3 ∷ []) ∷ link (Pointer 3) ∷ link (Pointer 1) ∷ [] })

read_without_opening : part_of linked (part_of (opens (codes "d") [] (codes "read") linked).held (Pointer 2) 0) 0 ≡ Pointer 1
unfolding decision are_writable each_once saved homes_after row home_after first_database sources source_of at_home created_with after_places roots_of loose loose_from home_at database_at database_from reached_from_roots every_root reach walk without is_in first_source next_in places_with is_among create_answer create_fault asks_to_create open_answer admission asks_to_open enter_call lookup_call table_of looked_up entered touched_after touched_weight is_first_touch commit_call
read_without_opening = refl

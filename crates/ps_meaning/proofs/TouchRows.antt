-- What is counted of programs over a heap that was kept: what they touch.
use Rattle.std.proofs.Common.{◌≡◌, ℕ, List, [], ◌∷◌, refl, pos, true, false, Option, Some, None}
use Rattle.std.specs.Prelude.{codes, map, ◌+◌}
use Rattle.std.specs.Fmt.{signed_decimal, digits}
use Rattle.text_forms.specs.Forms.{forms_of, forms_from, form_here, form_in, begins}
use Rattle.ps_base.specs.TyView.{TyView}
use Rattle.ps_base.specs.TyView as ty
use Rattle.ps_base.specs.declared.trap.Trap.TheVariants as trap
use Rattle.ps_base.specs.declared.operator.Operator.TheVariants.{Add}
use Rattle.ps_base.specs.declared.operator.Relation.TheVariants.{Equal, LessEqual}
use Rattle.ps_typing.specs.ps_program.declared.place.Place.{Place}
use Rattle.ps_typing.specs.ps_program.declared.place.Place.TheVariants.{Plain, Kept}
use Rattle.ps_typing.specs.ps_program.Node.{Param, Node, Nodes, none, more, BodyNode, body}
use Rattle.ps_typing.specs.ps_program.Node as node
use Rattle.ps_typing.specs.Library.{error_class, caller}
use Rattle.ps_heap.specs.reaching.Reaching.{reach, walk, without, is_in, first_source}
use Rattle.ps_heap.specs.Ends.{Done, Trapped, OutOfTurns}
use Rattle.ps_heap.specs.Tables.{looked_up, entered, next_string, next_int, cardinality}
use Rattle.ps_heap.specs.Objects.{is_class, field_of, with_field, table_of, is_one_object}
use Rattle.ps_heap.specs.Scopes.{new_scope, scope_out, name_in, with_name}
use Rattle.ps_heap.specs.References.{next_in}
use Rattle.ps_heap.specs.Databases.{each_once, database_at, database_from, every_root, create_fault, admission}
use Rattle.ps_heap.specs.Held.{StoredHeap, nothing_stored, row, home_at, reached_from_roots, places_with, is_among, way_out, touched_after, touched_weight, is_first_touch}
use Rattle.ps_heap.specs.Commit.{decision, are_writable, saved, homes_after, home_after, first_database, sources, source_of, at_home, created_with, after_places, roots_of, newly_reached, starts, loose, loose_from}
use Rattle.ps_heap.specs.Calls.{enter_call, lookup_call, cardinality_call, create_answer, asks_to_create, open_answer, asks_to_open, commit_call}
use Rattle.ps_heap.specs.Library.{library_procedure, heap_call}
use Rattle.ps_heap.specs.Scans.{next_key}
use Rattle.ps_heap.specs.Events.{Event, outputs, series_events}
use Rattle.ps_meaning.specs.Meaning.{give, stop, after, ◌>>=◌, choose, answer, attempt, answered, put_answer, change, with_heap, made, made_text, made_procedure, enter, back_in, back_to, scoped, in_frame, emit, written, take_turn, get, set}
use Rattle.ps_meaning.specs.Frames.{arguments_on, frame_of_call, keep, keep_all}
use Rattle.ps_meaning.specs.Operations.{kept_all}
use Rattle.ps_meaning.specs.Loops.{for_turns, for_loop, for_meant, scan_turns, scan_next, scan_call, begin_scan}
use Rattle.ps_meaning.specs.Evaluation.{call_meant, eval}
use Rattle.ps_meaning.specs.Calls.{body_meant, call_within}
use Rattle.ps_meaning.specs.Runs.{run_events, events_with, outcome_with, all_events, fresh_frame, fresh_state}
use Rattle.ps_meaning.proofs.Rows.{line, write}
use Rattle.ps_heap.specs.Values.{Num, Pointer, Procedure, as_written}
use Rattle.ps_heap.specs.Tables.{by_strings}
use Rattle.ps_heap.specs.Objects.{Heap, Object, Structure, Scope, Keyed}
use Rattle.ps_heap.specs.Weights.{code_weight, whole_weight}
use Rattle.ps_heap.specs.Events.{count_of}
use Rattle.ps_heap.proofs.Scenes.{entry, table_with, database}
use Rattle.ps_meaning.proofs.StoringRows.{runs, let_be, opens, looks_up, of, box, number_in, counter, ticks, next_number, reads_box}

-- how many bytes are counted at each event of a program over a heap
abbrev counts : Heap → List (Option ℕ) → BodyNode → List ℕ
counts objects homes program =
    map count_of (run_events (record { turns = 3; input = []; heap = record { objects = objects; homes = homes; directory = database (codes "d") [] 0 ∷ [] }; replies = [] }) program)

-- the code of a program, and that with the directory
abbrev asked : BodyNode → ℕ
asked program = code_weight program + 152

abbrev root : Object
root = table_with (entry (codes "k") 1 ∷ [])

-- The directory is counted when a database is asked for, the root when it is opened, and a box when it is looked up; reading its number touches nothing.
box_is_read : counts (root ∷ Structure box (Num (pos 1) ∷ []) ∷ []) (Some 1 ∷ Some 1 ∷ []) reads_box
    ≡ asked reads_box ∷ (asked reads_box + 200 + 112) ∷ (asked reads_box + 200 + 112) ∷ (asked reads_box + 200 + 112) ∷ []
unfolding digits eval is_one_object give stop after ◌>>=◌ choose answer attempt answered put_answer change with_heap made made_text made_procedure enter back_in back_to scoped in_frame emit
    written take_turn get set for_turns for_loop for_meant scan_turns scan_next scan_call begin_scan call_meant kept_all is_class field_of with_field
    new_scope scope_out name_in with_name forms_of forms_from form_here form_in begins arguments_on frame_of_call keep keep_all body_meant call_within
    library_procedure heap_call next_key next_string next_int table_of looked_up entered cardinality enter_call lookup_call cardinality_call
    create_answer create_fault asks_to_create open_answer admission asks_to_open commit_call decision are_writable each_once saved homes_after home_after
    first_database sources source_of at_home created_with after_places roots_of newly_reached starts loose loose_from database_at database_from
    row home_at reached_from_roots every_root reach walk without is_in first_source next_in places_with is_among way_out touched_after touched_weight
    is_first_touch events_with outcome_with all_events fresh_frame fresh_state series_events
box_is_read = refl

-- what stands in a field is touched where it is read, once
abbrev link : List ℕ
link = codes "link(pntr to)"

abbrev follows_twice : BodyNode
follows_twice = runs (let_be 0 (opens (codes "d") [] (codes "read")) ∷ let_be 1 (looks_up (codes "k") (of 0))
    ∷ write (number_in (node.Field (of 1) link 0 ty.Pntr (line 1))) ∷ write (number_in (node.Field (of 1) link 0 ty.Pntr (line 1))) ∷ [])

field_is_read : counts (root ∷ Structure link (Pointer 2 ∷ []) ∷ Structure box (Num (pos 1) ∷ []) ∷ []) (Some 1 ∷ Some 1 ∷ Some 1 ∷ []) follows_twice
    ≡ asked follows_twice ∷ (asked follows_twice + 200 + 112 + 112) ∷ (asked follows_twice + 200 + 112 + 112) ∷ (asked follows_twice + 200 + 112 + 112) ∷ []
unfolding digits eval is_one_object give stop after ◌>>=◌ choose answer attempt answered put_answer change with_heap made made_text made_procedure enter back_in back_to scoped in_frame emit
    written take_turn get set for_turns for_loop for_meant scan_turns scan_next scan_call begin_scan call_meant kept_all is_class field_of with_field
    new_scope scope_out name_in with_name forms_of forms_from form_here form_in begins arguments_on frame_of_call keep keep_all body_meant call_within
    library_procedure heap_call next_key next_string next_int table_of looked_up entered cardinality enter_call lookup_call cardinality_call
    create_answer create_fault asks_to_create open_answer admission asks_to_open commit_call decision are_writable each_once saved homes_after home_after
    first_database sources source_of at_home created_with after_places roots_of newly_reached starts loose loose_from database_at database_from
    row home_at reached_from_roots every_root reach walk without is_in first_source next_in places_with is_among way_out touched_after touched_weight
    is_first_touch events_with outcome_with all_events fresh_frame fresh_state series_events
field_is_read = refl

-- a procedure is counted with the object that it is read with, and its scope where it is called, after the turn
abbrev counts_once : BodyNode
counts_once = runs (let_be 0 (opens (codes "d") [] (codes "read")) ∷ let_be 1 (looks_up (codes "k") (of 0)) ∷ next_number ∷ [])

abbrev with_counter : Heap
with_counter = root ∷ Structure counter (Procedure (as_written ticks) (Some 2) ∷ []) ∷ Scope (codes "scope(int n)") None (Num (pos 2) ∷ []) ∷ []

procedure_is_called : counts with_counter (Some 1 ∷ Some 1 ∷ Some 1 ∷ []) counts_once
    ≡ asked counts_once ∷ (asked counts_once + 200 + (56 + 72 + 56 + code_weight ticks)) ∷ (asked counts_once + 200 + (56 + 72 + 56 + code_weight ticks) + 120) ∷ (asked counts_once + 200 + (56 + 72 + 56 + code_weight ticks) + 120) ∷ []
unfolding digits eval is_one_object give stop after ◌>>=◌ choose answer attempt answered put_answer change with_heap made made_text made_procedure enter back_in back_to scoped in_frame emit
    written take_turn get set for_turns for_loop for_meant scan_turns scan_next scan_call begin_scan call_meant kept_all is_class field_of with_field
    new_scope scope_out name_in with_name forms_of forms_from form_here form_in begins arguments_on frame_of_call keep keep_all body_meant call_within
    library_procedure heap_call next_key next_string next_int table_of looked_up entered cardinality enter_call lookup_call cardinality_call
    create_answer create_fault asks_to_create open_answer admission asks_to_open commit_call decision are_writable each_once saved homes_after home_after
    first_database sources source_of at_home created_with after_places roots_of newly_reached starts loose loose_from database_at database_from
    row home_at reached_from_roots every_root reach walk without is_in first_source next_in places_with is_among way_out touched_after touched_weight
    is_first_touch events_with outcome_with all_events fresh_frame fresh_state series_events
procedure_is_called = refl

-- also where its body names nothing of the scope
abbrev idle : BodyNode
idle = body [] ty.Int (node.Int (pos 7)) None (line 1)

abbrev with_idle : Heap
with_idle = root ∷ Structure counter (Procedure (as_written idle) (Some 2) ∷ []) ∷ Scope (codes "scope(int n)") None (Num (pos 2) ∷ []) ∷ []

scope_is_touched_by_the_call : counts with_idle (Some 1 ∷ Some 1 ∷ Some 1 ∷ []) counts_once
    ≡ asked counts_once ∷ (asked counts_once + 200 + (56 + 72 + 56 + code_weight idle)) ∷ (asked counts_once + 200 + (56 + 72 + 56 + code_weight idle) + 120) ∷ (asked counts_once + 200 + (56 + 72 + 56 + code_weight idle) + 120) ∷ []
unfolding digits eval is_one_object give stop after ◌>>=◌ choose answer attempt answered put_answer change with_heap made made_text made_procedure enter back_in back_to scoped in_frame emit
    written take_turn get set for_turns for_loop for_meant scan_turns scan_next scan_call begin_scan call_meant kept_all is_class field_of with_field
    new_scope scope_out name_in with_name forms_of forms_from form_here form_in begins arguments_on frame_of_call keep keep_all body_meant call_within
    library_procedure heap_call next_key next_string next_int table_of looked_up entered cardinality enter_call lookup_call cardinality_call
    create_answer create_fault asks_to_create open_answer admission asks_to_open commit_call decision are_writable each_once saved homes_after home_after
    first_database sources source_of at_home created_with after_places roots_of newly_reached starts loose loose_from database_at database_from
    row home_at reached_from_roots every_root reach walk without is_in first_source next_in places_with is_among way_out touched_after touched_weight
    is_first_touch events_with outcome_with all_events fresh_frame fresh_state series_events
scope_is_touched_by_the_call = refl

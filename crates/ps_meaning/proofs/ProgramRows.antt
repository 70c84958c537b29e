-- A scan over a table of ints that a program makes, a recursion without an end, and a text that is doubled too often.
use Rattle.std.proofs.Common.{◌≡◌, ℕ, List, [], ◌∷◌, ◌++◌, refl, pos, true, false, Option, Some, None}
use Rattle.std.specs.Prelude.{codes, map, negsuc}
use Rattle.std.specs.Fmt.{signed_decimal, digits}
use Rattle.text_forms.specs.Forms.{forms_of, forms_from, form_here, form_in, begins}
use Rattle.ps_base.specs.TyView.{TyView}
use Rattle.ps_base.specs.TyView as ty
use Rattle.ps_base.specs.declared.trap.Trap.TheVariants as trap
use Rattle.ps_base.specs.declared.operator.Operator.TheVariants.{Add}
use Rattle.ps_base.specs.declared.operator.Relation.TheVariants.{Equal, LessEqual}
use Rattle.ps_typing.specs.ps_program.declared.place.Place.{Place}
use Rattle.ps_typing.specs.ps_program.declared.place.Place.TheVariants.{Plain, Kept}
use Rattle.ps_typing.specs.ps_program.Node.{Param, Node, Nodes, none, more, BodyNode, body}
use Rattle.ps_typing.specs.ps_program.Node as node
use Rattle.ps_typing.specs.Library.{error_class, caller}
use Rattle.ps_heap.specs.reaching.Reaching.{reach, walk, without, is_in, first_source}
use Rattle.ps_heap.specs.Ends.{Done, Trapped, OutOfTurns}
use Rattle.ps_heap.specs.Tables.{looked_up, entered, next_string, next_int, cardinality}
use Rattle.ps_heap.specs.Objects.{is_class, field_of, with_field, table_of, is_one_object}
use Rattle.ps_heap.specs.Scopes.{new_scope, scope_out, name_in, with_name}
use Rattle.ps_heap.specs.References.{next_in}
use Rattle.ps_heap.specs.Databases.{each_once, database_at, database_from, every_root, create_fault, admission}
use Rattle.ps_heap.specs.Held.{StoredHeap, nothing_stored, row, home_at, reached_from_roots, places_with, is_among, way_out, touched_after, touched_weight, is_first_touch}
use Rattle.ps_heap.specs.Commit.{decision, are_writable, saved, homes_after, home_after, first_database, sources, source_of, at_home, created_with, after_places, roots_of, newly_reached, starts, loose, loose_from}
use Rattle.ps_heap.specs.Calls.{enter_call, lookup_call, cardinality_call, create_answer, asks_to_create, open_answer, asks_to_open, commit_call}
use Rattle.ps_heap.specs.Library.{library_procedure, heap_call}
use Rattle.ps_heap.specs.Scans.{next_key}
use Rattle.ps_heap.specs.Events.{Event, outputs, series_events}
use Rattle.ps_meaning.specs.Meaning.{give, stop, after, ◌>>=◌, choose, answer, attempt, answered, put_answer, change, with_heap, made, made_text, made_procedure, enter, back_in, back_to, scoped, in_frame, emit, written, take_turn, get, set}
use Rattle.ps_meaning.specs.Frames.{arguments_on, frame_of_call, keep, keep_all}
use Rattle.ps_meaning.specs.Operations.{kept_all}
use Rattle.ps_meaning.specs.Loops.{for_turns, for_loop, for_meant, scan_turns, scan_next, scan_call, begin_scan}
use Rattle.ps_meaning.specs.Evaluation.{call_meant, eval}
use Rattle.ps_meaning.specs.Calls.{body_meant, call_within}
use Rattle.ps_meaning.specs.Runs.{run_events, events_with, outcome_with, all_events, fresh_frame, fresh_state}
use Rattle.ps_meaning.proofs.Rows.{line, program, write, num, local}
use Rattle.ps_meaning.proofs.StoringRows.{let_be, of, box, boxed, items, newline, text, write_text}

abbrev outputs_of : ℕ → BodyNode → List ℕ
outputs_of turns program = outputs (run_events (record { turns = turns; input = []; heap = nothing_stored; replies = [] }) program)

-- Ints from 1 on are entered, the even ones taken out again, and the rest is scanned.

abbrev int : ℕ → Node
int slot = node.Name (Plain slot) ty.Int

abbrev last : Node
last = node.Name (Kept 0 0) ty.Int

abbrev enters : Node → Node → Node
enters key v = node.Lib 6 (items (key ∷ of 0 ∷ v ∷ [])) (line 1)

abbrev sees : Node
sees = node.Proc (body (record { ty = ty.Int; place = Plain 0 } ∷ record { ty = ty.Pntr; place = Plain 0 } ∷ []) ty.Bool
    (node.Block None (items (node.IfDo (node.Compare LessEqual ty.Int (int 0) last) (node.SetName (Kept 0 1) ty.Bool (node.Flag false))
    ∷ node.SetName (Kept 0 0) ty.Int (int 0) ∷ node.Flag true ∷ []))) None (line 1))

abbrev blank : Node
blank = write_text (text (codes " "))

abbrev scans_odds : ℕ → BodyNode
scans_odds n = body [] ty.Void (node.Block (Some (codes "scope(int last;bool sorted)")) (items (let_be 0 (node.Lib 3 none (line 1))
    ∷ node.For 0 (num 1) (num n) (num 1) None (Plain 3) (enters (int 3) (boxed (int 3))) (line 1)
    ∷ node.For 4 (num 2) (num n) (num 2) None (Plain 7) (enters (int 7) node.Nil) (line 1)
    ∷ node.Let (Kept 0 0) ty.Int (num 0) ∷ node.Let (Kept 0 1) ty.Bool (node.Flag true)
    ∷ node.Let (Plain 8) ty.Int (node.Scan false (of 0) sees 1 9 (line 1))
    ∷ write (int 8) ∷ blank ∷ node.Write (node.Name (Kept 0 1) ty.Bool) node.Empty false ty.Bool (line 1) ∷ blank ∷ write last ∷ blank
    ∷ write (node.Lib 8 (items (of 0 ∷ [])) (line 1)) ∷ newline ∷ []))) None (line 1)

odds_are_scanned : outputs_of 200 (scans_odds 60) ≡ codes "30 true 59 30\n"
unfolding digits eval is_one_object give stop after ◌>>=◌ choose answer attempt answered put_answer change with_heap made made_text made_procedure enter back_in back_to scoped in_frame emit
    written take_turn get set for_turns for_loop for_meant scan_turns scan_next scan_call begin_scan call_meant kept_all is_class field_of with_field
    new_scope scope_out name_in with_name forms_of forms_from form_here form_in begins arguments_on frame_of_call keep keep_all body_meant call_within
    library_procedure heap_call next_key next_string next_int table_of looked_up entered cardinality enter_call lookup_call cardinality_call
    create_answer create_fault asks_to_create open_answer admission asks_to_open commit_call decision are_writable each_once saved homes_after home_after
    first_database sources source_of at_home created_with after_places roots_of newly_reached starts loose loose_from database_at database_from
    row home_at reached_from_roots every_root reach walk without is_in first_source next_in places_with is_among way_out touched_after touched_weight
    is_first_touch events_with outcome_with all_events fresh_frame fresh_state series_events
odds_are_scanned = refl

-- let f = proc(int n -> int); f(n + 1), and then write f(0): at most 2,000 calls are inside one another
abbrev of_int : TyView
of_int = ty.Proc (ty.more ty.Int ty.none) ty.Int

abbrev calls : Node → ℕ → Node
calls n at = node.Call (node.Name (Kept 0 0) of_int) (items (n ∷ [])) (line at)

abbrev without_end : BodyNode
without_end = body [] ty.Void (node.Block (Some (codes "scope(proc(int->int) f)")) (items (
    node.Let (Kept 0 0) of_int (node.Proc (body (record { ty = ty.Int; place = Plain 0 } ∷ []) ty.Int (calls (node.Arith Add (int 0) (num 1) (line 1)) 1) None (line 1)))
    ∷ write (calls (num 0) 2) ∷ []))) None (line 1)

too_deep : outputs_of 3000 without_end ≡ codes "trap 7 at line 1\n"
unfolding digits eval is_one_object give stop after ◌>>=◌ choose answer attempt answered put_answer change with_heap made made_text made_procedure enter back_in back_to scoped in_frame emit
    written take_turn get set for_turns for_loop for_meant scan_turns scan_next scan_call begin_scan call_meant kept_all is_class field_of with_field
    new_scope scope_out name_in with_name forms_of forms_from form_here form_in begins arguments_on frame_of_call keep keep_all body_meant call_within
    library_procedure heap_call next_key next_string next_int table_of looked_up entered cardinality enter_call lookup_call cardinality_call
    create_answer create_fault asks_to_create open_answer admission asks_to_open commit_call decision are_writable each_once saved homes_after home_after
    first_database sources source_of at_home created_with after_places roots_of newly_reached starts loose loose_from database_at database_from
    row home_at reached_from_roots every_root reach walk without is_in first_source next_in places_with is_among way_out touched_after touched_weight
    is_first_touch events_with outcome_with all_events fresh_frame fresh_state series_events
too_deep = refl

-- let s := "x", and then for i = 1 to 17 do s := s ++ s
abbrev doubled : BodyNode
doubled = program (items (node.Let (Plain 0) ty.Str (text (codes "x"))
    ∷ node.For 0 (num 1) (num 17) (num 1) None (Plain 3) (node.SetName (Plain 0) ty.Str (node.Join (node.Name (Plain 0) ty.Str) (node.Name (Plain 0) ty.Str) (line 2))) (line 2) ∷ []))

too_long : outputs_of 20 doubled ≡ codes "trap 10 at line 2\n"
unfolding digits eval is_one_object give stop after ◌>>=◌ choose answer attempt answered put_answer change with_heap made made_text made_procedure enter back_in back_to scoped in_frame emit
    written take_turn get set for_turns for_loop for_meant scan_turns scan_next scan_call begin_scan call_meant kept_all is_class field_of with_field
    new_scope scope_out name_in with_name forms_of forms_from form_here form_in begins arguments_on frame_of_call keep keep_all body_meant call_within
    library_procedure heap_call next_key next_string next_int table_of looked_up entered cardinality enter_call lookup_call cardinality_call
    create_answer create_fault asks_to_create open_answer admission asks_to_open commit_call decision are_writable each_once saved homes_after home_after
    first_database sources source_of at_home created_with after_places roots_of newly_reached starts loose loose_from database_at database_from
    row home_at reached_from_roots every_root reach walk without is_in first_source next_in places_with is_among way_out touched_after touched_weight
    is_first_touch events_with outcome_with all_events fresh_frame fresh_state series_events
too_long = refl

-- Programs over tables and databases, computed: what they output, one after the other over one volume.
use Rattle.std.proofs.Common.{◌≡◌, ℕ, List, [], ◌∷◌, ◌++◌, refl, pos, true, false, Option, Some, None}
use Rattle.std.specs.Prelude.{codes, map, negsuc}
use Rattle.std.specs.Fmt.{signed_decimal, digits}
use Rattle.text_forms.specs.Forms.{forms_of, forms_from, form_here, form_in, begins}
use Rattle.ps_base.specs.TyView.{TyView}
use Rattle.ps_base.specs.TyView as ty
use Rattle.ps_base.specs.declared.trap.Trap.TheVariants as trap
use Rattle.ps_base.specs.declared.operator.Operator.TheVariants.{Add}
use Rattle.ps_base.specs.declared.operator.Relation.TheVariants.{Equal, LessEqual}
use Rattle.ps_typing.specs.ps_program.declared.place.Place.{Place}
use Rattle.ps_typing.specs.ps_program.declared.place.Place.TheVariants.{Plain, Kept}
use Rattle.ps_typing.specs.ps_program.Node.{Param, Node, Nodes, none, more, BodyNode, body}
use Rattle.ps_typing.specs.ps_program.Node as node
use Rattle.ps_typing.specs.Library.{error_class, caller}
use Rattle.ps_heap.specs.reaching.Reaching.{reach, walk, without, is_in, first_source}
use Rattle.ps_heap.specs.Ends.{Done, Trapped, OutOfTurns}
use Rattle.ps_heap.specs.Tables.{looked_up, entered, next_string, next_int, cardinality}
use Rattle.ps_heap.specs.Objects.{is_class, field_of, with_field, table_of, is_one_object}
use Rattle.ps_heap.specs.Scopes.{new_scope, scope_out, name_in, with_name}
use Rattle.ps_heap.specs.References.{next_in}
use Rattle.ps_heap.specs.Databases.{each_once, database_at, database_from, every_root, create_fault, admission}
use Rattle.ps_heap.specs.Held.{StoredHeap, nothing_stored, row, home_at, reached_from_roots, places_with, is_among, way_out, touched_after, touched_weight, is_first_touch}
use Rattle.ps_heap.specs.Commit.{decision, are_writable, saved, homes_after, home_after, first_database, sources, source_of, at_home, created_with, after_places, roots_of, newly_reached, starts, loose, loose_from}
use Rattle.ps_heap.specs.Calls.{enter_call, lookup_call, cardinality_call, create_answer, asks_to_create, open_answer, asks_to_open, commit_call}
use Rattle.ps_heap.specs.Library.{library_procedure, heap_call}
use Rattle.ps_heap.specs.Scans.{next_key}
use Rattle.ps_heap.specs.Events.{Event, outputs, series_events}
use Rattle.ps_meaning.specs.Meaning.{give, stop, after, ◌>>=◌, choose, answer, attempt, answered, put_answer, change, with_heap, made, made_text, made_procedure, enter, back_in, back_to, scoped, in_frame, emit, written, take_turn, get, set}
use Rattle.ps_meaning.specs.Frames.{arguments_on, frame_of_call, keep, keep_all}
use Rattle.ps_meaning.specs.Operations.{kept_all}
use Rattle.ps_meaning.specs.Loops.{for_turns, for_loop, for_meant, scan_turns, scan_next, scan_call, begin_scan}
use Rattle.ps_meaning.specs.Evaluation.{call_meant, eval}
use Rattle.ps_meaning.specs.Calls.{body_meant, call_within}
use Rattle.ps_meaning.specs.Runs.{run_events, events_with, outcome_with, all_events, fresh_frame, fresh_state}
use Rattle.ps_meaning.proofs.Rows.{line, program, write, num, local}

-- what programs output one after the other, each with so many turns
abbrev run_over : BodyNode → StoredHeap → List Event
run_over of heap = run_events (record { turns = 20; input = []; heap = heap; replies = [] }) of

abbrev told : List BodyNode → List ℕ
told programs = outputs (series_events (map run_over programs) nothing_stored)

-- Parts of programs. All that is of type pntr stands in locals of references.

abbrev pub items : List Node → Nodes
items [] = none
items (item ∷ rest) = more item (items rest)

abbrev pub text : List ℕ → Node
text bytes = node.Text bytes

abbrev pub of : ℕ → Node
of slot = node.Name (Plain slot) ty.Pntr

abbrev pub let_be : ℕ → Node → Node
let_be slot e = node.Let (Plain slot) ty.Pntr e

abbrev creates : List ℕ → List ℕ → Node
creates name password = node.Lib 0 (items (text name ∷ text password ∷ [])) (line 1)

abbrev pub opens : List ℕ → List ℕ → List ℕ → Node
opens name password mode = node.Lib 1 (items (text name ∷ text password ∷ text mode ∷ [])) (line 1)

abbrev commits : Node
commits = node.Lib 2 none (line 1)

abbrev enters : List ℕ → Node → Node → Node
enters key table v = node.Lib 4 (items (text key ∷ table ∷ v ∷ [])) (line 1)

abbrev pub looks_up : List ℕ → Node → Node
looks_up key table = node.Lib 5 (items (text key ∷ table ∷ [])) (line 1)

abbrev pub write_text : Node → Node
write_text e = node.Write e node.Empty false ty.Str (line 1)

abbrev pub newline : Node
newline = write_text (text (codes "\n"))

abbrev is_nil : Node → Node
is_nil e = node.Compare Equal ty.Pntr e node.Nil

abbrev fault_of : Node → Node
fault_of e = node.Field e error_class 1 ty.Str (line 1)

abbrev pub runs : List Node → BodyNode
runs clauses = program (items clauses)

-- A person with an address is stored, and found by the next program.

abbrev person : List ℕ
person = codes "person(string name;int age;pntr home)"

abbrev address : List ℕ
address = codes "address(int number;string town)"

abbrev stores : BodyNode
stores = runs (let_be 0 (creates (codes "people") (codes "pw"))
    ∷ enters (codes "al") (of 0) (node.Make person (items (text (codes "al") ∷ num 41 ∷ node.Make address (items (num 76 ∷ text (codes "St Andrews") ∷ [])) ∷ [])))
    ∷ let_be 1 commits ∷ node.IfDo (is_nil (of 1)) (write_text (text (codes "saved\n"))) ∷ [])

abbrev reads_town : BodyNode
reads_town = runs (let_be 0 (opens (codes "people") (codes "pw") (codes "read")) ∷ let_be 1 (looks_up (codes "al") (of 0))
    ∷ write_text (node.Field (node.Field (of 1) person 2 ty.Pntr (line 1)) address 1 ty.Str (line 1)) ∷ newline ∷ [])

saved_and_found : told (stores ∷ reads_town ∷ []) ≡ codes "saved\nSt Andrews\n"
unfolding digits eval is_one_object give stop after ◌>>=◌ choose answer attempt answered put_answer change with_heap made made_text made_procedure enter back_in back_to scoped in_frame emit
    written take_turn get set for_turns for_loop for_meant scan_turns scan_next scan_call begin_scan call_meant kept_all is_class field_of with_field
    new_scope scope_out name_in with_name forms_of forms_from form_here form_in begins arguments_on frame_of_call keep keep_all body_meant call_within
    library_procedure heap_call next_key next_string next_int table_of looked_up entered cardinality enter_call lookup_call cardinality_call
    create_answer create_fault asks_to_create open_answer admission asks_to_open commit_call decision are_writable each_once saved homes_after home_after
    first_database sources source_of at_home created_with after_places roots_of newly_reached starts loose loose_from database_at database_from
    row home_at reached_from_roots every_root reach walk without is_in first_source next_in places_with is_among way_out touched_after touched_weight
    is_first_touch events_with outcome_with all_events fresh_frame fresh_state series_events
saved_and_found = refl

-- the password of a database is asked for
abbrev with_another_password : BodyNode
with_another_password = runs (let_be 0 (opens (codes "people") (codes "px") (codes "read"))
    ∷ node.IfDo (node.Is (of 0) error_class) (node.Block None (items (write_text (fault_of (of 0)) ∷ newline ∷ []))) ∷ [])

password_differs : told (stores ∷ with_another_password ∷ []) ≡ codes "saved\npassword\n"
unfolding digits eval is_one_object give stop after ◌>>=◌ choose answer attempt answered put_answer change with_heap made made_text made_procedure enter back_in back_to scoped in_frame emit
    written take_turn get set for_turns for_loop for_meant scan_turns scan_next scan_call begin_scan call_meant kept_all is_class field_of with_field
    new_scope scope_out name_in with_name forms_of forms_from form_here form_in begins arguments_on frame_of_call keep keep_all body_meant call_within
    library_procedure heap_call next_key next_string next_int table_of looked_up entered cardinality enter_call lookup_call cardinality_call
    create_answer create_fault asks_to_create open_answer admission asks_to_open commit_call decision are_writable each_once saved homes_after home_after
    first_database sources source_of at_home created_with after_places roots_of newly_reached starts loose loose_from database_at database_from
    row home_at reached_from_roots every_root reach walk without is_in first_source next_in places_with is_among way_out touched_after touched_weight
    is_first_touch events_with outcome_with all_events fresh_frame fresh_state series_events
password_differs = refl

-- A procedure is stored with the scope that keeps its number, and goes on counting in the next programs.

abbrev pub counter : List ℕ
counter = codes "counter(proc(->int) next)"

abbrev of_int : TyView
of_int = ty.Proc ty.none ty.Int

-- proc( -> int); { n := n + 1; n }, in the scope of n
abbrev pub ticks : BodyNode
ticks = body [] ty.Int (node.Block None (items (node.SetName (Kept 0 0) ty.Int (node.Arith Add (node.Name (Kept 0 0) ty.Int) (num 1) (line 1))
    ∷ node.Name (Kept 0 0) ty.Int ∷ []))) None (line 1)

abbrev pub counts_on : Node
counts_on = node.Proc ticks

abbrev makes_counter : Node
makes_counter = node.Block (Some (codes "scope(int n)")) (items (node.Let (Kept 0 0) ty.Int (num 0) ∷ counts_on ∷ []))

abbrev stores_counter : BodyNode
stores_counter = runs (let_be 0 (creates (codes "c") []) ∷ enters (codes "k") (of 0) (node.Make counter (items (makes_counter ∷ []))) ∷ let_be 1 commits ∷ [])

abbrev pub next_number : Node
next_number = write (node.Call (node.Field (of 1) counter 0 of_int (line 1)) none (line 1))

abbrev counts_twice : BodyNode
counts_twice = runs (let_be 0 (opens (codes "c") [] (codes "write")) ∷ let_be 1 (looks_up (codes "k") (of 0))
    ∷ next_number ∷ write_text (text (codes " ")) ∷ next_number ∷ newline ∷ let_be 2 commits ∷ [])

abbrev counts_once : BodyNode
counts_once = runs (let_be 0 (opens (codes "c") [] (codes "read")) ∷ let_be 1 (looks_up (codes "k") (of 0)) ∷ next_number ∷ newline ∷ [])

counter_goes_on : told (stores_counter ∷ counts_twice ∷ counts_once ∷ []) ≡ codes "1 2\n3\n"
unfolding digits eval is_one_object give stop after ◌>>=◌ choose answer attempt answered put_answer change with_heap made made_text made_procedure enter back_in back_to scoped in_frame emit
    written take_turn get set for_turns for_loop for_meant scan_turns scan_next scan_call begin_scan call_meant kept_all is_class field_of with_field
    new_scope scope_out name_in with_name forms_of forms_from form_here form_in begins arguments_on frame_of_call keep keep_all body_meant call_within
    library_procedure heap_call next_key next_string next_int table_of looked_up entered cardinality enter_call lookup_call cardinality_call
    create_answer create_fault asks_to_create open_answer admission asks_to_open commit_call decision are_writable each_once saved homes_after home_after
    first_database sources source_of at_home created_with after_places roots_of newly_reached starts loose loose_from database_at database_from
    row home_at reached_from_roots every_root reach walk without is_in first_source next_in places_with is_among way_out touched_after touched_weight
    is_first_touch events_with outcome_with all_events fresh_frame fresh_state series_events
counter_goes_on = refl

-- Two fields that referred to one object still do.

abbrev pub box : List ℕ
box = codes "box(int n)"

abbrev pair : List ℕ
pair = codes "pair(pntr a,b)"

abbrev pub boxed : Node → Node
boxed n = node.Make box (items (n ∷ []))

abbrev pub number_in : Node → Node
number_in e = node.Field e box 0 ty.Int (line 1)

abbrev part : ℕ → Node
part n = node.Field (of 1) pair n ty.Pntr (line 1)

abbrev stores_pair : BodyNode
stores_pair = runs (let_be 0 (boxed (num 1)) ∷ let_be 1 (creates (codes "d") []) ∷ enters (codes "k") (of 1) (node.Make pair (items (of 0 ∷ of 0 ∷ []))) ∷ let_be 2 commits ∷ [])

abbrev changes_one : BodyNode
changes_one = runs (let_be 0 (opens (codes "d") [] (codes "read")) ∷ let_be 1 (looks_up (codes "k") (of 0))
    ∷ node.SetField (part 0) box 0 ty.Int (num 7) (line 1) ∷ write (number_in (part 1)) ∷ write_text (text (codes " "))
    ∷ node.Write (node.Compare Equal ty.Pntr (part 0) (part 1)) node.Empty false ty.Bool (line 1) ∷ newline ∷ [])

one_object_is_shared : told (stores_pair ∷ changes_one ∷ []) ≡ codes "7 true\n"
unfolding digits eval is_one_object give stop after ◌>>=◌ choose answer attempt answered put_answer change with_heap made made_text made_procedure enter back_in back_to scoped in_frame emit
    written take_turn get set for_turns for_loop for_meant scan_turns scan_next scan_call begin_scan call_meant kept_all is_class field_of with_field
    new_scope scope_out name_in with_name forms_of forms_from form_here form_in begins arguments_on frame_of_call keep keep_all body_meant call_within
    library_procedure heap_call next_key next_string next_int table_of looked_up entered cardinality enter_call lookup_call cardinality_call
    create_answer create_fault asks_to_create open_answer admission asks_to_open commit_call decision are_writable each_once saved homes_after home_after
    first_database sources source_of at_home created_with after_places roots_of newly_reached starts loose loose_from database_at database_from
    row home_at reached_from_roots every_root reach walk without is_in first_source next_in places_with is_among way_out touched_after touched_weight
    is_first_touch events_with outcome_with all_events fresh_frame fresh_state series_events
one_object_is_shared = refl

-- A committed object that nothing refers to any longer is saved all the same, and may be entered again.
abbrev takes_out_and_back : BodyNode
takes_out_and_back = runs (let_be 0 (boxed (num 1)) ∷ let_be 1 (creates (codes "d") []) ∷ enters (codes "k") (of 1) (of 0) ∷ let_be 2 commits
    ∷ enters (codes "k") (of 1) node.Nil ∷ node.SetField (of 0) box 0 ty.Int (num 2) (line 1) ∷ let_be 3 commits
    ∷ enters (codes "k") (of 1) (of 0) ∷ let_be 4 commits ∷ [])

abbrev pub reads_box : BodyNode
reads_box = runs (let_be 0 (opens (codes "d") [] (codes "read")) ∷ write (number_in (looks_up (codes "k") (of 0))) ∷ newline ∷ [])

entered_again : told (takes_out_and_back ∷ reads_box ∷ []) ≡ codes "2\n"
unfolding digits eval is_one_object give stop after ◌>>=◌ choose answer attempt answered put_answer change with_heap made made_text made_procedure enter back_in back_to scoped in_frame emit
    written take_turn get set for_turns for_loop for_meant scan_turns scan_next scan_call begin_scan call_meant kept_all is_class field_of with_field
    new_scope scope_out name_in with_name forms_of forms_from form_here form_in begins arguments_on frame_of_call keep keep_all body_meant call_within
    library_procedure heap_call next_key next_string next_int table_of looked_up entered cardinality enter_call lookup_call cardinality_call
    create_answer create_fault asks_to_create open_answer admission asks_to_open commit_call decision are_writable each_once saved homes_after home_after
    first_database sources source_of at_home created_with after_places roots_of newly_reached starts loose loose_from database_at database_from
    row home_at reached_from_roots every_root reach walk without is_in first_source next_in places_with is_among way_out touched_after touched_weight
    is_first_touch events_with outcome_with all_events fresh_frame fresh_state series_events
entered_again = refl

-- What is at home in a database that is open for reading alone is not saved; where nothing is assigned there is nothing to do.

abbrev stores_box : BodyNode
stores_box = runs (let_be 0 (creates (codes "d") []) ∷ enters (codes "k") (of 0) (boxed (num 1)) ∷ let_be 1 commits ∷ [])

abbrev assigns_while_reading : BodyNode
assigns_while_reading = runs (let_be 0 (opens (codes "d") [] (codes "read")) ∷ node.SetField (looks_up (codes "k") (of 0)) box 0 ty.Int (num 5) (line 1)
    ∷ let_be 1 commits ∷ write_text (fault_of (of 1)) ∷ newline ∷ [])

not_saved : told (stores_box ∷ assigns_while_reading ∷ reads_box ∷ []) ≡ codes "not writable\n1\n"
unfolding digits eval is_one_object give stop after ◌>>=◌ choose answer attempt answered put_answer change with_heap made made_text made_procedure enter back_in back_to scoped in_frame emit
    written take_turn get set for_turns for_loop for_meant scan_turns scan_next scan_call begin_scan call_meant kept_all is_class field_of with_field
    new_scope scope_out name_in with_name forms_of forms_from form_here form_in begins arguments_on frame_of_call keep keep_all body_meant call_within
    library_procedure heap_call next_key next_string next_int table_of looked_up entered cardinality enter_call lookup_call cardinality_call
    create_answer create_fault asks_to_create open_answer admission asks_to_open commit_call decision are_writable each_once saved homes_after home_after
    first_database sources source_of at_home created_with after_places roots_of newly_reached starts loose loose_from database_at database_from
    row home_at reached_from_roots every_root reach walk without is_in first_source next_in places_with is_among way_out touched_after touched_weight
    is_first_touch events_with outcome_with all_events fresh_frame fresh_state series_events
not_saved = refl

abbrev commits_nothing : BodyNode
commits_nothing = runs (let_be 0 (opens (codes "d") [] (codes "read")) ∷ let_be 1 commits
    ∷ node.Write (is_nil (of 1)) node.Empty false ty.Bool (line 1) ∷ newline ∷ [])

nothing_is_done : told (stores_box ∷ commits_nothing ∷ []) ≡ codes "true\n"
unfolding digits eval is_one_object give stop after ◌>>=◌ choose answer attempt answered put_answer change with_heap made made_text made_procedure enter back_in back_to scoped in_frame emit
    written take_turn get set for_turns for_loop for_meant scan_turns scan_next scan_call begin_scan call_meant kept_all is_class field_of with_field
    new_scope scope_out name_in with_name forms_of forms_from form_here form_in begins arguments_on frame_of_call keep keep_all body_meant call_within
    library_procedure heap_call next_key next_string next_int table_of looked_up entered cardinality enter_call lookup_call cardinality_call
    create_answer create_fault asks_to_create open_answer admission asks_to_open commit_call decision are_writable each_once saved homes_after home_after
    first_database sources source_of at_home created_with after_places roots_of newly_reached starts loose loose_from database_at database_from
    row home_at reached_from_roots every_root reach walk without is_in first_source next_in places_with is_among way_out touched_after touched_weight
    is_first_touch events_with outcome_with all_events fresh_frame fresh_state series_events
nothing_is_done = refl

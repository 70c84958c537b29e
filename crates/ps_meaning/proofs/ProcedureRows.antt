-- Programs with procedures, scopes and input, whose events are computed.
use Rattle.std.proofs.Common.{◌≡◌, ℕ, List, [], ◌∷◌, refl, pos, false, Option, Some, None}
use Rattle.std.specs.Prelude.{codes, map, ◌+◌}
use Rattle.std.specs.Fmt.{signed_decimal, digits}
use Rattle.text_forms.specs.Forms.{forms_of, forms_from, form_here, form_in, begins, element_of, is_text}
use Rattle.ps_base.specs.TyView.{TyView}
use Rattle.ps_base.specs.TyView as ty
use Rattle.ps_base.specs.declared.trap.Trap.TheVariants as trap
use Rattle.ps_base.specs.declared.operator.Operator.TheVariants.{Add, Sub}
use Rattle.ps_base.specs.declared.operator.Relation.TheVariants.{Equal}
use Rattle.ps_typing.specs.ps_program.declared.place.Place.{Place}
use Rattle.ps_typing.specs.ps_program.declared.place.Place.TheVariants.{Plain, Kept}
use Rattle.ps_typing.specs.ps_program.Node.{Param, Node, Nodes, none, more, BodyNode, body}
use Rattle.ps_typing.specs.ps_program.Node as node
use Rattle.ps_heap.specs.Ends.{Done, Trapped, OutOfTurns}
use Rattle.ps_heap.specs.Events.{Event, Out, Finish}
use Rattle.ps_heap.specs.Texts.{line_of, behind_line, line_read}
use Rattle.ps_heap.specs.Objects.{vector_of, with_element, element_of as element_at}
use Rattle.ps_heap.specs.Scopes.{new_scope, scope_out, name_in, with_name}
use Rattle.ps_meaning.specs.Meaning.{give, stop, after, ◌>>=◌, choose, answer, attempt, with_heap, change, made, made_text, made_procedure, with_input, put_input, enter, back_in, back_to, scoped, in_frame, emit, written, take_turn, get, set}
use Rattle.ps_heap.specs.reaching.Reaching.{reach, walk}
use Rattle.ps_heap.specs.Library.{library_procedure}
use Rattle.ps_heap.specs.Weights.{code_weight, routine_weight}
use Rattle.ps_heap.specs.Databases.{every_root}
use Rattle.ps_heap.specs.Held.{way_out, touched_after, touched_weight, is_first_touch, home_at, row, reached_from_roots, places_with}
use Rattle.ps_meaning.specs.Loops.{for_turns, for_loop, for_meant}
use Rattle.ps_meaning.specs.Operations.{read_line, at_end}
use Rattle.ps_meaning.specs.Evaluation.{call_meant, eval}
use Rattle.ps_meaning.specs.Frames.{arguments_on, frame_of_call, keep, keep_all}
use Rattle.ps_meaning.specs.Calls.{body_meant, call_within, context}
use Rattle.ps_meaning.specs.Runs.{over_nothing, run_events, events_with, outcome_with, all_events, fresh_frame, fresh_state}
use Rattle.ps_meaning.proofs.Rows.{line, program, one, write, plain, out, turn, finish, int, num, local}

abbrev told_with : List ℕ → ℕ → BodyNode → List Event
told_with input turns program = map plain (run_events (over_nothing turns input) program)

-- where so many calls are round the program already
abbrev told_inside : ℕ → ℕ → Node → List Event
told_inside depth turns clause = map plain (all_events (eval (context turns depth) clause fresh_frame (fresh_state routine_weight (over_nothing turns []) 0)))

abbrev procedure : List Param → TyView → Node → Option (List ℕ) → Node
procedure params gives tree scope = node.Proc (body params gives tree scope (line 1))

abbrev param : TyView → Place → Param
param ty place = record { ty = ty; place = place }

abbrev no_type : TyView
no_type = ty.Proc ty.none ty.Int

-- a procedure in the local of a number, called on a line
abbrev call : ℕ → Nodes → ℕ → Node
call slot args at = node.Call (node.Name (Plain slot) no_type) args (line at)

abbrev kept : ℕ → ℕ → Node
kept up position = node.Name (Kept up position) ty.Int

abbrev n_scope : Option (List ℕ)
n_scope = Some (codes "scope(int n)")

-- proc( -> int); { n := n + 1; n }
abbrev counter : ℕ → Node
counter up = procedure [] ty.Int (node.Block None
    (more (node.SetName (Kept up 0) ty.Int (node.Arith Add (kept up 0) (num 1) (line 1))) (more (kept up 0) none))) None

-- proc( -> proc( -> int)); { let n := 0; proc( -> int); { n := n + 1; n } }
abbrev maker : Node
maker = procedure [] no_type (node.Block n_scope
    (more (node.Let (Kept 0 0) ty.Int (num 0)) (more (counter 0) none))) None

-- let make = ..; let f = make(); let g = make(); write f(), f(), g()
abbrev counters : BodyNode
counters = program (more (node.Let (Plain 0) no_type maker) (more (node.Let (Plain 1) no_type (call 0 none 2))
    (more (node.Let (Plain 2) no_type (call 0 none 3))
    (more (write (call 1 none 4)) (more (write (call 1 none 4)) (more (write (call 2 none 4)) none))))))

counters_count_by_themselves : told_with [] 5 counters ≡ turn ∷ turn ∷ turn ∷ int 1 ∷ turn ∷ int 2 ∷ turn ∷ int 1 ∷ finish Done ∷ []
unfolding digits eval change library_procedure give stop after ◌>>=◌ choose answer made_procedure enter back_in back_to scoped in_frame emit written take_turn get set call_meant
    arguments_on frame_of_call keep_all body_meant call_within new_scope scope_out name_in with_name forms_of forms_from form_here form_in begins
    events_with outcome_with all_events fresh_frame fresh_state
counters_count_by_themselves = refl

abbrev from_int : TyView
from_int = ty.Proc (ty.more ty.Int ty.none) ty.Int

-- f(e), where f is kept so many levels out
abbrev call_kept : ℕ → Node → ℕ → Node
call_kept up e at = node.Call (node.Name (Kept up 0) from_int) (more e none) (line at)

-- { let f = proc(int n -> int); if n = 0 then 0 else 1 + f(n - 1); write f(k) }
abbrev counts_down : ℕ → Node
counts_down k = node.Block (Some (codes "scope(proc(int -> int) f)")) (more (node.Let (Kept 0 0) from_int
    (procedure (param ty.Int (Plain 0) ∷ []) ty.Int (node.IfElse (node.Compare Equal ty.Int (local 0) (num 0)) (num 0)
    (node.Arith Add (num 1) (call_kept 0 (node.Arith Sub (local 0) (num 1) (line 1)) 7) (line 1))) None))
    (more (write (call_kept 0 (num k) 8)) none))

procedure_calls_itself : told_with [] 4 (one (counts_down 3)) ≡ turn ∷ turn ∷ turn ∷ turn ∷ int 3 ∷ finish Done ∷ []
unfolding digits eval change library_procedure give stop after ◌>>=◌ choose answer made_procedure enter back_in back_to scoped in_frame emit written take_turn get set call_meant
    arguments_on frame_of_call keep keep_all body_meant call_within new_scope scope_out name_in with_name forms_of forms_from form_here form_in begins
    events_with outcome_with all_events fresh_frame fresh_state
procedure_calls_itself = refl

-- with two turns the third call has none
turns_end_in_a_call : told_with [] 2 (one (counts_down 3)) ≡ turn ∷ turn ∷ finish OutOfTurns ∷ []
unfolding digits eval change library_procedure give stop after ◌>>=◌ choose answer made_procedure enter back_in back_to scoped in_frame emit written take_turn get set call_meant
    arguments_on frame_of_call keep keep_all body_meant call_within new_scope scope_out name_in with_name forms_of forms_from form_here form_in begins
    events_with outcome_with all_events fresh_frame fresh_state
turns_end_in_a_call = refl

-- 1,998 calls are round it: the second call inside is the 2,000th, which runs
last_call_runs : told_inside 1998 2 (counts_down 1) ≡ turn ∷ turn ∷ int 1 ∷ finish Done ∷ []
unfolding digits eval change library_procedure give stop after ◌>>=◌ choose answer made_procedure enter back_in back_to scoped in_frame emit written take_turn get set call_meant
    arguments_on frame_of_call keep keep_all body_meant call_within new_scope scope_out name_in with_name forms_of forms_from form_here form_in begins
    all_events fresh_frame fresh_state
last_call_runs = refl

-- the third is too deep, and no turn is left for it either
too_deep_before_the_turn : told_inside 1998 2 (counts_down 2) ≡ turn ∷ turn ∷ finish (Trapped trap.TooDeep (line 7)) ∷ []
unfolding digits eval change library_procedure give stop after ◌>>=◌ choose answer made_procedure enter back_in back_to scoped in_frame emit written take_turn get set call_meant
    arguments_on frame_of_call keep keep_all body_meant call_within new_scope scope_out name_in with_name forms_of forms_from form_here form_in begins
    all_events fresh_frame fresh_state
too_deep_before_the_turn = refl

abbrev taking : TyView
taking = ty.Proc (ty.more ty.Int (ty.more ty.Str (ty.more ty.Int ty.none))) no_type

abbrev write_string : Node → Node
write_string e = node.Write e node.Empty false ty.Str (line 1)

abbrev string : List ℕ → Node
string bytes = node.Text bytes

-- let k = 8
-- let make = proc(int a; string s; int n -> proc( -> int)); { write a - n, s; let m = 5; proc( -> int); { n := n + 1; n } }
-- let f = make(9, "x", 4); write f(), f(), k
abbrev of_parameters : BodyNode
of_parameters = program (more (node.Let (Plain 0) ty.Int (num 8)) (more (node.Let (Plain 0) taking
    (procedure (param ty.Int (Plain 0) ∷ param ty.Str (Plain 0) ∷ param ty.Int (Kept 0 0) ∷ []) no_type
    (node.Block None (more (write (node.Arith Sub (local 0) (kept 0 0) (line 1))) (more (write_string (node.Name (Plain 0) ty.Str))
    (more (node.Let (Plain 2) ty.Int (num 5)) (more (counter 0) none))))) n_scope))
    (more (node.Let (Plain 1) no_type (node.Call (node.Name (Plain 0) taking) (more (num 9) (more (string (codes "x")) (more (num 4) none))) (line 1)))
    (more (write (call 1 none 1)) (more (write (call 1 none 1)) (more (write (local 0)) none))))))

parameter_is_kept : told_with [] 9 of_parameters ≡ turn ∷ int 5 ∷ out (codes "x") ∷ turn ∷ int 5 ∷ turn ∷ int 6 ∷ int 8 ∷ finish Done ∷ []
unfolding digits eval change library_procedure give stop after ◌>>=◌ choose answer made_procedure enter back_in back_to scoped in_frame emit written take_turn get set call_meant
    arguments_on frame_of_call keep keep_all body_meant call_within new_scope scope_out name_in with_name forms_of forms_from form_here form_in begins
    events_with outcome_with all_events fresh_frame fresh_state
parameter_is_kept = refl

abbrev procedures : TyView
procedures = ty.Vector no_type

abbrev of_vector : ℕ → Node
of_vector n = node.Call (node.Element (node.Name (Plain 1) procedures) (num n) no_type (line 1)) none (line 1)

-- let f = proc( -> int); 0; let v = vector 1 to 3 of f; for i = 1 to 3 do v(i) := proc( -> int); i; write v(1)(), v(2)(), v(3)()
abbrev of_turns : BodyNode
of_turns = program (more (node.Let (Plain 0) no_type (procedure [] ty.Int (num 0) None))
    (more (node.Let (Plain 1) procedures (node.Elems (num 1) (more (node.Name (Plain 0) no_type) (more (node.Name (Plain 0) no_type)
    (more (node.Name (Plain 0) no_type) none))) procedures (line 1)))
    (more (node.For 0 (num 1) (num 3) (num 1) (Some (codes "scope(int i)")) (Kept 0 0)
    (node.SetElement (node.Name (Plain 1) procedures) (kept 0 0) (procedure [] ty.Int (kept 0 0) None) no_type (line 1)) (line 1))
    (more (write (of_vector 1)) (more (write (of_vector 2)) (more (write (of_vector 3)) none))))))

each_turn_has_its_control : told_with [] 9 of_turns ≡ turn ∷ turn ∷ turn ∷ turn ∷ int 1 ∷ turn ∷ int 2 ∷ turn ∷ int 3 ∷ finish Done ∷ []
unfolding digits eval library_procedure give stop after ◌>>=◌ choose answer attempt with_heap change made made_procedure enter back_in back_to scoped in_frame emit written
    take_turn get set call_meant for_turns for_loop for_meant vector_of element_at with_element element_of is_text
    arguments_on frame_of_call keep keep_all body_meant call_within new_scope scope_out name_in with_name forms_of forms_from form_here form_in begins
    events_with outcome_with all_events fresh_frame fresh_state
each_turn_has_its_control = refl

-- { let n = 5; { let m = 7; let f = proc( -> int); m - n; write f() } }
abbrev of_two_scopes : BodyNode
of_two_scopes = one (node.Block n_scope (more (node.Let (Kept 0 0) ty.Int (num 5)) (more (node.Block (Some (codes "scope(int m)"))
    (more (node.Let (Kept 0 0) ty.Int (num 7)) (more (node.Let (Plain 0) no_type
    (procedure [] ty.Int (node.Arith Sub (kept 0 0) (kept 1 0) (line 1)) None)) (more (write (call 0 none 1)) none)))) none)))

levels_go_outward : told_with [] 1 of_two_scopes ≡ turn ∷ int 2 ∷ finish Done ∷ []
unfolding digits eval change library_procedure give stop after ◌>>=◌ choose answer made_procedure enter back_in back_to scoped in_frame emit written take_turn get set call_meant
    arguments_on frame_of_call keep_all body_meant call_within new_scope scope_out name_in with_name forms_of forms_from form_here form_in begins
    events_with outcome_with all_events fresh_frame fresh_state
levels_go_outward = refl

-- A name that is kept holds 0 until its clause has ended. No text has such a tree: its n isn't in scope there.
-- { let n = (proc( -> int); n)(); write n }
name_before_its_value : told_with [] 1 (one (node.Block n_scope (more (node.Let (Kept 0 0) ty.Int
    (node.Call (procedure [] ty.Int (kept 0 0) None) none (line 1))) (more (write (kept 0 0)) none)))) ≡ turn ∷ int 0 ∷ finish Done ∷ []
unfolding digits eval change library_procedure give stop after ◌>>=◌ choose answer made_procedure enter back_in back_to scoped in_frame emit written take_turn get set call_meant
    arguments_on frame_of_call keep_all body_meant call_within new_scope scope_out name_in with_name forms_of forms_from form_here form_in begins
    events_with outcome_with all_events fresh_frame fresh_state
name_before_its_value = refl

-- { let f = (proc(int n -> int); f(n))(1) }: nil is called
call_of_nil : told_with [] 1 (one (node.Block (Some (codes "scope(proc(int -> int) f)")) (more (node.Let (Kept 0 0) from_int
    (node.Call (procedure (param ty.Int (Plain 0) ∷ []) ty.Int (call_kept 0 (local 0) 3) None) (more (num 1) none) (line 1))) none)))
    ≡ turn ∷ finish (Trapped trap.Nil (line 3)) ∷ []
unfolding digits eval change library_procedure give stop after ◌>>=◌ choose answer made_procedure enter back_in back_to scoped in_frame emit written take_turn get set call_meant
    arguments_on frame_of_call keep keep_all body_meant call_within new_scope scope_out name_in with_name forms_of forms_from form_here form_in begins
    events_with outcome_with all_events fresh_frame fresh_state
call_of_nil = refl

-- Counts: a scope of one name 64 bytes, a procedure value 56, from the code's on.
abbrev of_counts : BodyNode
of_counts = one (node.Block n_scope (more (node.Let (Kept 0 0) ty.Int (num 1)) (more (node.Let (Plain 0) no_type (counter 0)) (more (write (num 3)) none))))

scope_and_procedure_are_counted : run_events (over_nothing 0 []) of_counts
    ≡ Out (signed_decimal (pos 3)) (code_weight of_counts + 64 + 56) ∷ Finish Done (code_weight of_counts + 64 + 56) ∷ []
unfolding digits eval change library_procedure give stop after ◌>>=◌ choose answer made_procedure enter back_in scoped emit written take_turn get set
    way_out touched_after touched_weight is_first_touch home_at row reached_from_roots every_root reach walk places_with
    new_scope scope_out name_in with_name forms_of forms_from form_here form_in begins events_with outcome_with all_events fresh_frame fresh_state
scope_and_procedure_are_counted = refl

-- Input.

abbrev read : ℕ → Node
read at = write_string (node.Lib 9 none (line at))

abbrev eof : Node
eof = node.Write (node.Lib 10 none (line 1)) node.Empty false ty.Bool (line 1)

-- write read.a.line(), eof(), read.a.line(), eof(), read.a.line()
abbrev of_lines : BodyNode
of_lines = program (more (read 1) (more eof (more (read 1) (more eof (more (read 5) none)))))

two_lines_are_read : told_with (codes "ab\nc") 0 of_lines
    ≡ out (codes "ab") ∷ out (codes "false") ∷ out (codes "c") ∷ out (codes "true") ∷ finish (Trapped trap.NoInput (line 5)) ∷ []
unfolding digits eval change library_procedure give stop after ◌>>=◌ choose attempt made_text with_input put_input emit written read_line at_end line_of behind_line line_read
    events_with outcome_with all_events fresh_frame fresh_state
two_lines_are_read = refl

-- a newline at the end begins no line more, and a line may be empty
empty_lines_are_read : told_with (codes "\n\n") 0 of_lines ≡ out (codes "false") ∷ out (codes "true") ∷ finish (Trapped trap.NoInput (line 5)) ∷ []
unfolding digits eval change library_procedure give stop after ◌>>=◌ choose attempt made_text with_input put_input emit written read_line at_end line_of behind_line line_read
    events_with outcome_with all_events fresh_frame fresh_state
empty_lines_are_read = refl

-- A program whose commit saves a name that has no value yet, computed: the heap that it leaves is fit.
use Rattle.std.proofs.Common.{inl, inr, ◌≡◌, ℕ, true, List, [], ◌∷◌, refl, pos, arith, Some, None}
use Rattle.std.specs.Prelude.{codes}
use Rattle.std.specs.Fmt.{digits}
use Rattle.ps_heap.specs.text_forms.Forms.{forms_of, forms_from, form_here, form_in, begins}
use Rattle.ps_heap.specs.ps_base.TyView.{TyView}
use Rattle.ps_heap.specs.ps_base.TyView as types
use Rattle.ps_heap.specs.ps_base.declared.line.Line.{Line}
use Rattle.ps_heap.specs.ps_base.declared.operator.Operator.TheVariants.{Add}
use Rattle.ps_soundness.specs.ps_program.declared.place.Place.TheVariants.{Plain, Kept}
use Rattle.ps_soundness.specs.ps_program.Node.{Node, Nodes, none, more, BodyNode, body}
use Rattle.ps_soundness.specs.ps_program.Node as node
use Rattle.ps_soundness.specs.ps_type_text.Texts.{Field, IsNamed, is_name_byte}
use Rattle.ps_soundness.specs.ps_typing.WellTyped as typed
use Rattle.ps_heap.specs.Texts.{is_string}
use Rattle.ps_heap.specs.reaching.Reaching.{reach, walk, without, is_in, first_source}
use Rattle.ps_heap.specs.Values.{Num, Nil}
use Rattle.ps_heap.specs.Tables.{looked_up, entered, next_string, next_int, cardinality}
use Rattle.ps_heap.specs.Objects.{Scope, object_at, is_class, field_of, with_field, table_of, is_one_object}
use Rattle.ps_heap.specs.Scopes.{new_scope, scope_out, name_in, with_name}
use Rattle.ps_heap.specs.References.{next_in}
use Rattle.ps_heap.specs.Databases.{each_once, database_at, database_from, every_root, create_fault, admission}
use Rattle.ps_heap.specs.Held.{nothing_stored, row, home_at, reached_from_roots, places_with, is_among, way_out, touched_after, touched_weight, is_first_touch}
use Rattle.ps_heap.specs.Commit.{decision, are_writable, saved, homes_after, home_after, first_database, sources, source_of, at_home, created_with, after_places, roots_of, newly_reached, starts, loose, loose_from}
use Rattle.ps_heap.specs.Calls.{enter_call, lookup_call, cardinality_call, create_answer, asks_to_create, open_answer, asks_to_open, commit_call}
use Rattle.ps_heap.specs.Library.{library_procedure, heap_call}
use Rattle.ps_heap.specs.Scans.{next_key}
use Rattle.ps_heap.specs.Weights.{routine_weight}
use Rattle.ps_heap.specs.Events.{Event, heap_after}
use Rattle.ps_soundness.specs.ps_meaning.Meaning.{give, stop, after, ◌>>=◌, choose, answer, attempt, answered, put_answer, change, with_heap, made, made_text, made_procedure, enter, back_in, back_to, scoped, in_frame, emit, written, take_turn, get, set}
use Rattle.ps_soundness.specs.ps_meaning.Frames.{arguments_on, frame_of_call, keep, keep_all}
use Rattle.ps_soundness.specs.ps_meaning.Operations.{kept_all}
use Rattle.ps_soundness.specs.ps_meaning.Loops.{for_turns, for_loop, for_meant, scan_turns, scan_next, scan_call, begin_scan}
use Rattle.ps_soundness.specs.ps_meaning.Evaluation.{call_meant, eval}
use Rattle.ps_soundness.specs.ps_meaning.Calls.{body_meant, call_within}
use Rattle.ps_soundness.specs.ps_meaning.Runs.{Given, over_nothing, events_with, outcome_with, all_events, fresh_frame, fresh_state}
use Rattle.ps_soundness.proofs.Telling.{Told}
use Rattle.heap_fit.specs.Bodies.{Level, InScope, IsNameAt, IsFit, by_rule, name, set_name, AreItems, a_clause, a_value, a_literal, at_end, IsFitBody, of_params, unscoped, scoped as opened}
use Rattle.heap_fit.specs.Bodies as fit
use Rattle.heap_fit.proofs.KeptDatabases.{nothing-fit}
use Rattle.fit_soundness.specs.Laws.{program, AreFitHeaps}
use Rattle.fit_soundness.proofs.Runs.{commits_fit}

-- { let b = 1; let d = create.database("c", ""); let f = proc( -> int); { b := b + 1; b }; s.enter("k", d, counter(f)); let e = commit(); let a = "late";
-- let g = proc( -> string); a }, in a scope that keeps `a` and `b`: at the commit `a` has no value yet
abbrev line : Line
line = record { 0 = 1 }

abbrev num : ℕ → Node
num n = node.Int (pos n)

abbrev text : List ℕ → Node
text bytes = node.Text bytes

abbrev b : Node
b = node.Name (Kept 0 1) types.Int

abbrev ticks : BodyNode
ticks = body [] types.Int (node.Block None (more (node.SetName (Kept 0 1) types.Int (node.Arith Add b (num 1) line)) (more b none))) None line

abbrev reads_a : BodyNode
reads_a = body [] types.Str (node.Name (Kept 0 0) types.Str) None line

abbrev of_int : TyView
of_int = types.Proc types.none types.Int

abbrev of_text : TyView
of_text = types.Proc types.none types.Str

abbrev d : Node
d = node.Name (Plain 0) types.Pntr

abbrev counter : List ℕ
counter = codes "counter(proc(->int) next)"

abbrev entered_under : Node
entered_under = node.Lib 4 (more (text (codes "k")) (more d (more (node.Make counter (more (node.Name (Plain 1) of_int) none)) none))) line

abbrev items : Nodes
items =
    more (node.Let (Kept 0 1) types.Int (num 1))
    (more (node.Let (Plain 0) types.Pntr (node.Lib 0 (more (text (codes "c")) (more (text []) none)) line))
    (more (node.Let (Plain 1) of_int (node.Proc ticks))
    (more entered_under
    (more (node.Let (Plain 2) types.Pntr (node.Lib 2 none line))
    (more (node.Let (Kept 0 0) types.Str (text (codes "late")))
    (more (node.Let (Plain 3) of_text (node.Proc reads_a)) none))))))

abbrev tree : Node
tree = node.Block (Some (codes "scope(string a;int b)")) items

abbrev given : Given
given = over_nothing 20 []

abbrev events : List Event
events = events_with routine_weight given (program types.Void tree line)

-- what the commit saves: the scope, in which `a` is nil
it_saves_nil : object_at (heap_after nothing_stored events).objects 0 ≡ Some (Scope (codes "scope(string a;int b)") None (Nil ∷ Num (pos 1) ∷ []))
unfolding digits eval is_one_object give stop after ◌>>=◌ choose answer attempt answered put_answer change with_heap made made_text made_procedure enter back_in back_to scoped in_frame emit
    written take_turn get set for_turns for_loop for_meant scan_turns scan_next scan_call begin_scan call_meant kept_all is_class field_of with_field
    new_scope scope_out name_in with_name forms_of forms_from form_here form_in begins arguments_on frame_of_call keep keep_all body_meant call_within
    library_procedure heap_call next_key next_string next_int table_of looked_up entered cardinality enter_call lookup_call cardinality_call
    create_answer create_fault asks_to_create open_answer admission asks_to_open commit_call decision are_writable each_once saved homes_after home_after
    first_database sources source_of at_home created_with after_places roots_of newly_reached starts loose loose_from database_at database_from
    row home_at reached_from_roots every_root reach walk without is_in first_source next_in places_with is_among way_out touched_after touched_weight
    is_first_touch events_with outcome_with all_events fresh_frame fresh_state
it_saves_nil = refl

-- The program is fit.
abbrev names : List Field
names = record { ty = types.Str; name = codes "a" } ∷ record { ty = types.Int; name = codes "b" } ∷ []

names_named : IsNamed (codes "scope") names
unfolding is_name_byte
names_named = record { class = (refl, (refl, (refl, (refl, (refl, tt))))); each = ((refl, tt), ((refl, tt), tt)) }

abbrev of_counter : List Field
of_counter = record { ty = of_int; name = codes "next" } ∷ []

counter_named : IsNamed (codes "counter") of_counter
unfolding is_name_byte
counter_named = record { class = (refl, (refl, (refl, (refl, (refl, (refl, (refl, tt))))))); each = ((refl, (refl, (refl, (refl, tt)))), tt) }

abbrev level : List ℕ → Level
level declared = record { names = names; declared = declared }

b_there : (declared : List ℕ) → IsNameAt (record { locals = []; levels = level (1 ∷ declared) ∷ [] }) (Kept 0 1) types.Int
b_there declared = inl (refl, (inr (0, refl, inl (refl, refl)), inl refl))

ticks_fit : IsFitBody (level (1 ∷ []) ∷ []) ticks
unfolding row
ticks_fit = of_params unscoped fit.no_more
    (fit.block unscoped (a_clause (set_name (b_there []) (by_rule typed.arith tt (fit.one_more (name (b_there [])) (fit.one_more (by_rule typed.int refl fit.no_more) fit.no_more))))
    (a_clause (name (b_there [])) at_end)))
    (tt, tt) (record { nums_apart = tt; nums_in = tt; refs_apart = tt; refs_in = tt; few = omega arith })

reads_a_fit : IsFitBody (level (0 ∷ 1 ∷ []) ∷ []) reads_a
unfolding row
reads_a_fit = of_params unscoped fit.no_more (name (inl (refl, (inl (refl, refl), inl refl)))) (tt, tt)
    (record { nums_apart = tt; nums_in = tt; refs_apart = tt; refs_in = tt; few = omega arith })

text_fit : (env : InScope) (bytes : List ℕ) → is_string bytes ≡ true → IsFit env (text bytes) types.Str
text_fit env bytes e = by_rule typed.text e fit.no_more

create_fit : (env : InScope) → IsFit env (node.Lib 0 (more (text (codes "c")) (more (text []) none)) line) types.Pntr
create_fit env = by_rule (typed.lib (codes "create.database", refl) (typed.Arguments.one_more (typed.Arguments.one_more typed.Arguments.no_more))) tt
    (fit.one_more (text_fit env (codes "c") refl) (fit.one_more (text_fit env [] refl) fit.no_more))

commit_fit : (env : InScope) → IsFit env (node.Lib 2 none line) types.Pntr
commit_fit env = by_rule (typed.lib (codes "commit", refl) typed.Arguments.no_more) tt fit.no_more

enter_fit : (levels : List Level) → IsFit (record { locals = record { slot = 1; ty = of_int } ∷ record { slot = 0; ty = types.Pntr } ∷ []; levels = levels }) entered_under types.Void
enter_fit levels =
    by_rule (typed.lib (codes "s.enter", refl) (typed.Arguments.one_more (typed.Arguments.one_more (typed.Arguments.one_more typed.Arguments.no_more)))) tt
    (fit.one_more (text_fit _ (codes "k") refl) (fit.one_more (name (inr (inl (refl, refl)))) (fit.one_more
    (by_rule (typed.make (codes "counter", of_counter, refl, refl) (typed.Arguments.one_more typed.Arguments.no_more))
    (record { class = record { name = codes "counter"; fields = of_counter; named = counter_named; text_is = refl; valued = ((tt, tt), tt) }; are = tt })
    (fit.one_more (name (inl (refl, refl))) fit.no_more)) fit.no_more)))

tree_fits : IsFitBody [] (program types.Void tree line)
unfolding row
tree_fits = of_params unscoped fit.no_more
    (fit.block (opened names_named)
    (a_value refl (fit.as_kept (level []) [] refl (inr (0, refl, inl (refl, refl)))) (by_rule typed.int refl fit.no_more)
    (a_value refl fit.as_local (create_fit _)
    (a_literal fit.as_local (fit.literal ticks_fit)
    (a_clause (enter_fit _)
    (a_value refl fit.as_local (commit_fit _)
    (a_value refl (fit.as_kept (level (1 ∷ [])) [] refl (inl (refl, refl))) (text_fit _ (codes "late") refl)
    (a_literal fit.as_local (fit.literal reads_a_fit) at_end))))))))
    (tt, tt)
    (record {
      nums_apart = tt;
      nums_in = tt;
      refs_apart = (((λ e. absurd (omega (arith, e))), ((λ e. absurd (omega (arith, e))), ((λ e. absurd (omega (arith, e))), tt))), (((λ e. absurd (omega (arith, e))), ((λ e. absurd (omega (arith, e))), tt)), (((λ e. absurd (omega (arith, e))), tt), (tt, tt))));
      refs_in = (omega arith, (omega arith, (omega arith, (omega arith, tt))));
      few = omega arith;
    })

-- So what it saves is fit.
it_leaves_fit : Told → AreFitHeaps events
it_leaves_fit told = commits_fit told routine_weight given types.Void tree line nothing-fit tree_fits

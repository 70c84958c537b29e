-- A call of the library over what the machine holds answers what it answers over what the meaning holds, compiled.
use Rattle.std.proofs.Common.{◌≡◌, ℕ, pos, Bool, true, false, List, [], ◌∷◌, ◌++◌, length, set, Option, Some, None, refl, sym, ap, ◌∙◌}
use Rattle.std.specs.Prelude.{codes, suc, if◌then◌else◌}
use Rattle.std.proofs.lemmas.List.{length-map, map-append}
use Rattle.ps_gen.specs.ps_base.declared.trap.Trap.TheVariants.{Overflow}
use Rattle.ps_stepping.specs.ps_heap.Operators.{is_int}
use Rattle.ps_stepping.specs.ps_heap.Texts.{Attempt, Yields, Fails}
use Rattle.ps_stepping.specs.ps_heap.Values.{Value, Num, Nil, Pointer, Procedure, Nothing, word_of, bytes_of}
use Rattle.ps_stepping.specs.ps_heap.Tables.{Key, string_key, int_key, Table, without_keys, on_yield, entered, looked_up, cardinality}
use Rattle.ps_stepping.specs.ps_heap.Objects.{Heap, Object, Structure, Elements, Scope, Keyed, object_at, table_in, table_of, id_of, object_of_value, value_of_object, value_at}
use Rattle.ps_stepping.specs.ps_heap.Weights.{entry_weight, whole_weight}
use Rattle.ps_stepping.specs.ps_heap.Databases.{Database, Numbered, Mode, Opening, Fault, Admission, Admits, Refuses, open_for_writing, create_fault, admission, directory_weight}
use Rattle.ps_stepping.specs.ps_heap.Databases as database
use Rattle.ps_stepping.specs.ps_heap.Held.{Under, Reply, Free, Busy, Stale, Held, counting, made, noted, reading, touching}
use Rattle.ps_stepping.specs.ps_heap.Commit.{Decision, NotWritable, NothingToDo, Saves, decision, is_empty}
use Rattle.ps_stepping.specs.ps_heap.Events.{Event}
use Rattle.ps_stepping.specs.ps_heap.Calls.{Answer, answer_of, new_table, then_try, is_new_entry, table_put, enter_call, lookup_call, number_answered, cardinality_call, error_record, refused, asks_to_create, asks_to_open, reply_in, replies_after, by_reply, if_replied, created_database, create_unless, create_answer, opened_database, open_as, open_by, open_answer, commit_by, commit_call}
use Rattle.ps_stepping.specs.ps_heap.Library.{HeapProcedure, CreateDatabase, OpenDatabase, Commit, MakeTable, EnterString, LookUpString, EnterInt, LookUpInt, Cardinality, text_argument, then_answered, heap_call}
use Rattle.ps_stepping.specs.ps_heap.Scans.{next_in_table, next_key}
use Rattle.ps_code_laws.specs.Compiled.{compiled, compiled_all, compiled_object, compiled_heap, compiled_held, compiled_event, compiled_events, WeighsUnits}
use Rattle.ps_code_laws.proofs.Compiling.{word_compiled, value_compiled, compiled_attempt, compiled_found, object_compiled, object_put, new_compiled, object_held}
use Rattle.ps_code_laws.proofs.HeldCompiling.{touching_compiled, id_compiled}
use Rattle.ps_code_laws.proofs.CommitCompiling.{compiled_decision, decision_compiled}

-- an answer, compiled
abbrev pub compiled_answer : Answer → Answer
compiled_answer a = record { value = compiled a.value; held = compiled_held a.held; events = compiled_events a.events }

bytes_compiled : (v : Value) → bytes_of (compiled v) ≡ bytes_of v
bytes_compiled (Procedure does scope) = refl
bytes_compiled v = refl

text_compiled : (args : List Value) (n : ℕ) → text_argument (compiled_all args) n ≡ text_argument args n
text_compiled args n = ap bytes_of (value_compiled args n) ∙ bytes_compiled (value_at args n)

number_argument : (args : List Value) (n : ℕ) → word_of (value_at (compiled_all args) n) ≡ word_of (value_at args n)
number_argument args n = ap word_of (value_compiled args n) ∙ word_compiled (value_at args n)

-- Tables.

found_table : (found : Option Object) → table_in (compiled_found found) ≡ table_in found
found_table None = refl
found_table (Some (Structure class fields)) = refl
found_table (Some (Elements ty low elements)) = refl
found_table (Some (Scope text parent names)) = refl
found_table (Some (Keyed table)) = refl

pub table_compiled : (heap : Heap) (v : Value) → table_of (compiled_heap heap) (compiled v) ≡ table_of heap v
unfolding table_of
table_compiled heap Nil = refl
table_compiled heap (Pointer id) = ap table_in (object_compiled heap id) ∙ found_table (object_at heap id)
table_compiled heap (Procedure does scope) = refl
table_compiled heap v = refl

-- the next key of a table
pub next_key_compiled : (strings : Bool) (heap : Heap) (v : Value) (last : Option Key) →
    next_key strings (compiled_heap heap) (compiled v) last ≡ next_key strings heap v last
unfolding next_key
next_key_compiled strings heap v last = ap (λ (table : Attempt Table). then_try table (next_in_table strings last)) (table_compiled heap v)

try_compiled : {A B : Type 0} (by : B → B) (a : Attempt A) (machine meant : A → Attempt B) → ((x : A) → machine x ≡ compiled_attempt by (meant x)) →
    then_try a machine ≡ compiled_attempt by (then_try a meant)
try_compiled by (Yields x) machine meant h = h x
try_compiled by (Fails trap) machine meant h = refl

yield_compiled : {A B : Type 0} (by : B → B) (a : Attempt A) (machine meant : A → B) → ((x : A) → machine x ≡ by (meant x)) →
    on_yield a machine ≡ compiled_attempt by (on_yield a meant)
yield_compiled by (Yields x) machine meant h = ap Yields (h x)
yield_compiled by (Fails trap) machine meant h = refl

put_in_table : (table : Value) (key : Key) (before object : Option ℕ) (new : Table) (held : Held) →
    table_put (compiled table) key before object new (compiled_held held) ≡ compiled_held (table_put table key before object new held)
put_in_table table key before object new held =
    let bytes = if is_new_entry before object then entry_weight key else 0 in
    let with_heap : ℕ → Heap → Held = λ id objects. noted (Under id key) (counting bytes (record held { objects = objects })) in
    ap (λ (id : ℕ). with_heap id (set (compiled_heap held.objects) id (Keyed new))) (id_compiled table)
    ∙ ap (with_heap (id_of table)) (object_put held.objects (id_of table) (Keyed new))

denotes : (v : Value) → object_of_value (compiled v) ≡ object_of_value v
denotes (Procedure does scope) = refl
denotes v = refl

enter_compiled : (key : Key) (table v : Value) (held : Held) →
    enter_call key (compiled table) (compiled v) (compiled_held held) ≡ compiled_attempt compiled_held (enter_call key table v held)
unfolding enter_call
enter_compiled key table v held =
    let machine : Option ℕ → Table → Attempt Held = λ object t.
    then_try (looked_up key t) (λ before.
    on_yield (entered key object t) (λ new. table_put (compiled table) key before object new (compiled_held held))) in
    ap (λ (t : Attempt Table). then_try t (machine (object_of_value (compiled v)))) (table_compiled held.objects table)
    ∙ ap (λ (object : Option ℕ). then_try (table_of held.objects table) (machine object)) (denotes v)
    ∙ try_compiled compiled_held (table_of held.objects table) (machine (object_of_value v)) _
    (λ t. try_compiled compiled_held (looked_up key t) _ _
    (λ before. yield_compiled compiled_held (entered key (object_of_value v) t) _ _ (λ new. put_in_table table key before (object_of_value v) new held)))

-- nothing is answered
entered_answer : (a : Attempt Held) → on_yield (compiled_attempt compiled_held a) (answer_of Nothing) ≡ compiled_attempt compiled_answer (on_yield a (answer_of Nothing))
entered_answer (Yields held) = refl
entered_answer (Fails trap) = refl

found_answer : (found : Option ℕ) (held : Held) → WeighsUnits held.weigh →
    answer_of (value_of_object found) (reading (value_of_object found) (compiled_held held))
    ≡ compiled_answer (answer_of (value_of_object found) (reading (value_of_object found) held))
found_answer None held w = ap (answer_of Nil) (touching_compiled [] held w)
found_answer (Some id) held w = ap (answer_of (Pointer id)) (touching_compiled (id ∷ []) held w)

lookup_compiled : (key : Key) (table : Value) (held : Held) → WeighsUnits held.weigh →
    lookup_call key (compiled table) (compiled_held held) ≡ compiled_attempt compiled_answer (lookup_call key table held)
unfolding lookup_call
lookup_compiled key table held w =
    let machine : Table → Attempt Answer = λ t.
    on_yield (looked_up key t) (λ found. answer_of (value_of_object found) (reading (value_of_object found) (compiled_held held))) in
    ap (λ (t : Attempt Table). then_try t machine) (table_compiled held.objects table)
    ∙ try_compiled compiled_answer (table_of held.objects table) machine _
    (λ t. yield_compiled compiled_answer (looked_up key t) _ _ (λ found. found_answer found held w))

number_compiled : (is : Bool) (n : ℕ) (held : Held) →
    (if is then Yields (answer_of (Num (pos n)) (compiled_held held)) else Fails Overflow)
    ≡ compiled_attempt compiled_answer (if is then Yields (answer_of (Num (pos n)) held) else Fails Overflow)
number_compiled true n held = refl
number_compiled false n held = refl

cardinality_compiled : (table : Value) (held : Held) →
    cardinality_call (compiled table) (compiled_held held) ≡ compiled_attempt compiled_answer (cardinality_call table held)
unfolding cardinality_call
cardinality_compiled table held =
    let machine : Table → Attempt Answer = λ t. number_answered (cardinality t) (compiled_held held) in
    ap (λ (t : Attempt Table). then_try t machine) (table_compiled held.objects table)
    ∙ try_compiled compiled_answer (table_of held.objects table) machine _ (λ t. number_compiled (is_int (pos (cardinality t))) (cardinality t) held)

new_table_compiled : (held : Held) → new_table (compiled_held held) ≡ compiled_answer (new_table held)
new_table_compiled held =
    ap (λ (id : ℕ). answer_of (Pointer id) (made (Keyed without_keys) (compiled_held held))) (length-map held.objects compiled_object)
    ∙ ap (answer_of (Pointer (length held.objects))) (object_held (Keyed without_keys) held)

-- Databases.

pub refused_compiled : (context : List ℕ) (fault : Fault) (held : Held) → refused context fault (compiled_held held) ≡ compiled_answer (refused context fault held)
refused_compiled context fault held =
    let it = error_record context fault in
    let answer : ℕ → Heap → Answer = λ id objects.
    answer_of (Pointer id) (counting (whole_weight held.weigh it) (record held { objects = objects })) in
    ap (λ (id : ℕ). answer id (compiled_heap held.objects ++ it ∷ [])) (length-map held.objects compiled_object)
    ∙ ap (answer (length held.objects)) (new_compiled held.objects it)

-- what a call grants is compiled
abbrev Grants : (Held → Answer) → Type 0
Grants grant = (held : Held) → grant (compiled_held held) ≡ compiled_answer (grant held)

by_reply_compiled : (context : List ℕ) (reply : Reply) (grant : Held → Answer) → Grants grant → Grants (by_reply context reply grant)
by_reply_compiled context Free grant h = h
by_reply_compiled context Busy grant h = refused_compiled context database.BusyWriter
by_reply_compiled context Stale grant h = refused_compiled context database.StaleStart

replied : (asks : Bool) (context : List ℕ) (grant : Held → Answer) → Grants grant → (held : Held) →
    (if asks then by_reply context (reply_in held.replies) grant (record (compiled_held held) { replies = replies_after held.replies })
    else grant (compiled_held held))
    ≡ compiled_answer (if asks then by_reply context (reply_in held.replies) grant (record held { replies = replies_after held.replies }) else grant held)
replied true context grant h held = by_reply_compiled context (reply_in held.replies) grant h (record held { replies = replies_after held.replies })
replied false context grant h held = h held

if_replied_compiled : (context : List ℕ) (grant : Held → Answer) → Grants grant → Grants (if_replied context grant)
if_replied_compiled context grant h held = replied (is_empty (open_for_writing held.openings)) context grant h held

created_compiled : (name password : List ℕ) → Grants (created_database name password)
created_compiled name password held =
    let number = suc (length held.directory) in
    let answer : ℕ → Heap → Answer = λ root objects. answer_of (Pointer root) (record held {
      objects = objects;
      directory = held.directory ++ record { name = name; password = password; root = root } ∷ [];
      openings = held.openings ++ record { number = number; mode = database.Writing } ∷ [];
      created = held.created ++ number ∷ [];
    }) in
    ap (λ (root : ℕ). answer root (compiled_heap held.objects ++ Keyed without_keys ∷ [])) (length-map held.objects compiled_object)
    ∙ ap (answer (length held.objects)) (new_compiled held.objects (Keyed without_keys))

create_by_fault : (fault : Option Fault) (name password : List ℕ) → Grants (create_unless fault name password)
create_by_fault (Some fault) name password held = refused_compiled (codes "create.database") fault held
create_by_fault None name password held =
    if_replied_compiled (codes "create.database") (created_database name password) (created_compiled name password)
    (counting (directory_weight (suc (length held.directory))) held)

create_compiled : (name password : List ℕ) → Grants (create_answer name password)
unfolding create_answer
create_compiled name password held = create_by_fault (create_fault held.directory name password) name password held

opened_compiled : (to : Numbered) (mode : Mode) → Grants (opened_database to mode)
opened_compiled to mode held = refl

open_as_compiled : (mode : Mode) (to : Numbered) → Grants (open_as mode to)
open_as_compiled database.Reading to held = refl
open_as_compiled database.Writing to held =
    if_replied_compiled (codes "open.database") (opened_database to database.Writing) (opened_compiled to database.Writing) held

open_by_compiled : (by : Admission) (held : Held) → WeighsUnits held.weigh → open_by by (compiled_held held) ≡ compiled_answer (open_by by held)
open_by_compiled (Refuses fault) held w = refused_compiled (codes "open.database") fault held
open_by_compiled (Admits to mode) held w =
    ap (open_as mode to) (touching_compiled (to.database.root ∷ []) held w) ∙ open_as_compiled mode to (touching (to.database.root ∷ []) held)

open_compiled : (name password mode : List ℕ) (held : Held) → WeighsUnits held.weigh →
    open_answer name password mode (compiled_held held) ≡ compiled_answer (open_answer name password mode held)
unfolding open_answer
open_compiled name password mode held w = open_by_compiled (admission held.directory name password mode) held w

commit_by_compiled : (by : Decision) (held : Held) → commit_by (compiled_decision by) (compiled_held held) ≡ compiled_answer (commit_by by held)
commit_by_compiled NotWritable held = refused_compiled (codes "commit") database.NotWritable held
commit_by_compiled NothingToDo held = refl
commit_by_compiled (Saves heap) held = refl

commit_compiled : (held : Held) → commit_call (compiled_held held) ≡ compiled_answer (commit_call held)
unfolding commit_call
commit_compiled held = ap (λ (by : Decision). commit_by by (compiled_held held)) (decision_compiled held) ∙ commit_by_compiled (decision held) held

-- Calls that ask and are answered afterwards.

answered_compiled : (asked : Answer) (machine meant : Held → Answer) → machine (compiled_held asked.held) ≡ compiled_answer (meant asked.held) →
    then_answered (compiled_answer asked) machine ≡ compiled_answer (then_answered asked meant)
answered_compiled asked machine meant h =
    ap (λ (a : Answer). record a { events = compiled_events asked.events ++ a.events }) h
    ∙ ap (λ (events : List Event). record (compiled_answer (meant asked.held)) { events = events })
    (sym (map-append compiled_event asked.events (meant asked.held).events))

create_asked : (name password : List ℕ) (held : Held) →
    then_answered (asks_to_create name (compiled_held held)) (create_answer name password)
    ≡ compiled_answer (then_answered (asks_to_create name held) (create_answer name password))
unfolding asks_to_create
create_asked name password held =
    answered_compiled (asks_to_create name held) (create_answer name password) (create_answer name password)
    (create_compiled name password (asks_to_create name held).held)

open_asked : (name password mode : List ℕ) (held : Held) → WeighsUnits held.weigh →
    then_answered (asks_to_open name mode (compiled_held held)) (open_answer name password mode)
    ≡ compiled_answer (then_answered (asks_to_open name mode held) (open_answer name password mode))
unfolding asks_to_open
open_asked name password mode held w =
    answered_compiled (asks_to_open name mode held) (open_answer name password mode) (open_answer name password mode)
    (open_compiled name password mode (asks_to_open name mode held).held w)

enter_arguments : (key : Key) (args : List Value) (held : Held) →
    on_yield (enter_call key (value_at (compiled_all args) 1) (value_at (compiled_all args) 2) (compiled_held held)) (answer_of Nothing)
    ≡ compiled_attempt compiled_answer (on_yield (enter_call key (value_at args 1) (value_at args 2) held) (answer_of Nothing))
enter_arguments key args held =
    let enters : Value → Value → Attempt Answer = λ table v. on_yield (enter_call key table v (compiled_held held)) (answer_of Nothing) in
    ap (λ (table : Value). enters table (value_at (compiled_all args) 2)) (value_compiled args 1)
    ∙ ap (enters (compiled (value_at args 1))) (value_compiled args 2)
    ∙ ap (λ (a : Attempt Held). on_yield a (answer_of Nothing)) (enter_compiled key (value_at args 1) (value_at args 2) held)
    ∙ entered_answer (enter_call key (value_at args 1) (value_at args 2) held)

pub heap_call_compiled : (of : HeapProcedure) (args : List Value) (held : Held) → WeighsUnits held.weigh →
    heap_call of (compiled_all args) (compiled_held held) ≡ compiled_attempt compiled_answer (heap_call of args held)
unfolding heap_call
heap_call_compiled CreateDatabase args held w =
    let call : List ℕ → List ℕ → Attempt Answer = λ name password.
    Yields (then_answered (asks_to_create name (compiled_held held)) (create_answer name password)) in
    ap (λ (name : List ℕ). call name (text_argument (compiled_all args) 1)) (text_compiled args 0)
    ∙ ap (call (text_argument args 0)) (text_compiled args 1)
    ∙ ap Yields (create_asked (text_argument args 0) (text_argument args 1) held)
heap_call_compiled OpenDatabase args held w =
    let call : List ℕ → List ℕ → List ℕ → Attempt Answer = λ name password mode.
    Yields (then_answered (asks_to_open name mode (compiled_held held)) (open_answer name password mode)) in
    ap (λ (name : List ℕ). call name (text_argument (compiled_all args) 1) (text_argument (compiled_all args) 2)) (text_compiled args 0)
    ∙ ap (λ (password : List ℕ). call (text_argument args 0) password (text_argument (compiled_all args) 2)) (text_compiled args 1)
    ∙ ap (call (text_argument args 0) (text_argument args 1)) (text_compiled args 2)
    ∙ ap Yields (open_asked (text_argument args 0) (text_argument args 1) (text_argument args 2) held w)
heap_call_compiled Commit args held w = ap Yields (commit_compiled held)
heap_call_compiled MakeTable args held w = ap Yields (new_table_compiled held)
heap_call_compiled EnterString args held w =
    ap (λ (k : Key). on_yield (enter_call k (value_at (compiled_all args) 1) (value_at (compiled_all args) 2) (compiled_held held)) (answer_of Nothing))
    (ap string_key (text_compiled args 0))
    ∙ enter_arguments (string_key (text_argument args 0)) args held
heap_call_compiled LookUpString args held w =
    let call : List ℕ → Value → Attempt Answer = λ key table. lookup_call (string_key key) table (compiled_held held) in
    ap (λ (key : List ℕ). call key (value_at (compiled_all args) 1)) (text_compiled args 0)
    ∙ ap (call (text_argument args 0)) (value_compiled args 1)
    ∙ lookup_compiled (string_key (text_argument args 0)) (value_at args 1) held w
heap_call_compiled EnterInt args held w =
    ap (λ (k : Key). on_yield (enter_call k (value_at (compiled_all args) 1) (value_at (compiled_all args) 2) (compiled_held held)) (answer_of Nothing))
    (ap int_key (number_argument args 0))
    ∙ enter_arguments (int_key (word_of (value_at args 0))) args held
heap_call_compiled LookUpInt args held w =
    ap (λ (k : Key). lookup_call k (value_at (compiled_all args) 1) (compiled_held held)) (ap int_key (number_argument args 0))
    ∙ ap (λ (table : Value). lookup_call (int_key (word_of (value_at args 0))) table (compiled_held held)) (value_compiled args 1)
    ∙ lookup_compiled (int_key (word_of (value_at args 0))) (value_at args 1) held w
heap_call_compiled Cardinality args held w =
    ap (λ (table : Value). cardinality_call table (compiled_held held)) (value_compiled args 0) ∙ cardinality_compiled (value_at args 0) held

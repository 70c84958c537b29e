-- What calls over tables and databases keep: where the procedures of the heap have units, they still do afterwards, and so do those of what is answered and of what is saved.
use Rattle.std.proofs.Common.{◌≡◌, ℕ, suc, Bool, true, false, ◌&&◌, not, List, [], ◌∷◌, ◌++◌, length, Option, Some, None, refl, subst}
use Rattle.std.specs.Prelude.{codes, pos, if◌then◌else◌}
use Rattle.ps_gen.specs.ps_base.declared.trap.Trap.TheVariants.{Overflow}
use Rattle.ps_heap.specs.Operators.{is_int}
use Rattle.ps_heap.specs.Values.{Value, Num, Nothing, word_of}
use Rattle.ps_heap.specs.Texts.{Attempt, Yields, Fails}
use Rattle.ps_heap.specs.Tables.{Key, string_key, int_key, Table, without_keys, on_yield, entered, looked_up, cardinality}
use Rattle.ps_heap.specs.Objects.{Keyed, table_of, id_of, object_of_value, value_of_object, value_at}
use Rattle.ps_heap.specs.Databases.{Numbered, Mode, Reading, Writing, open_for_writing, Fault, BusyWriter, StaleStart, create_fault, Admission, Admits, Refuses, admission, directory_weight}
use Rattle.ps_heap.specs.Databases as database
use Rattle.ps_heap.specs.Held.{Reply, Free, Busy, Stale, Held, StoredHeap, counting, touching, reading}
use Rattle.ps_heap.specs.Commit.{Decision, NotWritable, NothingToDo, Saves, saved, decision, are_writable, is_empty}
use Rattle.ps_heap.specs.Calls.{Answer, answer_of, then_try, new_table, table_put, enter_call, lookup_call, cardinality_call, error_record, refused, asks_to_create, asks_to_open, reply_in, replies_after, by_reply, if_replied, created_database, create_unless, create_answer, opened_database, open_as, open_by, open_answer, commit_by, commit_call}
use Rattle.ps_heap.specs.Library.{HeapProcedure, CreateDatabase, OpenDatabase, Commit, MakeTable, EnterString, LookUpString, EnterInt, LookUpInt, Cardinality, text_argument, heap_call}
use Rattle.ps_heap.specs.Events.{Event, Out, Turn, Ask, Finish}
use Rattle.ps_heap.specs.Events as event
use Rattle.ps_soundness.proofs.Fields.{all_set}
use Rattle.ps_code_laws.specs.Literals.{HasUnits, HaveUnits}
use Rattle.unit_meaning.proofs.Objects.{InObject, OnYield, yield_if, in_table, in_with_new}

-- each commit among these events saves a heap whose procedures have units
abbrev pub SaveUnits : List Event → Type 0
SaveUnits [] = Unit {0}
SaveUnits (event.Commit heap counted ∷ events) = HaveUnits heap.objects × SaveUnits events
SaveUnits (other ∷ events) = SaveUnits events

pub saves_append : (xs ys : List Event) → SaveUnits xs → SaveUnits ys → SaveUnits (xs ++ ys)
saves_append [] ys h k = k
saves_append (event.Commit heap counted ∷ xs) ys h k = (h.0, saves_append xs ys h.1 k)
saves_append (Out bytes counted ∷ xs) ys h k = saves_append xs ys h k
saves_append (Turn counted ∷ xs) ys h k = saves_append xs ys h k
saves_append (Ask for_what counted ∷ xs) ys h k = saves_append xs ys h k
saves_append (Finish e counted ∷ xs) ys h k = saves_append xs ys h k

-- an answer of which this is so
abbrev pub IsKept : Held → Answer → Type 0
IsKept before a = (HaveUnits before.objects → HaveUnits a.held.objects × SaveUnits a.events) × HasUnits a.value

-- what is held after a reply
abbrev after_reply : Held → Held
after_reply h = record h { replies = replies_after h.replies }

-- what goes on with what an attempt yields
tried : {A B : Type 0} (Is : B → Type 0) (a : Attempt A) (next : A → Attempt B) → ((x : A) → OnYield Is (next x)) → OnYield Is (then_try a next)
tried Is (Yields x) next h = h x
tried Is (Fails trap) next h = tt

mapped : {A B : Type 0} (Is : B → Type 0) (a : Attempt A) (f : A → B) → OnYield (λ (x : A). Is (f x)) a → OnYield Is (on_yield a f)
mapped Is (Yields x) f h = h
mapped Is (Fails trap) f h = tt

yields_each : {A : Type 0} (Is : A → Type 0) (a : Attempt A) → ((x : A) → Is x) → OnYield Is a
yields_each Is (Yields x) h = h x
yields_each Is (Fails trap) h = tt

-- Tables.

new_table_kept : (h : Held) → IsKept h (new_table h)
new_table_kept h = (λ k. (in_with_new h.objects (Keyed without_keys) k tt, tt), tt)

put_kept : (key : Key) (table : Value) (before object : Option ℕ) (new : Table) (h : Held) →
    IsKept h (answer_of Nothing (table_put table key before object new h))
put_kept key table before object new h = (λ k. (all_set InObject h.objects (id_of table) (Keyed new) k (in_table new), tt), tt)

-- what is held after a call that answers nothing
abbrev IsHeld : Held → Held → Type 0
IsHeld before h = IsKept before (answer_of Nothing h)

enter_held : (key : Key) (table v : Value) (h : Held) → OnYield (IsHeld h) (enter_call key table v h)
unfolding enter_call
enter_held key table v h =
    tried (IsHeld h) (table_of h.objects table) _ (λ t. tried (IsHeld h) (looked_up key t) _ (λ before.
    mapped (IsHeld h) (entered key (object_of_value v) t) (λ new. table_put table key before (object_of_value v) new h)
    (yields_each _ (entered key (object_of_value v) t) (λ new. put_kept key table before (object_of_value v) new h))))

enter_kept : (key : Key) (table v : Value) (h : Held) → OnYield (IsKept h) (on_yield (enter_call key table v h) (answer_of Nothing))
enter_kept key table v h = mapped (IsKept h) (enter_call key table v h) (answer_of Nothing) (enter_held key table v h)

found_units : (found : Option ℕ) → HasUnits (value_of_object found)
found_units None = tt
found_units (Some id) = tt

look_up_kept : (key : Key) (table : Value) (h : Held) → OnYield (IsKept h) (lookup_call key table h)
unfolding lookup_call
look_up_kept key table h =
    tried (IsKept h) (table_of h.objects table) _ (λ t.
    mapped (IsKept h) (looked_up key t) (λ found. answer_of (value_of_object found) (reading (value_of_object found) h))
    (yields_each _ (looked_up key t) (λ found. (λ k. (k, tt), found_units found))))

cardinality_kept : (table : Value) (h : Held) → OnYield (IsKept h) (cardinality_call table h)
unfolding cardinality_call
cardinality_kept table h =
    tried (IsKept h) (table_of h.objects table) _ (λ t.
    yield_if (IsKept h) (is_int (pos (cardinality t))) (answer_of (Num (pos (cardinality t))) h) Overflow (λ k. (k, tt), tt))

-- Databases.

refused_kept : (context : List ℕ) (fault : Fault) (h : Held) → IsKept h (refused context fault h)
refused_kept context fault h = (λ k. (in_with_new h.objects (error_record context fault) k (tt, (tt, (tt, tt))), tt), tt)

replied_kept : (context : List ℕ) (grant : Held → Answer) → ((h : Held) → IsKept h (grant h)) → (h : Held) → IsKept h (if_replied context grant h)
replied_kept context grant granted h = by (is_empty (open_for_writing h.openings))
  where
    by_its : (reply : Reply) → IsKept h (by_reply context reply grant (after_reply h))
    by_its Free = granted (after_reply h)
    by_its Busy = refused_kept context BusyWriter (after_reply h)
    by_its Stale = refused_kept context StaleStart (after_reply h)

    by : (b : Bool) → IsKept h (if b then by_reply context (reply_in h.replies) grant (after_reply h) else grant h)
    by true = by_its (reply_in h.replies)
    by false = granted h

created_kept : (name password : List ℕ) (h : Held) → IsKept h (created_database name password h)
created_kept name password h = (λ k. (in_with_new h.objects (Keyed without_keys) k tt, tt), tt)

create_kept : (name password : List ℕ) (h : Held) → IsKept h (create_answer name password h)
unfolding create_answer
create_kept name password h = of (create_fault h.directory name password)
  where
    of : (fault : Option Fault) → IsKept h (create_unless fault name password h)
    of (Some fault) = refused_kept (codes "create.database") fault h
    of None =
        replied_kept (codes "create.database") (created_database name password) (λ g. created_kept name password g)
        (counting (directory_weight (suc (length h.directory))) h)

opened_kept : (to : Numbered) (mode : Mode) (h : Held) → IsKept h (opened_database to mode h)
opened_kept to mode h = (λ k. (k, tt), tt)

opened_as_kept : (mode : Mode) (to : Numbered) (h : Held) → IsKept h (open_as mode to h)
opened_as_kept Reading to h = opened_kept to Reading h
opened_as_kept Writing to h = replied_kept (codes "open.database") (opened_database to Writing) (λ g. opened_kept to Writing g) h

open_kept : (name password mode : List ℕ) (h : Held) → IsKept h (open_answer name password mode h)
unfolding open_answer
open_kept name password mode h = of (admission h.directory name password mode)
  where
    of : (a : Admission) → IsKept h (open_by a h)
    of (Refuses fault) = refused_kept (codes "open.database") fault h
    of (Admits to m) = opened_as_kept m to (touching (to.database.root ∷ []) h)

-- what a commit saves is what is held
saves_as : (refused nothing : Bool) (s heap : StoredHeap) →
    (if refused then NotWritable else if nothing then NothingToDo else Saves s) ≡ Saves heap → s ≡ heap
saves_as true nothing s heap e = absurd cc
saves_as false true s heap e = absurd cc
saves_as false false s heap e = cc

saves_held : (h : Held) (heap : StoredHeap) → decision h ≡ Saves heap → saved h ≡ heap
unfolding decision
saves_held h heap e =
    saves_as (not (are_writable h.homes (open_for_writing h.openings) h.assigned)) (is_empty h.assigned && is_empty h.created) (saved h) heap e

commit_kept : (h : Held) → IsKept h (commit_call h)
unfolding commit_call saved
commit_kept h = of (decision h) refl
  where
    of : (d : Decision) → decision h ≡ d → IsKept h (commit_by d h)
    of NotWritable e = refused_kept (codes "commit") database.NotWritable h
    of NothingToDo e = (λ k. (k, tt), tt)
    of (Saves heap) e = (λ k. (k, (subst (λ (s : StoredHeap). HaveUnits s.objects) (saves_held h heap e) k, tt)), tt)

-- each call over tables and databases
pub heap_call_kept : (of : HeapProcedure) (args : List Value) (h : Held) → OnYield (IsKept h) (heap_call of args h)
unfolding heap_call asks_to_create asks_to_open
heap_call_kept CreateDatabase args h =
    create_kept (text_argument args 0) (text_argument args 1) (asks_to_create (text_argument args 0) h).held
heap_call_kept OpenDatabase args h =
    open_kept (text_argument args 0) (text_argument args 1) (text_argument args 2) (asks_to_open (text_argument args 0) (text_argument args 2) h).held
heap_call_kept Commit args h = commit_kept h
heap_call_kept MakeTable args h = new_table_kept h
heap_call_kept EnterString args h = enter_kept (string_key (text_argument args 0)) (value_at args 1) (value_at args 2) h
heap_call_kept LookUpString args h = look_up_kept (string_key (text_argument args 0)) (value_at args 1) h
heap_call_kept EnterInt args h = enter_kept (int_key (word_of (value_at args 0))) (value_at args 1) (value_at args 2) h
heap_call_kept LookUpInt args h = look_up_kept (int_key (word_of (value_at args 0))) (value_at args 1) h
heap_call_kept Cardinality args h = cardinality_kept (value_at args 0) h

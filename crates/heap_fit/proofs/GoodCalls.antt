-- Calls of the library keep what a run asks of its databases, and commit fit ones.
use Rattle.std.proofs.Common.{Bool, true, false, ◌≡◌, ℕ, suc, ◌<◌, ◌≤◌, pos, List, [], ◌∷◌, length, refl, sym, ap, ◌∙◌, subst, arith, Option, Some, None, if◌then◌else◌}
use Rattle.std.specs.Prelude.{codes}
use Rattle.std.proofs.lemmas.List.{length-append, length-set}
use Rattle.ps_heap.specs.ps_base.declared.trap.Trap.TheVariants.{Overflow}
use Rattle.ps_heap.specs.Operators.{is_int}
use Rattle.ps_heap.specs.Values.{Value, Num, Pointer, Nothing, word_of}
use Rattle.ps_heap.specs.Texts.{Attempt, Yields, Fails, is_same_text}
use Rattle.ps_heap.specs.Tables.{Key, string_key, int_key, Table, without_keys, on_yield, looked_up, cardinality}
use Rattle.ps_heap.specs.Objects.{Object, Keyed, table_of, value_at, value_of_object}
use Rattle.ps_heap.specs.References.{value_ids, values_ids, object_ids, next_in}
use Rattle.ps_heap.specs.Weights.{own_weight, whole_weight}
use Rattle.ps_heap.specs.Databases.{Numbered, Mode, Reading, Writing, Fault, BusyWriter, StaleStart, create_fault, mode_named, named, Admission, Admits, Refuses, admitted_as, admitted_to, admission, open_for_writing, directory_weight}
use Rattle.ps_heap.specs.Databases as database
use Rattle.ps_heap.specs.Held.{Held, Reply, Free, Busy, Stale, counting, new_id, with_object, reading, touching}
use Rattle.ps_heap.specs.Commit.{Decision, NotWritable, NothingToDo, Saves, decision, is_empty}
use Rattle.ps_heap.specs.Calls.{Answer, answer_of, then_try, new_table, enter_call, lookup_call, number_answered, cardinality_call, error_record, refused, asks_to_create, asks_to_open, reply_in, replies_after, by_reply, if_replied, created_database, create_unless, create_answer, opened_database, open_by, open_answer, commit_by, commit_call}
use Rattle.ps_heap.specs.reaching.Reaching.{IsIn}
use Rattle.ps_heap.specs.Library.{HeapProcedure, CreateDatabase, OpenDatabase, Commit, MakeTable, EnterString, LookUpString, EnterInt, LookUpInt, Cardinality, then_answered, text_argument, heap_call}
use Rattle.database_meaning.proofs.CallLaws.{table-at}
use Rattle.database_meaning.proofs.SameAnswers.{named-root}
use Rattle.database_meaning.proofs.SameTables.{looked-in}
use Rattle.heap_fit.specs.Kept.{KeepsDatabases, AreFitCommits}
use Rattle.heap_fit.proofs.KeptDatabases.{counts-keeps, makes-keeps, touches-keeps, enters-keeps, entered-is, asks_create-keeps, asks_open-keeps}
use Rattle.heap_fit.proofs.KeptCalls.{creates-keeps, opens-keeps, commits-keeps, saves-fit, root-there}
use Rattle.heap_fit.proofs.GoodSteps.{Low, low_none, low_one, low_at, OnYields, IsGoodAnswer}

-- what a call answers, over at least as many objects as before
record Grown (n : ℕ) (a : Answer) : Type 0 where
  long : n ≤ length a.held.objects
  low : Low (length a.held.objects) (value_ids a.value)
  commits : AreFitCommits a.events

of_grown : (h : Held) (a : Answer) → KeepsDatabases a.held → Grown (length h.objects) a → IsGoodAnswer h a
of_grown h a keeps g = record { keeps = keeps; long = g.long; low = g.low; commits = g.commits }

-- an object is made and answered
grown_made : (o : Object) (bytes : ℕ) (h : Held) → Grown (length h.objects) (answer_of (Pointer (new_id h)) (counting bytes (with_object o h)))
grown_made o bytes h =
    let longer = length-append h.objects (o ∷ []) in record { long = omega (arith, longer); low = low_one (omega (arith, longer)); commits = tt }

grown_refused : (context : List ℕ) (fault : Fault) (h : Held) → Grown (length h.objects) (refused context fault h)
grown_refused context fault h = grown_made (error_record context fault) (whole_weight h.weigh (error_record context fault)) h

grown_by_reply : (context : List ℕ) (reply : Reply) (grant : Held → Answer) (h : Held) → Grown (length h.objects) (grant h) → Grown (length h.objects) (by_reply context reply grant h)
grown_by_reply context Free grant h g = g
grown_by_reply context Busy grant h g = grown_refused context BusyWriter h
grown_by_reply context Stale grant h g = grown_refused context StaleStart h

grown_if_replied : (context : List ℕ) (grant : Held → Answer) (h : Held) → Grown (length h.objects) (grant h) → Grown (length h.objects) (grant (record h { replies = replies_after h.replies }))
    → Grown (length h.objects) (if_replied context grant h)
grown_if_replied context grant h g also = go (is_empty (open_for_writing h.openings))
  where
    go : (b : Bool) → Grown (length h.objects) (if b then by_reply context (reply_in h.replies) grant (record h { replies = replies_after h.replies }) else grant h)
    go true = grown_by_reply context (reply_in h.replies) grant (record h { replies = replies_after h.replies }) also
    go false = g

grown_created : (name password : List ℕ) (h : Held) → Grown (length h.objects) (created_database name password h)
grown_created name password h =
    let longer = length-append h.objects (Keyed without_keys ∷ []) in record { long = omega (arith, longer); low = low_one (omega (arith, longer)); commits = tt }

grown_create : (name password : List ℕ) (h : Held) → Grown (length h.objects) (create_answer name password h)
unfolding create_answer
grown_create name password h = go (create_fault h.directory name password)
  where
    go : (fault : Option Fault) → Grown (length h.objects) (create_unless fault name password h)
    go (Some fault) = grown_refused (codes "create.database") fault h
    go None =
        let now = counting (directory_weight (suc (length h.directory))) h in
        grown_if_replied (codes "create.database") (created_database name password) now (grown_created name password now) (grown_created name password (record now { replies = replies_after now.replies }))

grown_opened : (to : Numbered) (mode : Mode) (h : Held) → to.database.root < length h.objects → Grown (length h.objects) (opened_database to mode h)
grown_opened to mode h l = record { long = omega arith; low = low_one l; commits = tt }

grown_open : (name password mode : List ℕ) (h : Held) → KeepsDatabases h → Grown (length h.objects) (open_answer name password mode h)
unfolding open_answer admission
grown_open name password mode h k = go (named h.directory name) refl
  where
    as_mode : (to : Numbered) → to.database.root < length h.objects → (m : Mode) → Grown (length h.objects) (open_by (Admits to m) h)
    as_mode to l Reading = grown_opened to Reading (touching (to.database.root ∷ []) h) l
    as_mode to l Writing =
        let now = touching (to.database.root ∷ []) h in
        grown_if_replied (codes "open.database") (opened_database to Writing) now (grown_opened to Writing now l) (grown_opened to Writing (record now { replies = replies_after now.replies }) l)

    admitted : (to : Numbered) → to.database.root < length h.objects → (m : Option Mode) → Grown (length h.objects) (open_by (admitted_as to m) h)
    admitted to l None = grown_refused (codes "open.database") database.BadMode h
    admitted to l (Some m) = as_mode to l m

    pass : (to : Numbered) → to.database.root < length h.objects → (t : Bool) → Grown (length h.objects) (open_by (if t then admitted_as to (mode_named mode) else Refuses database.WrongPassword) h)
    pass to l true = admitted to l (mode_named mode)
    pass to l false = grown_refused (codes "open.database") database.WrongPassword h

    go : (found : Option Numbered) → named h.directory name ≡ found → Grown (length h.objects) (open_by (admitted_to found password mode) h)
    go None e = grown_refused (codes "open.database") database.NoSuchDatabase h
    go (Some to) e = pass to (root-there h k h.directory k.databases to.database.root (named-root 1 h.directory name to e)) (is_same_text to.database.password password)

commit_good : (h : Held) → KeepsDatabases h → Grown (length h.objects) (commit_call h)
unfolding commit_call
commit_good h k = go (decision h) refl
  where
    go : (d : Decision) → decision h ≡ d → Grown (length h.objects) (commit_by d h)
    go NotWritable e = grown_refused (codes "commit") database.NotWritable h
    go NothingToDo e = record { long = omega arith; low = low_none; commits = tt }
    go (Saves heap) e = record { long = omega arith; low = low_none; commits = (saves-fit h heap k e, tt) }

-- Tables.

enter_good : (key : Key) (table v : Value) (h : Held) → KeepsDatabases h → Low (length h.objects) (value_ids v) → OnYields (IsGoodAnswer h) (on_yield (enter_call key table v h) (answer_of Nothing))
enter_good key table v h k low = go (enter_call key table v h) refl
  where
    go : (a : Attempt Held) → enter_call key table v h ≡ a → OnYields (IsGoodAnswer h) (on_yield a (answer_of Nothing))
    go (Yields new) e =
        let it = entered-is key table v h new e in
        let same : length new.objects ≡ length h.objects = ap (λ n. length n.objects) it.is ∙ length-set h.objects it.id (Keyed it.now) in
        record { keeps = enters-keeps key table v h new k low e; long = omega (arith, same); low = low_none; commits = tt }
    go (Fails trap) e = tt

lookup_good : (key : Key) (table : Value) (h : Held) → KeepsDatabases h → OnYields (IsGoodAnswer h) (lookup_call key table h)
unfolding lookup_call next_in
lookup_good key table h k = go (table_of h.objects table) refl
  where
    answered : (found : Option ℕ) → ((id : ℕ) → found ≡ Some id → id < length h.objects) → IsGoodAnswer h (answer_of (value_of_object found) (reading (value_of_object found) h))
    answered None low = record { keeps = touches-keeps [] h k; long = omega arith; low = low_none; commits = tt }
    answered (Some id) low = record { keeps = touches-keeps (id ∷ []) h k; long = omega arith; low = low_one (low id refl); commits = tt }

    found : (t : Table) (l : Attempt (Option ℕ)) → table_of h.objects table ≡ Yields t → looked_up key t ≡ l
        → OnYields (IsGoodAnswer h) (on_yield l (λ x. answer_of (value_of_object x) (reading (value_of_object x) h)))
    found t (Fails trap) is e = tt
    found t (Yields x) is e =
        let at = table-at h.objects table t is in
        answered x (λ id same. k.right.there at.id id (subst (λ o. IsIn id (object_ids o)) (sym at.there) (looked-in key t id (e ∙ ap Yields same))))

    go : (a : Attempt Table) → table_of h.objects table ≡ a
        → OnYields (IsGoodAnswer h) (then_try a (λ t. on_yield (looked_up key t) (λ x. answer_of (value_of_object x) (reading (value_of_object x) h))))
    go (Yields t) is = found t (looked_up key t) is refl
    go (Fails trap) is = tt

cardinality_good : (table : Value) (h : Held) → KeepsDatabases h → OnYields (IsGoodAnswer h) (cardinality_call table h)
unfolding cardinality_call
cardinality_good table h k = go (table_of h.objects table)
  where
    number : (n : ℕ) (b : Bool) → OnYields (IsGoodAnswer h) (if b then Yields (answer_of (Num (pos n)) h) else Fails Overflow)
    number n true = record { keeps = k; long = omega arith; low = low_none; commits = tt }
    number n false = tt

    go : (a : Attempt Table) → OnYields (IsGoodAnswer h) (then_try a (λ t. number_answered (cardinality t) h))
    go (Yields t) = number (cardinality t) (is_int (pos (cardinality t)))
    go (Fails trap) = tt

-- All of them.

create_good : (name password : List ℕ) (h : Held) → KeepsDatabases h → IsGoodAnswer h (then_answered (asks_to_create name h) (create_answer name password))
unfolding asks_to_create
create_good name password h k =
    let now = (asks_to_create name h).held in
    let g = grown_create name password now in
    record { keeps = creates-keeps name password now (asks_create-keeps name h k); long = g.long; low = g.low; commits = g.commits }

open_good : (name password mode : List ℕ) (h : Held) → KeepsDatabases h → IsGoodAnswer h (then_answered (asks_to_open name mode h) (open_answer name password mode))
unfolding asks_to_open
open_good name password mode h k =
    let now = (asks_to_open name mode h).held in
    let known = asks_open-keeps name mode h k in
    let g = grown_open name password mode now known in
    record { keeps = opens-keeps name password mode now known; long = g.long; low = g.low; commits = g.commits }

pub heap_call_good : (of : HeapProcedure) (args : List Value) (h : Held) → KeepsDatabases h → Low (length h.objects) (values_ids args) → OnYields (IsGoodAnswer h) (heap_call of args h)
unfolding heap_call
heap_call_good CreateDatabase args h k low = create_good (text_argument args 0) (text_argument args 1) h k
heap_call_good OpenDatabase args h k low = open_good (text_argument args 0) (text_argument args 1) (text_argument args 2) h k
heap_call_good Commit args h k low = of_grown h (commit_call h) (commits-keeps h k) (commit_good h k)
heap_call_good MakeTable args h k low =
    of_grown h (new_table h) (counts-keeps (own_weight (Keyed without_keys)) (with_object (Keyed without_keys) h) (makes-keeps (Keyed without_keys) h k (λ x l. absurd l))) (grown_made (Keyed without_keys) (own_weight (Keyed without_keys)) h)
heap_call_good EnterString args h k low = enter_good (string_key (text_argument args 0)) (value_at args 1) (value_at args 2) h k (low_at args 2 low)
heap_call_good LookUpString args h k low = lookup_good (string_key (text_argument args 0)) (value_at args 1) h k
heap_call_good EnterInt args h k low = enter_good (int_key (word_of (value_at args 0))) (value_at args 1) (value_at args 2) h k (low_at args 2 low)
heap_call_good LookUpInt args h k low = lookup_good (int_key (word_of (value_at args 0))) (value_at args 1) h k
heap_call_good Cardinality args h k low = cardinality_good (value_at args 0) h k

-- Calls over tables and databases answer values of their types, over what is typed, and leave it typed.
use Rattle.std.proofs.Common.{◌≡◌, ℕ, suc, Bool, true, false, List, [], ◌∷◌, ◌++◌, length, Option, Some, None, refl, sym, subst, set, if◌then◌else◌}
use Rattle.std.specs.Prelude.{codes, pos, not, ◌&&◌}
use Rattle.ps_meaning.specs.ps_base.TyView.{TyView, TyViews}
use Rattle.ps_meaning.specs.ps_base.TyView as types
use Rattle.ps_meaning.specs.ps_base.declared.trap.Trap.TheVariants.{Overflow}
use Rattle.ps_meaning.specs.ps_typing.Library.{error_fields, one, two, three}
use Rattle.ps_heap.specs.Operators.{is_int}
use Rattle.ps_heap.specs.Texts.{Attempt, Yields, Fails, is_same_text, is_string}
use Rattle.ps_heap.specs.Values.{Value, Num, Text, Nil, Pointer, Nothing, word_of, bytes_of}
use Rattle.ps_heap.specs.Tables.{Key, string_key, int_key, Table, without_keys, on_yield, entered, looked_up, cardinality}
use Rattle.ps_heap.specs.Objects.{Heap, Object, Keyed, object_at, value_at, object_of_value, value_of_object}
use Rattle.ps_heap.specs.Databases.{Database, Directory, Numbered, named_from, admitted_as, admitted_to, admission, mode_named, Mode, Reading, Writing, open_for_writing, Fault, BadName, BadPassword, Exists, TooMany, NoSuchDatabase, WrongPassword, BadMode, BusyWriter, StaleStart, fault_text, explain_text, create_fault, Admission, Admits, Refuses, directory_weight}
use Rattle.ps_heap.specs.Databases as database
use Rattle.ps_heap.specs.Held.{Held, StoredHeap, Reply, Free, Busy, Stale, counting, with_object, touching, reading}
use Rattle.ps_heap.specs.Commit.{Decision, NotWritable, NothingToDo, Saves, saved, decision, are_writable, is_empty}
use Rattle.ps_heap.specs.Calls.{Answer, answer_of, then_try, new_table, table_put, enter_call, lookup_call, cardinality_call, error_record, refused, asks_to_create, asks_to_open, reply_in, replies_after, by_reply, if_replied, created_database, create_unless, create_answer, opened_database, open_as, open_by, open_answer, commit_by, commit_call}
use Rattle.ps_heap.specs.Library.{HeapProcedure, CreateDatabase, OpenDatabase, Commit, MakeTable, EnterString, LookUpString, EnterInt, LookUpInt, Cardinality, text_argument, heap_call}
use Rattle.ps_soundness.specs.Over.{IsTypedHeap, IsOf, IsTypedObject, IsTypedHeld}
use Rattle.ps_soundness.specs.Shapes.{IsPointedAt, at_table, at_structure, IsTypedTable, AreRoots, Grows}
use Rattle.ps_soundness.proofs.Notion.{Kind}
use Rattle.ps_soundness.proofs.Operators.{OnYield}
use Rattle.ps_soundness.proofs.Growing.{grows_not, grows_then, grows_new, at_new, typed_new, roots_kept}
use Rattle.ps_soundness.proofs.Calling.{ValuesOf}
use Rattle.ps_soundness.proofs.Combining.{IsAnswered}
use Rattle.ps_soundness.proofs.Errors.{error_named}
use Rattle.ps_soundness.proofs.Tables.{MayBePointed, IsKey, entered_typed, looked_typed, on_table, table_put_typed}

-- what an answer has where it is of a type
abbrev Answers : (kind : Kind) → Held → TyView → Answer → Type 0
Answers kind before ty a = IsAnswered kind before ty a

-- what a call answers after a change that keeps all, it answers before it
pub from_there : (kind : Kind) (h now : Held) (ty : TyView) (a : Answer) → Grows h.objects now.objects → Answers kind now ty a → Answers kind h ty a
from_there kind h now ty a g is = record { grows = grows_then h.objects now.objects a.held.objects g is.grows; typed = is.typed; value = is.value; commits = is.commits }

-- Error records.

fault_is_string : (fault : Fault) → is_string (fault_text fault) ≡ true
fault_is_string BadName = refl
fault_is_string BadPassword = refl
fault_is_string Exists = refl
fault_is_string TooMany = refl
fault_is_string NoSuchDatabase = refl
fault_is_string WrongPassword = refl
fault_is_string BadMode = refl
fault_is_string database.NotWritable = refl
fault_is_string BusyWriter = refl
fault_is_string StaleStart = refl

explain_is_string : (fault : Fault) → is_string (explain_text fault) ≡ true
explain_is_string BadName = refl
explain_is_string BadPassword = refl
explain_is_string Exists = refl
explain_is_string TooMany = refl
explain_is_string NoSuchDatabase = refl
explain_is_string WrongPassword = refl
explain_is_string BadMode = refl
explain_is_string database.NotWritable = refl
explain_is_string BusyWriter = refl
explain_is_string StaleStart = refl

error_typed : (kind : Kind) (heap : Heap) (context : List ℕ) (fault : Fault) → is_string context ≡ true → IsTypedObject kind.asked heap (error_record context fault)
error_typed kind heap context fault is = record {
  name = codes "error.record";
  fields = error_fields;
  named = error_named;
  class_is = refl;
  nonvoid = (refl, (refl, (refl, tt)));
  are = (is, (fault_is_string fault, (explain_is_string fault, tt)));
}

-- a new object, with a pointer to it
with_new_typed : (kind : Kind) (h : Held) (object : Object) → IsTypedHeld kind.asked h → IsTypedObject kind.asked h.objects object → IsTypedHeld kind.asked (with_object object h)
with_new_typed kind h object typed of = (typed_new kind h.objects object typed.0 of, roots_kept h.objects (h.objects ++ object ∷ []) (grows_new h.objects object) h.directory typed.1)

refused_typed : (kind : Kind) (context : List ℕ) (fault : Fault) (h : Held) → is_string context ≡ true → IsTypedHeld kind.asked h → Answers kind h types.Pntr (refused context fault h)
refused_typed kind context fault h is typed = record {
  grows = grows_new h.objects (error_record context fault);
  typed = with_new_typed kind h (error_record context fault) typed (error_typed kind h.objects context fault is);
  value = at_structure _ _ (at_new h.objects (error_record context fault));
  commits = tt;
}

-- Tables.

new_table_typed : (kind : Kind) (h : Held) → IsTypedHeld kind.asked h → Answers kind h types.Pntr (new_table h)
new_table_typed kind h typed = record {
  grows = grows_new h.objects (Keyed without_keys);
  typed = with_new_typed kind h (Keyed without_keys) typed (tt, kind.no_keys);
  value = at_table without_keys (at_new h.objects (Keyed without_keys));
  commits = tt;
}

-- what a pntr puts under a key
put_is_pointed : (kind : Kind) (heap : Heap) (v : Value) → IsOf kind.asked heap types.Pntr v → MayBePointed heap (object_of_value v)
put_is_pointed kind heap Nil h = tt
put_is_pointed kind heap (Pointer id) h = h
put_is_pointed kind heap v h = absurd h

found_is_pntr : (kind : Kind) (heap : Heap) (found : Option ℕ) → MayBePointed heap found → IsOf kind.asked heap types.Pntr (value_of_object found)
found_is_pntr kind heap None h = tt
found_is_pntr kind heap (Some id) h = h

enter_typed : (kind : Kind) (key : Key) (table v : Value) (h : Held) → IsTypedHeld kind.asked h → IsKey key → IsOf kind.asked h.objects types.Pntr v →
    OnYield (Answers kind h types.Void) (on_yield (enter_call key table v h) (answer_of Nothing))
unfolding enter_call
enter_typed kind key table v h typed is of =
    then_answers (enter_call key table v h)
    (on_table kind (λ (new : Held). Answers kind h types.Void (answer_of Nothing new)) h.objects table _ typed.0 (λ id t table_is there t_typed.
    of_before id t table_is there t_typed (looked_up key t)))
  where
    then_answers : (a : Attempt Held) → OnYield (λ (new : Held). Answers kind h types.Void (answer_of Nothing new)) a →
        OnYield (Answers kind h types.Void) (on_yield a (answer_of Nothing))
    then_answers (Yields new) k = k
    then_answers (Fails trap) k = tt

    put : (id : ℕ) (t new : Table) (before : Option ℕ) → table ≡ Pointer id → object_at h.objects id ≡ Some (Keyed t) → IsTypedTable h.objects new → kind.asked.tabled new →
        Answers kind h types.Void (answer_of Nothing (table_put table key before (object_of_value v) new h))
    put id t new before table_is there new_typed tabled =
        subst (λ (w : Value). Answers kind h types.Void (answer_of Nothing (table_put w key before (object_of_value v) new h))) (sym table_is)
        (let next = table_put_typed kind h.objects id t new there typed.0 new_typed tabled in
        record { grows = next.0; typed = (next.1, roots_kept h.objects (set h.objects id (Keyed new)) next.0 h.directory typed.1); value = tt; commits = tt })

    of_new : (id : ℕ) (t : Table) (before : Option ℕ) → table ≡ Pointer id → object_at h.objects id ≡ Some (Keyed t) → kind.asked.tabled t → (a : Attempt Table) → entered key (object_of_value v) t ≡ a →
        OnYield (IsTypedTable h.objects) a →
        OnYield (λ (new : Held). Answers kind h types.Void (answer_of Nothing new)) (on_yield a (λ (new : Table). table_put table key before (object_of_value v) new h))
    of_new id t before table_is there tabled (Yields new) e k =
        put id t new before table_is there k (kind.entered_kept key (object_of_value v) t new tabled e)
    of_new id t before table_is there tabled (Fails trap) e k = tt

    of_before : (id : ℕ) (t : Table) → table ≡ Pointer id → object_at h.objects id ≡ Some (Keyed t) → IsTypedTable h.objects t × kind.asked.tabled t → (a : Attempt (Option ℕ)) →
        OnYield (λ (new : Held). Answers kind h types.Void (answer_of Nothing new))
        (then_try a (λ before. on_yield (entered key (object_of_value v) t) (λ new. table_put table key before (object_of_value v) new h)))
    of_before id t table_is there t_typed (Yields before) =
        of_new id t before table_is there t_typed.1 (entered key (object_of_value v) t) refl
        (entered_typed h.objects key (object_of_value v) t is (put_is_pointed kind h.objects v of) t_typed.0)
    of_before id t table_is there t_typed (Fails trap) = tt

lookup_typed : (kind : Kind) (key : Key) (table : Value) (h : Held) → IsTypedHeld kind.asked h → OnYield (Answers kind h types.Pntr) (lookup_call key table h)
unfolding lookup_call
lookup_typed kind key table h typed =
    on_table kind (Answers kind h types.Pntr) h.objects table _ typed.0 (λ id t table_is there t_typed. of (looked_up key t) (looked_typed h.objects key t t_typed.0))
  where
    of : (a : Attempt (Option ℕ)) → OnYield (MayBePointed h.objects) a →
        OnYield (Answers kind h types.Pntr) (on_yield a (λ found. answer_of (value_of_object found) (reading (value_of_object found) h)))
    of (Yields found) k = record { grows = grows_not h.objects; typed = typed; value = found_is_pntr kind h.objects found k; commits = tt }
    of (Fails trap) k = tt

cardinality_typed : (kind : Kind) (table : Value) (h : Held) → IsTypedHeld kind.asked h → OnYield (Answers kind h types.Int) (cardinality_call table h)
unfolding cardinality_call
cardinality_typed kind table h typed =
    on_table kind (Answers kind h types.Int) h.objects table _ typed.0 (λ id t table_is there t_typed. of (cardinality t) (is_int (pos (cardinality t))) refl)
  where
    of : (n : ℕ) (b : Bool) → is_int (pos n) ≡ b → OnYield (Answers kind h types.Int) (if b then Yields (answer_of (Num (pos n)) h) else Fails Overflow)
    of n true e = record { grows = grows_not h.objects; typed = typed; value = e; commits = tt }
    of n false e = tt

-- Databases.

create_is_string : is_string (codes "create.database") ≡ true
create_is_string = refl

open_is_string : is_string (codes "open.database") ≡ true
open_is_string = refl

-- a call that has no fault is granted, or refused by its reply
replied_typed : (kind : Kind) (context : List ℕ) (grant : Held → Answer) (h : Held) → is_string context ≡ true →
    Answers kind h types.Pntr (grant h) → ((replies : List Reply) → Answers kind h types.Pntr (grant (record h { replies = replies }))) → IsTypedHeld kind.asked h →
    Answers kind h types.Pntr (if_replied context grant h)
replied_typed kind context grant h is at_once granted typed = by (is_empty (open_for_writing h.openings))
  where
    by_its : (reply : Reply) → Answers kind h types.Pntr (by_reply context reply grant (record h { replies = replies_after h.replies }))
    by_its Free = granted (replies_after h.replies)
    by_its Busy =
        let now : Held = record h { replies = replies_after h.replies } in
        from_there kind h now types.Pntr (refused context BusyWriter now) (grows_not h.objects) (refused_typed kind context BusyWriter now is typed)
    by_its Stale =
        let now : Held = record h { replies = replies_after h.replies } in
        from_there kind h now types.Pntr (refused context StaleStart now) (grows_not h.objects) (refused_typed kind context StaleStart now is typed)

    by : (b : Bool) → Answers kind h types.Pntr (if b then by_reply context (reply_in h.replies) grant (record h { replies = replies_after h.replies }) else grant h)
    by true = by_its (reply_in h.replies)
    by false = at_once

roots_more : (heap : Heap) (directory : Directory) (d : Database) → AreRoots heap directory → IsPointedAt heap d.root → AreRoots heap (directory ++ d ∷ [])
roots_more heap [] d h at = (at, tt)
roots_more heap (e ∷ es) d h at = (h.0, roots_more heap es d h.1 at)

created_typed : (kind : Kind) (name password : List ℕ) (h : Held) → IsTypedHeld kind.asked h → Answers kind h types.Pntr (created_database name password h)
created_typed kind name password h typed =
    let next = with_new_typed kind h (Keyed without_keys) typed (tt, kind.no_keys) in
    let root = at_table without_keys (at_new h.objects (Keyed without_keys)) in
    record {
      grows = grows_new h.objects (Keyed without_keys);
      typed = (next.0, roots_more (h.objects ++ Keyed without_keys ∷ []) h.directory (record { name = name; password = password; root = length h.objects }) next.1 root);
      value = root;
      commits = tt;
    }

create_typed : (kind : Kind) (name password : List ℕ) (h : Held) → IsTypedHeld kind.asked h → Answers kind h types.Pntr (create_answer name password h)
unfolding create_answer
create_typed kind name password h typed = of (create_fault h.directory name password)
  where
    of : (fault : Option Fault) → Answers kind h types.Pntr (create_unless fault name password h)
    of (Some fault) = refused_typed kind (codes "create.database") fault h create_is_string typed
    of None =
        let now = counting (directory_weight (suc (length h.directory))) h in
        from_there kind h now types.Pntr (if_replied (codes "create.database") (created_database name password) now) (grows_not h.objects)
        (replied_typed kind (codes "create.database") (created_database name password) now create_is_string (created_typed kind name password now typed)
        (λ replies. from_there kind now (record now { replies = replies }) types.Pntr (created_database name password (record now { replies = replies }))
        (grows_not h.objects) (created_typed kind name password (record now { replies = replies }) typed)) typed)

-- what is named in a directory has its root
abbrev HasRoot : Heap → Option Numbered → Type 0
HasRoot heap None = Unit {0}
HasRoot heap (Some to) = IsPointedAt heap to.database.root

named_has : (heap : Heap) (n : ℕ) (directory : Directory) (name : List ℕ) → AreRoots heap directory → HasRoot heap (named_from n directory name)
named_has heap n [] name h = tt
named_has heap n (d ∷ ds) name h = by (is_same_text d.name name) (named_has heap (suc n) ds name h.1)
  where
    by : (b : Bool) → HasRoot heap (named_from (suc n) ds name) → HasRoot heap (if b then Some (record { number = n; database = d }) else named_from (suc n) ds name)
    by true more = h.0
    by false more = more

abbrev AdmitsRoot : Heap → Admission → Type 0
AdmitsRoot heap (Refuses fault) = Unit {0}
AdmitsRoot heap (Admits to mode) = IsPointedAt heap to.database.root

admitted_has : (heap : Heap) (found : Option Numbered) (password mode : List ℕ) → HasRoot heap found → AdmitsRoot heap (admitted_to found password mode)
admitted_has heap None password mode h = tt
admitted_has heap (Some d) password mode h = by (is_same_text d.database.password password)
  where
    as_mode : (m : Option Mode) → AdmitsRoot heap (admitted_as d m)
    as_mode None = tt
    as_mode (Some m) = h

    by : (b : Bool) → AdmitsRoot heap (if b then admitted_as d (mode_named mode) else Refuses WrongPassword)
    by true = as_mode (mode_named mode)
    by false = tt

opened_typed : (kind : Kind) (to : Numbered) (mode : Mode) (h : Held) → IsTypedHeld kind.asked h → IsPointedAt h.objects to.database.root → Answers kind h types.Pntr (opened_database to mode h)
opened_typed kind to mode h typed at = record { grows = grows_not h.objects; typed = typed; value = at; commits = tt }

open_typed : (kind : Kind) (name password mode : List ℕ) (h : Held) → IsTypedHeld kind.asked h → Answers kind h types.Pntr (open_answer name password mode h)
unfolding open_answer admission
open_typed kind name password mode h typed =
    of (admission h.directory name password mode)
    (admitted_has h.objects (named_from 1 h.directory name) password mode (named_has h.objects 1 h.directory name typed.1))
  where
    of_mode : (m : Mode) (to : Numbered) → IsPointedAt h.objects to.database.root → Answers kind h types.Pntr (open_as m to (touching (to.database.root ∷ []) h))
    of_mode Reading to at =
        from_there kind h (touching (to.database.root ∷ []) h) types.Pntr _ (grows_not h.objects) (opened_typed kind to Reading (touching (to.database.root ∷ []) h) typed at)
    of_mode Writing to at =
        from_there kind h (touching (to.database.root ∷ []) h) types.Pntr _ (grows_not h.objects)
        (replied_typed kind (codes "open.database") (opened_database to Writing) (touching (to.database.root ∷ []) h) open_is_string
        (opened_typed kind to Writing (touching (to.database.root ∷ []) h) typed at)
        (λ replies. record { grows = grows_not h.objects; typed = typed; value = at; commits = tt }) typed)

    of : (a : Admission) → AdmitsRoot h.objects a → Answers kind h types.Pntr (open_by a h)
    of (Refuses fault) at = refused_typed kind (codes "open.database") fault h open_is_string typed
    of (Admits to m) at = of_mode m to at

-- Commits.

-- what a commit saves is what is held
saves_as : (refused nothing : Bool) (s heap : StoredHeap) →
    (if refused then NotWritable else if nothing then NothingToDo else Saves s) ≡ Saves heap → s ≡ heap
saves_as true nothing s heap e = absurd cc
saves_as false true s heap e = absurd cc
saves_as false false s heap e = cc

saves_held : (h : Held) (heap : StoredHeap) → decision h ≡ Saves heap → saved h ≡ heap
unfolding decision
saves_held h heap e =
    saves_as (not (are_writable h.homes (open_for_writing h.openings) h.assigned)) (is_empty h.assigned && is_empty h.created) (saved h) heap e

commit_typed : (kind : Kind) (h : Held) → IsTypedHeld kind.asked h → Answers kind h types.Pntr (commit_call h)
unfolding commit_call saved
commit_typed kind h typed = of (decision h) refl
  where
    of : (d : Decision) → decision h ≡ d → Answers kind h types.Pntr (commit_by d h)
    of NotWritable e = refused_typed kind (codes "commit") database.NotWritable h refl typed
    of NothingToDo e = record { grows = grows_not h.objects; typed = typed; value = tt; commits = tt }
    of (Saves heap) e = record {
      grows = grows_not h.objects;
      typed = typed;
      value = tt;
      commits = (subst (λ (s : StoredHeap). IsTypedHeap kind.asked s.objects × AreRoots s.objects s.directory) (saves_held h heap e) typed, tt);
    }

-- Each procedure, by what it takes and gives.

abbrev pub taken_by : HeapProcedure → TyViews
taken_by CreateDatabase = two types.Str types.Str
taken_by OpenDatabase = three types.Str types.Str types.Str
taken_by Commit = types.none
taken_by MakeTable = types.none
taken_by EnterString = three types.Str types.Pntr types.Pntr
taken_by LookUpString = two types.Str types.Pntr
taken_by EnterInt = three types.Int types.Pntr types.Pntr
taken_by LookUpInt = two types.Int types.Pntr
taken_by Cardinality = one types.Pntr

abbrev pub given_by : HeapProcedure → TyView
given_by EnterString = types.Void
given_by EnterInt = types.Void
given_by Cardinality = types.Int
given_by of = types.Pntr

string_is_key : (kind : Kind) (heap : Heap) (v : Value) → IsOf kind.asked heap types.Str v → is_string (bytes_of v) ≡ true
string_is_key kind heap (Text bytes) h = h
string_is_key kind heap v h = absurd h

int_is_key : (kind : Kind) (heap : Heap) (v : Value) → IsOf kind.asked heap types.Int v → is_int (word_of v) ≡ true
int_is_key kind heap (Num z) h = h
int_is_key kind heap v h = absurd h

-- the key and the value of three arguments
three_are : (kind : Kind) (heap : Heap) (key : TyView) (vs : List Value) → ValuesOf kind heap (three key types.Pntr types.Pntr) vs →
    IsOf kind.asked heap key (value_at vs 0) × IsOf kind.asked heap types.Pntr (value_at vs 2)
three_are kind heap key [] h = absurd h
three_are kind heap key (a ∷ []) h = absurd h.1
three_are kind heap key (a ∷ b ∷ []) h = absurd h.1.1
three_are kind heap key (a ∷ b ∷ c ∷ []) h = (h.0, h.1.1.0)
three_are kind heap key (a ∷ b ∷ c ∷ d ∷ vs) h = absurd h.1.1.1

pub heap_call_typed : (kind : Kind) (of : HeapProcedure) (args : List Value) (h : Held) → IsTypedHeld kind.asked h → ValuesOf kind h.objects (taken_by of) args →
    OnYield (IsAnswered kind h (given_by of)) (heap_call of args h)
unfolding heap_call asks_to_create asks_to_open
heap_call_typed kind CreateDatabase args h typed are =
    let a = create_typed kind (text_argument args 0) (text_argument args 1) (asks_to_create (text_argument args 0) h).held typed in
    record { grows = a.grows; typed = a.typed; value = a.value; commits = a.commits }
heap_call_typed kind OpenDatabase args h typed are =
    let a = open_typed kind (text_argument args 0) (text_argument args 1) (text_argument args 2) (asks_to_open (text_argument args 0) (text_argument args 2) h).held typed in
    record { grows = a.grows; typed = a.typed; value = a.value; commits = a.commits }
heap_call_typed kind Commit args h typed are = commit_typed kind h typed
heap_call_typed kind MakeTable args h typed are = new_table_typed kind h typed
heap_call_typed kind EnterString args h typed are =
    let both = three_are kind h.objects types.Str args are in
    enter_typed kind (string_key (text_argument args 0)) (value_at args 1) (value_at args 2) h typed (string_is_key kind h.objects (value_at args 0) both.0) both.1
heap_call_typed kind LookUpString args h typed are = lookup_typed kind (string_key (text_argument args 0)) (value_at args 1) h typed
heap_call_typed kind EnterInt args h typed are =
    let both = three_are kind h.objects types.Int args are in
    enter_typed kind (int_key (word_of (value_at args 0))) (value_at args 1) (value_at args 2) h typed (int_is_key kind h.objects (value_at args 0) both.0) both.1
heap_call_typed kind LookUpInt args h typed are = lookup_typed kind (int_key (word_of (value_at args 0))) (value_at args 1) h typed
heap_call_typed kind Cardinality args h typed are = cardinality_typed kind (value_at args 0) h typed

-- Calls over tables and databases answer the same where code weighs more, and count as much or more.
use Rattle.std.proofs.Common.{◌≡◌, ℕ, zero, suc, ◌+◌, ◌≤◌, Bool, true, false, List, [], ◌∷◌, ◌++◌, Option, Some, None, refl, sym, ap, ◌∙◌, subst, arith, length, if◌then◌else◌}
use Rattle.std.specs.Prelude.{◌&&◌, not, codes, pos}
use Rattle.ps_heap.specs.reaching.Reaching.{Source, first_source}
use Rattle.ps_heap.specs.ps_base.declared.trap.Trap.TheVariants.{Overflow}
use Rattle.ps_heap.specs.Operators.{is_int}
use Rattle.ps_heap.specs.Texts.{Attempt, Yields, Fails}
use Rattle.ps_heap.specs.Values.{Value, Num, Nil, Pointer, Nothing, Routine}
use Rattle.ps_heap.specs.Tables.{Key, string_key, int_key, Table, without_keys, on_yield, entered, looked_up, cardinality}
use Rattle.ps_heap.specs.Objects.{Keyed, object_at, table_of, object_of_value, value_of_object, value_at}
use Rattle.ps_heap.specs.References.{next_in}
use Rattle.ps_heap.specs.Weights.{own_weight, entry_weight, whole_weight}
use Rattle.ps_heap.specs.Databases.{Numbered, Mode, Reading, Writing, Fault, create_fault, Admission, Admits, Refuses, admission, open_for_writing, directory_weight, full_directory_weight}
use Rattle.ps_heap.specs.Databases as database
use Rattle.ps_heap.specs.Held.{Held, Reply, Free, Busy, Stale, home_at, row, StoredHeap, counting, touching, reading}
use Rattle.ps_heap.specs.Commit.{Decision, NotWritable, NothingToDo, Saves, decision, is_empty, are_writable, saved, homes_after, home_after, or_else, created_with, first_database, sources, source_of, loose, loose_from}
use Rattle.ps_heap.specs.Calls.{Answer, answer_of, then_try, is_new_entry, new_table, table_put, enter_call, lookup_call, number_answered, cardinality_call, error_record, refused, directory_known, asks_to_create, asks_to_open, reply_in, replies_after, by_reply, if_replied, created_database, create_unless, create_answer, opened_database, open_as, open_by, open_answer, commit_by, commit_call}
use Rattle.ps_heap.specs.Library.{HeapProcedure, CreateDatabase, OpenDatabase, Commit, MakeTable, EnterString, LookUpString, EnterInt, LookUpInt, Cardinality, then_answered, text_argument, heap_call}
use Rattle.count_laws.specs.Heavier.{Weighs, AreLess}
use Rattle.count_laws.proofs.Like.{less_append, heavier, touching_changes, AnswerLike, heavier_answer, AttemptLike, CallLike}

-- one answer is like another
abbrev IsAnswerLike : Answer → Answer → Type 0
IsAnswerLike a x = (r : AnswerLike a) × (x ≡ heavier_answer a r)

yields_like : (a x : Answer) → IsAnswerLike a x → AttemptLike (Yields a) (Yields x)
yields_like a x (r, e) = (r, ap Yields e)

-- Tables.

new_table_like : (h : Held) (n : ℕ) (w : Routine → ℕ) → h.counted ≤ n → Weighs h.weigh w → IsAnswerLike (new_table h) (new_table (heavier n w h))
new_table_like h n w less weighs =
    (record { events = []; counted = n + own_weight (Keyed without_keys); weigh = w; are = tt; less = omega (arith, less); weighs = weighs }, refl)

put_like : (table : Value) (key : Key) (before object : Option ℕ) (new : Table) (h : Held) (n : ℕ) (w : Routine → ℕ) → h.counted ≤ n → Weighs h.weigh w →
    IsAnswerLike (answer_of Nothing (table_put table key before object new h)) (answer_of Nothing (table_put table key before object new (heavier n w h)))
put_like table key before object new h n w less weighs = (
  record {
    events = [];
    counted = n + (if is_new_entry before object then entry_weight key else 0);
    weigh = w;
    are = tt;
    less = omega (arith, less);
    weighs = weighs;
  },
  refl,
)

enter_like : (key : Key) (table v : Value) → CallLike (λ h. on_yield (enter_call key table v h) (answer_of Nothing))
unfolding enter_call
enter_like key table v h n w less weighs = of_table (table_of h.objects table)
  where
    of_new : (before : Option ℕ) (a : Attempt Table) →
        AttemptLike (on_yield (on_yield a (λ new. table_put table key before (object_of_value v) new h)) (answer_of Nothing))
        (on_yield (on_yield a (λ new. table_put table key before (object_of_value v) new (heavier n w h))) (answer_of Nothing))
    of_new before (Yields new) = yields_like _ _ (put_like table key before (object_of_value v) new h n w less weighs)
    of_new before (Fails trap) = refl

    of_before : (t : Table) (a : Attempt (Option ℕ)) →
        AttemptLike (on_yield (then_try a (λ before. on_yield (entered key (object_of_value v) t) (λ new. table_put table key before (object_of_value v) new h))) (answer_of Nothing))
        (on_yield (then_try a (λ before. on_yield (entered key (object_of_value v) t) (λ new. table_put table key before (object_of_value v) new (heavier n w h)))) (answer_of Nothing))
    of_before t (Yields before) = of_new before (entered key (object_of_value v) t)
    of_before t (Fails trap) = refl

    of_table : (a : Attempt Table) →
        AttemptLike (on_yield (then_try a (λ t. then_try (looked_up key t) (λ before.
        on_yield (entered key (object_of_value v) t) (λ new. table_put table key before (object_of_value v) new h)))) (answer_of Nothing))
        (on_yield (then_try a (λ t. then_try (looked_up key t) (λ before.
        on_yield (entered key (object_of_value v) t) (λ new. table_put table key before (object_of_value v) new (heavier n w h))))) (answer_of Nothing))
    of_table (Yields t) = of_before t (looked_up key t)
    of_table (Fails trap) = refl

found_like : (v : Value) (h : Held) (n : ℕ) (w : Routine → ℕ) → h.counted ≤ n → Weighs h.weigh w →
    IsAnswerLike (answer_of v (reading v h)) (answer_of v (reading v (heavier n w h)))
found_like v h n w less weighs =
    let k = touching_changes _ h n w less weighs in
    (record { events = []; counted = k.counted; weigh = k.weigh; are = tt; less = k.less; weighs = k.weighs }, refl)

lookup_like : (key : Key) (table : Value) → CallLike (lookup_call key table)
unfolding lookup_call
lookup_like key table h n w less weighs = of_table (table_of h.objects table)
  where
    of_found : (a : Attempt (Option ℕ)) →
        AttemptLike (on_yield a (λ found. answer_of (value_of_object found) (reading (value_of_object found) h)))
        (on_yield a (λ found. answer_of (value_of_object found) (reading (value_of_object found) (heavier n w h))))
    of_found (Yields found) = yields_like _ _ (found_like (value_of_object found) h n w less weighs)
    of_found (Fails trap) = refl

    of_table : (a : Attempt Table) →
        AttemptLike (then_try a (λ t. on_yield (looked_up key t) (λ found. answer_of (value_of_object found) (reading (value_of_object found) h))))
        (then_try a (λ t. on_yield (looked_up key t) (λ found. answer_of (value_of_object found) (reading (value_of_object found) (heavier n w h)))))
    of_table (Yields t) = of_found (looked_up key t)
    of_table (Fails trap) = refl

-- the same answer, with what is held
same_like : (v : Value) (h : Held) (n : ℕ) (w : Routine → ℕ) → h.counted ≤ n → Weighs h.weigh w → IsAnswerLike (answer_of v h) (answer_of v (heavier n w h))
same_like v h n w less weighs = (record { events = []; counted = n; weigh = w; are = tt; less = less; weighs = weighs }, refl)

cardinality_like : (table : Value) → CallLike (cardinality_call table)
unfolding cardinality_call
cardinality_like table h n w less weighs = of_table (table_of h.objects table)
  where
    of_number : (count : ℕ) (b : Bool) →
        AttemptLike (if b then Yields (answer_of (Num (pos count)) h) else Fails Overflow) (if b then Yields (answer_of (Num (pos count)) (heavier n w h)) else Fails Overflow)
    of_number count true = yields_like _ _ (same_like (Num (pos count)) h n w less weighs)
    of_number count false = refl

    of_table : (a : Attempt Table) → AttemptLike (then_try a (λ t. number_answered (cardinality t) h)) (then_try a (λ t. number_answered (cardinality t) (heavier n w h)))
    of_table (Yields t) = of_number (cardinality t) (is_int (pos (cardinality t)))
    of_table (Fails trap) = refl

-- Databases.

refused_like : (context : List ℕ) (fault : Fault) (h : Held) (n : ℕ) (w : Routine → ℕ) → h.counted ≤ n → Weighs h.weigh w →
    IsAnswerLike (refused context fault h) (refused context fault (heavier n w h))
refused_like context fault h n w less weighs = (
  record {
    events = [];
    counted = n + whole_weight w (error_record context fault);
    weigh = w;
    are = tt;
    less = omega (arith, less);
    weighs = weighs;
  },
  refl,
)

abbrev GrantLike : (Held → Answer) → Type 0
GrantLike grant = (h : Held) (n : ℕ) (w : Routine → ℕ) → h.counted ≤ n → Weighs h.weigh w → IsAnswerLike (grant h) (grant (heavier n w h))

replied_like : (context : List ℕ) (grant : Held → Answer) → GrantLike grant → GrantLike (if_replied context grant)
replied_like context grant g h n w less weighs = by (is_empty (open_for_writing h.openings))
  where
    by_its : (reply : Reply) → IsAnswerLike (by_reply context reply grant (record h { replies = replies_after h.replies }))
        (by_reply context reply grant (record (heavier n w h) { replies = replies_after h.replies }))
    by_its Free = g (record h { replies = replies_after h.replies }) n w less weighs
    by_its Busy = refused_like context database.BusyWriter (record h { replies = replies_after h.replies }) n w less weighs
    by_its Stale = refused_like context database.StaleStart (record h { replies = replies_after h.replies }) n w less weighs

    by : (b : Bool) → IsAnswerLike (if b then by_reply context (reply_in h.replies) grant (record h { replies = replies_after h.replies }) else grant h)
        (if b then by_reply context (reply_in h.replies) grant (record (heavier n w h) { replies = replies_after h.replies }) else grant (heavier n w h))
    by true = by_its (reply_in h.replies)
    by false = g h n w less weighs

created_like : (name password : List ℕ) → GrantLike (created_database name password)
created_like name password h n w less weighs = (record { events = []; counted = n; weigh = w; are = tt; less = less; weighs = weighs }, refl)

create_like : (name password : List ℕ) → GrantLike (create_answer name password)
unfolding create_answer
create_like name password h n w less weighs = of (create_fault h.directory name password)
  where
    of : (fault : Option Fault) → IsAnswerLike (create_unless fault name password h) (create_unless fault name password (heavier n w h))
    of (Some fault) = refused_like (codes "create.database") fault h n w less weighs
    of None =
        let own = directory_weight (suc (length h.directory)) in
        replied_like (codes "create.database") (created_database name password) (created_like name password) (counting own h) (n + own) w (omega (arith, less)) weighs

opened_like : (to : Numbered) (mode : Mode) → GrantLike (opened_database to mode)
opened_like to mode h n w less weighs = (record { events = []; counted = n; weigh = w; are = tt; less = less; weighs = weighs }, refl)

open_like : (name password mode : List ℕ) → GrantLike (open_answer name password mode)
unfolding open_answer
open_like name password mode h n w less weighs = of (admission h.directory name password mode)
  where
    as_mode : (m : Mode) (to : Numbered) → IsAnswerLike (open_as m to (touching (to.database.root ∷ []) h)) (open_as m to (touching (to.database.root ∷ []) (heavier n w h)))
    as_mode Reading to =
        let k = touching_changes (to.database.root ∷ []) h n w less weighs in
        opened_like to Reading (touching (to.database.root ∷ []) h) k.counted w k.less weighs
    as_mode Writing to =
        let k = touching_changes (to.database.root ∷ []) h n w less weighs in
        replied_like (codes "open.database") (opened_database to Writing) (opened_like to Writing) (touching (to.database.root ∷ []) h) k.counted w k.less weighs

    of : (a : Admission) → IsAnswerLike (open_by a h) (open_by a (heavier n w h))
    of (Refuses fault) = refused_like (codes "open.database") fault h n w less weighs
    of (Admits to m) = as_mode m to

-- a call that asks, and is answered afterwards
asked_like : (ask grant : Held → Answer) → GrantLike ask → GrantLike grant → GrantLike (λ h. then_answered (ask h) grant)
asked_like ask grant a g h n w less weighs =
    let first = a h n w less weighs in
    let second = g (ask h).held first.0.counted first.0.weigh first.0.less first.0.weighs in (
      record {
        events = first.0.events ++ second.0.events;
        counted = second.0.counted;
        weigh = second.0.weigh;
        are = less_append (ask h).events first.0.events (grant (ask h).held).events second.0.events first.0.are second.0.are;
        less = second.0.less;
        weighs = second.0.weighs;
      },
      ap (λ (x : Answer). then_answered x grant) first.1
          ∙ ap (λ (x : Answer). record x { events = first.0.events ++ x.events }) second.1,
    )

asks_create_like : (name : List ℕ) → GrantLike (asks_to_create name)
unfolding asks_to_create
asks_create_like name h n w less weighs =
    let known = if h.asked then 0 else full_directory_weight h.directory in (
      record {
        events = _;
        counted = n + known + 64;
        weigh = w;
        are = ((refl, omega (arith, less)), tt);
        less = omega (arith, less);
        weighs = weighs;
      },
      refl,
    )

asks_open_like : (name mode : List ℕ) → GrantLike (asks_to_open name mode)
unfolding asks_to_open
asks_open_like name mode h n w less weighs =
    let known = if h.asked then 0 else full_directory_weight h.directory in (
      record {
        events = _;
        counted = n + known;
        weigh = w;
        are = ((refl, omega (arith, less)), tt);
        less = omega (arith, less);
        weighs = weighs;
      },
      refl,
    )

-- Commits: what is decided doesn't go by what is counted.

module _ (h : Held) (n : ℕ) (w : Routine → ℕ) where
  sources_same : (numbers : List ℕ) → sources (heavier n w h) numbers ≡ sources h numbers
  unfolding sources source_of
  sources_same [] = refl
  sources_same (number ∷ numbers) = ap (λ (rest : List Source). source_of h number ∷ rest) (sources_same numbers)

  first_same : (id : ℕ) → first_database (heavier n w h) id ≡ first_database h id
  unfolding first_database loose
  first_same id =
      ap (λ (all : List Source). first_source (next_in h.objects) (loose_from h.homes 0 (length h.objects)) all id)
      (sources_same (open_for_writing h.openings))

  home_same : (id : ℕ) → home_after (heavier n w h) id ≡ home_after h id
  unfolding home_after
  home_same id = ap (λ (first : Option ℕ). or_else (home_at h.homes id) (or_else (created_with h.directory h.created id) first)) (first_same id)

  row_same : (from count : ℕ) → row (home_after (heavier n w h)) from count ≡ row (home_after h) from count
  unfolding row
  row_same from zero = refl
  row_same from (suc count) =
      ap (λ (home : Option ℕ). home ∷ row (home_after (heavier n w h)) (suc from) count) (home_same from)
      ∙ ap (λ (homes : List (Option ℕ)). home_after h from ∷ homes) (row_same (suc from) count)

  saved_same : saved (heavier n w h) ≡ saved h
  unfolding saved homes_after
  saved_same = ap (λ (homes : List (Option ℕ)). record { objects = h.objects; homes = homes; directory = h.directory }) (row_same 0 (length h.objects))

  decision_same : decision (heavier n w h) ≡ decision h
  unfolding decision
  decision_same =
      ap (λ (heap : StoredHeap). if not (are_writable h.homes (open_for_writing h.openings) h.assigned) then NotWritable else
      (if is_empty h.assigned && is_empty h.created then NothingToDo else Saves heap)) saved_same

commit_like : GrantLike commit_call
unfolding commit_call
commit_like h n w less weighs =
    subst (λ (d : Decision). IsAnswerLike (commit_by (decision h) h) (commit_by d (heavier n w h))) (sym (decision_same h n w)) (of (decision h))
  where
    of : (d : Decision) → IsAnswerLike (commit_by d h) (commit_by d (heavier n w h))
    of NotWritable = refused_like (codes "commit") database.NotWritable h n w less weighs
    of NothingToDo = same_like Nil h n w less weighs
    of (Saves heap) = (record { events = _; counted = n; weigh = w; are = ((refl, less), tt); less = less; weighs = weighs }, refl)

pub heap_call_like : (of : HeapProcedure) (args : List Value) → CallLike (heap_call of args)
unfolding heap_call
heap_call_like CreateDatabase args h n w less weighs =
    yields_like _ _ (asked_like (asks_to_create (text_argument args 0)) (create_answer (text_argument args 0) (text_argument args 1))
    (asks_create_like (text_argument args 0)) (create_like (text_argument args 0) (text_argument args 1)) h n w less weighs)
heap_call_like OpenDatabase args h n w less weighs =
    yields_like _ _ (asked_like (asks_to_open (text_argument args 0) (text_argument args 2)) (open_answer (text_argument args 0) (text_argument args 1) (text_argument args 2))
    (asks_open_like (text_argument args 0) (text_argument args 2)) (open_like (text_argument args 0) (text_argument args 1) (text_argument args 2)) h n w less weighs)
heap_call_like Commit args h n w less weighs = yields_like _ _ (commit_like h n w less weighs)
heap_call_like MakeTable args h n w less weighs = yields_like _ _ (new_table_like h n w less weighs)
heap_call_like EnterString args h n w less weighs = enter_like _ (value_at args 1) (value_at args 2) h n w less weighs
heap_call_like LookUpString args h n w less weighs = lookup_like _ (value_at args 1) h n w less weighs
heap_call_like EnterInt args h n w less weighs = enter_like _ (value_at args 1) (value_at args 2) h n w less weighs
heap_call_like LookUpInt args h n w less weighs = lookup_like _ (value_at args 1) h n w less weighs
heap_call_like Cardinality args h n w less weighs = cardinality_like (value_at args 0) h n w less weighs

-- What calls over tables and databases keep: what code weighs, and that the heap has literals alone.
use Rattle.std.proofs.Common.{◌≡◌, ℕ, suc, Bool, true, false, List, [], ◌∷◌, length, Option, Some, None, refl}
use Rattle.std.specs.Prelude.{codes, pos, if◌then◌else◌}
use Rattle.ps_gen.specs.ps_base.declared.line.Line.{Line}
use Rattle.ps_gen.specs.ps_base.declared.trap.Trap.TheVariants.{Overflow}
use Rattle.ps_gen.specs.ps_program.Node.{BodyNode}
use Rattle.ps_stepping.specs.ps_heap.Operators.{is_int}
use Rattle.ps_stepping.specs.ps_heap.Values.{Value, Num, Nothing, word_of}
use Rattle.ps_stepping.specs.ps_heap.Texts.{Attempt, Yields, Fails}
use Rattle.ps_stepping.specs.ps_heap.Tables.{Key, string_key, int_key, Table, without_keys, on_yield, entered, looked_up, cardinality}
use Rattle.ps_stepping.specs.ps_heap.Objects.{Keyed, table_of, id_of, object_of_value, value_of_object, value_at}
use Rattle.ps_stepping.specs.ps_heap.Databases.{Numbered, Mode, Reading, Writing, open_for_writing, Fault, BusyWriter, StaleStart, create_fault, Admission, Admits, Refuses, admission, directory_weight}
use Rattle.ps_stepping.specs.ps_heap.Databases as database
use Rattle.ps_stepping.specs.ps_heap.Held.{Reply, Free, Busy, Stale, Held, counting, touching, reading}
use Rattle.ps_stepping.specs.ps_heap.Commit.{Decision, NotWritable, NothingToDo, Saves, decision, is_empty}
use Rattle.ps_stepping.specs.ps_heap.Calls.{Answer, answer_of, then_try, new_table, table_put, enter_call, lookup_call, cardinality_call, error_record, refused, asks_to_create, asks_to_open, reply_in, replies_after, by_reply, if_replied, created_database, create_unless, create_answer, opened_database, open_as, open_by, open_answer, commit_by, commit_call}
use Rattle.ps_stepping.specs.ps_heap.Library.{HeapProcedure, CreateDatabase, OpenDatabase, Commit, MakeTable, EnterString, LookUpString, EnterInt, LookUpInt, Cardinality, text_argument, heap_call}
use Rattle.ps_stepping.specs.ps_meaning.Loops.{Scanning}
use Rattle.ps_stepping.specs.ps_meaning.Evaluation.{Context, call_meant}
use Rattle.ps_soundness.proofs.Fields.{all_set}
use Rattle.ps_code_laws.proofs.Literals.{IsLiteral, InObject, InHeap, OnYield, yield_if, in_with_new}

-- the scan of a clause that has begun with this table and this procedure
abbrev pub scan_by : Context → Line → Bool → ℕ → ℕ → Value → Value → Scanning
scan_by c line strings refs nums table procedure =
    record { line = line; strings = strings; refs = refs; nums = nums; table = table; call = call_meant c line procedure }

-- An answer keeps what code weighs. Where the heap has literals alone, it has no others afterwards, and the answer is none.
abbrev pub IsKept : (BodyNode → Type 0) → Held → Answer → Type 0
IsKept P before a = (a.held.weigh ≡ before.weigh) × (InHeap P before.objects → InHeap P a.held.objects) × IsLiteral P a.value

-- what is held after a reply
abbrev after_reply : Held → Held
after_reply h = record h { replies = replies_after h.replies }

module _ (P : BodyNode → Type 0) where
  -- what goes on with what an attempt yields
  tried : {A B : Type 0} (Is : B → Type 0) (a : Attempt A) (next : A → Attempt B) → ((x : A) → OnYield P Is (next x)) → OnYield P Is (then_try a next)
  tried Is (Yields x) next h = h x
  tried Is (Fails trap) next h = tt

  mapped : {A B : Type 0} (Is : B → Type 0) (a : Attempt A) (f : A → B) → OnYield P (λ (x : A). Is (f x)) a → OnYield P Is (on_yield a f)
  mapped Is (Yields x) f h = h
  mapped Is (Fails trap) f h = tt

  yields_each : {A : Type 0} (Is : A → Type 0) (a : Attempt A) → ((x : A) → Is x) → OnYield P Is a
  yields_each Is (Yields x) h = h x
  yields_each Is (Fails trap) h = tt

  -- Tables.

  new_table_kept : (h : Held) → IsKept P h (new_table h)
  new_table_kept h = (refl, λ k. in_with_new P h.objects (Keyed without_keys) k tt, tt)

  put_kept : (key : Key) (table : Value) (before object : Option ℕ) (new : Table) (h : Held) →
      IsKept P h (answer_of Nothing (table_put table key before object new h))
  put_kept key table before object new h = (refl, λ k. all_set (InObject P) h.objects (id_of table) (Keyed new) k tt, tt)

  -- what is held after a call that answers nothing
  abbrev IsHeld : Held → Held → Type 0
  IsHeld before h = IsKept P before (answer_of Nothing h)

  enter_held : (key : Key) (table v : Value) (h : Held) → OnYield P (IsHeld h) (enter_call key table v h)
  unfolding enter_call
  enter_held key table v h =
      tried (IsHeld h) (table_of h.objects table) _ (λ t. tried (IsHeld h) (looked_up key t) _ (λ before.
      mapped (IsHeld h) (entered key (object_of_value v) t) (λ new. table_put table key before (object_of_value v) new h)
      (yields_each _ (entered key (object_of_value v) t) (λ new. put_kept key table before (object_of_value v) new h))))

  enter_kept : (key : Key) (table v : Value) (h : Held) → OnYield P (IsKept P h) (on_yield (enter_call key table v h) (answer_of Nothing))
  enter_kept key table v h = mapped (IsKept P h) (enter_call key table v h) (answer_of Nothing) (enter_held key table v h)

  found_literal : (found : Option ℕ) → IsLiteral P (value_of_object found)
  found_literal None = tt
  found_literal (Some id) = tt

  look_up_kept : (key : Key) (table : Value) (h : Held) → OnYield P (IsKept P h) (lookup_call key table h)
  unfolding lookup_call
  look_up_kept key table h =
      tried (IsKept P h) (table_of h.objects table) _ (λ t.
      mapped (IsKept P h) (looked_up key t) (λ found. answer_of (value_of_object found) (reading (value_of_object found) h))
      (yields_each _ (looked_up key t) (λ found. (refl, λ k. k, found_literal found))))

  cardinality_kept : (table : Value) (h : Held) → OnYield P (IsKept P h) (cardinality_call table h)
  unfolding cardinality_call
  cardinality_kept table h =
      tried (IsKept P h) (table_of h.objects table) _ (λ t.
      yield_if P (IsKept P h) (is_int (pos (cardinality t))) (answer_of (Num (pos (cardinality t))) h) Overflow (refl, λ k. k, tt))

  -- Databases.

  refused_kept : (context : List ℕ) (fault : Fault) (h : Held) → IsKept P h (refused context fault h)
  refused_kept context fault h = (refl, λ k. in_with_new P h.objects (error_record context fault) k (tt, (tt, (tt, tt))), tt)

  replied_kept : (context : List ℕ) (grant : Held → Answer) → ((h : Held) → IsKept P h (grant h)) → (h : Held) → IsKept P h (if_replied context grant h)
  replied_kept context grant granted h = by (is_empty (open_for_writing h.openings))
    where
      by_its : (reply : Reply) → IsKept P h (by_reply context reply grant (after_reply h))
      by_its Free = granted (after_reply h)
      by_its Busy = refused_kept context BusyWriter (after_reply h)
      by_its Stale = refused_kept context StaleStart (after_reply h)

      by : (b : Bool) → IsKept P h (if b then by_reply context (reply_in h.replies) grant (after_reply h) else grant h)
      by true = by_its (reply_in h.replies)
      by false = granted h

  created_kept : (name password : List ℕ) (h : Held) → IsKept P h (created_database name password h)
  created_kept name password h = (refl, λ k. in_with_new P h.objects (Keyed without_keys) k tt, tt)

  create_kept : (name password : List ℕ) (h : Held) → IsKept P h (create_answer name password h)
  unfolding create_answer
  create_kept name password h = of (create_fault h.directory name password)
    where
      of : (fault : Option Fault) → IsKept P h (create_unless fault name password h)
      of (Some fault) = refused_kept (codes "create.database") fault h
      of None =
          replied_kept (codes "create.database") (created_database name password) (λ g. created_kept name password g)
          (counting (directory_weight (suc (length h.directory))) h)

  opened_kept : (to : Numbered) (mode : Mode) (h : Held) → IsKept P h (opened_database to mode h)
  opened_kept to mode h = (refl, λ k. k, tt)

  opened_as_kept : (mode : Mode) (to : Numbered) (h : Held) → IsKept P h (open_as mode to h)
  opened_as_kept Reading to h = opened_kept to Reading h
  opened_as_kept Writing to h = replied_kept (codes "open.database") (opened_database to Writing) (λ g. opened_kept to Writing g) h

  open_kept : (name password mode : List ℕ) (h : Held) → IsKept P h (open_answer name password mode h)
  unfolding open_answer
  open_kept name password mode h = of (admission h.directory name password mode)
    where
      of : (a : Admission) → IsKept P h (open_by a h)
      of (Refuses fault) = refused_kept (codes "open.database") fault h
      of (Admits to m) = opened_as_kept m to (touching (to.database.root ∷ []) h)

  commit_kept : (h : Held) → IsKept P h (commit_call h)
  unfolding commit_call
  commit_kept h = of (decision h)
    where
      of : (d : Decision) → IsKept P h (commit_by d h)
      of NotWritable = refused_kept (codes "commit") database.NotWritable h
      of NothingToDo = (refl, λ k. k, tt)
      of (Saves heap) = (refl, λ k. k, tt)

  -- each call over tables and databases
  pub heap_call_kept : (of : HeapProcedure) (args : List Value) (h : Held) → OnYield P (IsKept P h) (heap_call of args h)
  unfolding heap_call asks_to_create asks_to_open
  heap_call_kept CreateDatabase args h =
      create_kept (text_argument args 0) (text_argument args 1) (asks_to_create (text_argument args 0) h).held
  heap_call_kept OpenDatabase args h =
      open_kept (text_argument args 0) (text_argument args 1) (text_argument args 2) (asks_to_open (text_argument args 0) (text_argument args 2) h).held
  heap_call_kept Commit args h = commit_kept h
  heap_call_kept MakeTable args h = new_table_kept h
  heap_call_kept EnterString args h = enter_kept (string_key (text_argument args 0)) (value_at args 1) (value_at args 2) h
  heap_call_kept LookUpString args h = look_up_kept (string_key (text_argument args 0)) (value_at args 1) h
  heap_call_kept EnterInt args h = enter_kept (int_key (word_of (value_at args 0))) (value_at args 1) (value_at args 2) h
  heap_call_kept LookUpInt args h = look_up_kept (int_key (word_of (value_at args 0))) (value_at args 1) h
  heap_call_kept Cardinality args h = cardinality_kept (value_at args 0) h

-- what code weighs after a call that answers
abbrev pub WeighsSame : Held → Attempt Answer → Type 0
WeighsSame before (Yields a) = a.held.weigh ≡ before.weigh
WeighsSame before (Fails trap) = Unit {0}

abbrev AnyBody : BodyNode → Type 0
AnyBody body = Unit {0}

weighs_same : (h : Held) (a : Attempt Answer) → OnYield AnyBody (IsKept AnyBody h) a → WeighsSame h a
weighs_same h (Yields a) k = k.0
weighs_same h (Fails trap) k = tt

pub heap_call_weighs : (of : HeapProcedure) (args : List Value) (h : Held) → WeighsSame h (heap_call of args h)
heap_call_weighs of args h = weighs_same h (heap_call of args h) (heap_call_kept AnyBody of args h)

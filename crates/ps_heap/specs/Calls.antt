-- The calls of the library over tables and databases: what each answers, what a run holds afterwards, and what is counted.
use Rattle.std.specs.Prelude.{ℕ, suc, ◌+◌, Bool, true, false, if◌then◌else◌, codes, pos, List, [], ◌∷◌, ◌++◌, length, set, Option, Some, None}
use Rattle.ps_typing.specs.Library.{error_class}
use Rattle.ps_heap.specs.Values.{Value, Num, Nil, Text, Pointer}
use Rattle.ps_heap.specs.Values as value
use Rattle.ps_base.specs.declared.trap.Trap.TheVariants.{Overflow}
use Rattle.ps_heap.specs.Operators.{is_int}
use Rattle.ps_heap.specs.Texts.{Attempt, Yields, Fails}
use Rattle.ps_heap.specs.Tables.{Key, Table, without_keys, on_yield, entered, looked_up, cardinality}
use Rattle.ps_heap.specs.Objects.{Object, Structure, Keyed, table_of, id_of, object_of_value, value_of_object}
use Rattle.ps_heap.specs.Weights.{entry_weight, whole_weight}
use Rattle.ps_heap.specs.Databases.{Database, Numbered, Mode, Writing, Opening, open_for_writing, Fault, BusyWriter, StaleStart, fault_text, explain_text, create_fault, Admission, Admits, Refuses, admission, directory_weight, full_directory_weight}
use Rattle.ps_heap.specs.Databases as database
use Rattle.ps_heap.specs.Held.{Under, Reply, Free, Busy, Stale, Held, counting, new_id, with_object, made, noted, reading, touching}
use Rattle.ps_heap.specs.Commit.{Decision, NotWritable, NothingToDo, Saves, decision, after_decision, is_empty}
use Rattle.ps_heap.specs.Events.{ToCreate, ToOpen, Event, Ask, Commit}

-- what a call answers, what is held then, and the events of the call
pub record Answer : Type 0 where
  pub value : Value
  pub held : Held
  pub events : List Event

abbrev pub answer_of : Value → Held → Answer
answer_of v h = record { value = v; held = h; events = [] }

-- Tables. The traps: nil is no table, another object isn't one either, and the keys of a table are of one kind.

-- `table()`
abbrev pub new_table : Held → Answer
new_table h = answer_of (Pointer (new_id h)) (made (Keyed without_keys) h)

-- goes on with what an attempt yields
abbrev pub then_try : {A B : Type 0} → Attempt A → (A → Attempt B) → Attempt B
then_try (Yields a) next = next a
then_try (Fails trap) next = Fails trap

abbrev pub is_new_entry : Option ℕ → Option ℕ → Bool
is_new_entry None (Some object) = true
is_new_entry _ _ = false

-- the table as it is with an entry: its key is assigned, and an entry under a new key is counted
abbrev pub table_put : Value → Key → Option ℕ → Option ℕ → Table → Held → Held
table_put table key before object new h =
    noted (Under (id_of table) key)
    (counting (if is_new_entry before object then entry_weight key else 0) (record h { objects = set h.objects (id_of table) (Keyed new) }))

-- `s.enter` and `i.enter`
unfoldable pub enter_call : Key → Value → Value → Held → Attempt Held
enter_call key table v h =
    then_try (table_of h.objects table) (λ t.
    then_try (looked_up key t) (λ before.
    on_yield (entered key (object_of_value v) t) (λ new. table_put table key before (object_of_value v) new h)))

-- `s.lookup` and `i.lookup`: what is found is touched
unfoldable pub lookup_call : Key → Value → Held → Attempt Answer
lookup_call key table h =
    then_try (table_of h.objects table) (λ t.
    on_yield (looked_up key t) (λ found. answer_of (value_of_object found) (reading (value_of_object found) h)))

-- `cardinality`: the number of entries, where it is an int
abbrev pub number_answered : ℕ → Held → Attempt Answer
number_answered n h = if is_int (pos n) then Yields (answer_of (Num (pos n)) h) else Fails Overflow

unfoldable pub cardinality_call : Value → Held → Attempt Answer
cardinality_call table h = then_try (table_of h.objects table) (λ t. number_answered (cardinality t) h)

-- Error records.

abbrev pub error_record : List ℕ → Fault → Object
error_record context fault = Structure error_class (Text context ∷ Text (fault_text fault) ∷ Text (explain_text fault) ∷ [])

-- an error record is made, and counted with its texts
abbrev pub refused : List ℕ → Fault → Held → Answer
refused context fault h = answer_of (Pointer (new_id h)) (counting (whole_weight h.weigh (error_record context fault)) (with_object (error_record context fault) h))

-- Databases. Each call asks first, and is answered later.

-- the directory is counted at the first call that asks
abbrev pub directory_known : Held → Held
directory_known h = record h { asked = true; counted = h.counted + (if h.asked then 0 else full_directory_weight h.directory) }

-- the root of a new database is counted before it is asked for
unfoldable pub asks_to_create : List ℕ → Held → Answer
asks_to_create name h =
    let now = counting 64 (directory_known h) in record { value = value.Nothing; held = now; events = Ask (ToCreate name) now.counted ∷ [] }

unfoldable pub asks_to_open : List ℕ → List ℕ → Held → Answer
asks_to_open name mode h =
    let now = directory_known h in record { value = value.Nothing; held = now; events = Ask (ToOpen name mode) now.counted ∷ [] }

-- The next reply; where there is none left it is Free.
abbrev pub reply_in : List Reply → Reply
reply_in [] = Free
reply_in (reply ∷ more) = reply

abbrev pub replies_after : List Reply → List Reply
replies_after [] = []
replies_after (reply ∷ more) = more

abbrev pub by_reply : List ℕ → Reply → (Held → Answer) → Held → Answer
by_reply context Free grant h = grant h
by_reply context Busy grant h = refused context BusyWriter h
by_reply context Stale grant h = refused context StaleStart h

-- A call for writing that has no fault takes a reply, unless a database is open for writing.
abbrev pub if_replied : List ℕ → (Held → Answer) → Held → Answer
if_replied context grant h =
    if is_empty (open_for_writing h.openings) then by_reply context (reply_in h.replies) grant (record h { replies = replies_after h.replies }) else grant h

-- a new database with an empty table as its root, open for writing
abbrev pub created_database : List ℕ → List ℕ → Held → Answer
created_database name password h =
    let root = new_id h in
    let number = suc (length h.directory) in
    answer_of (Pointer root) (record (with_object (Keyed without_keys) h) {
      directory = h.directory ++ record { name = name; password = password; root = root } ∷ [];
      openings = h.openings ++ record { number = number; mode = Writing } ∷ [];
      created = h.created ++ number ∷ [];
    })

-- without a fault a directory with one database more is counted
abbrev pub create_unless : Option Fault → List ℕ → List ℕ → Held → Answer
create_unless (Some fault) name password h = refused (codes "create.database") fault h
create_unless None name password h =
    if_replied (codes "create.database") (created_database name password) (counting (directory_weight (suc (length h.directory))) h)

-- the answer of `create.database`
unfoldable pub create_answer : List ℕ → List ℕ → Held → Answer
create_answer name password h = create_unless (create_fault h.directory name password) name password h

abbrev pub opened_database : Numbered → Mode → Held → Answer
opened_database to mode h = answer_of (Pointer to.database.root) (record h { openings = h.openings ++ record { number = to.number; mode = mode } ∷ [] })

-- the root is touched whatever the reply is
abbrev pub open_as : Mode → Numbered → Held → Answer
open_as database.Reading to h = opened_database to database.Reading h
open_as Writing to h = if_replied (codes "open.database") (opened_database to Writing) h

abbrev pub open_by : Admission → Held → Answer
open_by (Refuses fault) h = refused (codes "open.database") fault h
open_by (Admits to mode) h = open_as mode to (touching (to.database.root ∷ []) h)

-- the answer of `open.database`
unfoldable pub open_answer : List ℕ → List ℕ → List ℕ → Held → Answer
open_answer name password mode h = open_by (admission h.directory name password mode) h

-- `commit`: an error record, or nil; it is an event where a heap is saved
abbrev pub commit_by : Decision → Held → Answer
commit_by NotWritable h = refused (codes "commit") database.NotWritable h
commit_by NothingToDo h = answer_of Nil h
commit_by (Saves heap) h = record { value = Nil; held = after_decision (Saves heap) h; events = Commit heap h.counted ∷ [] }

unfoldable pub commit_call : Held → Answer
commit_call h = commit_by (decision h) h

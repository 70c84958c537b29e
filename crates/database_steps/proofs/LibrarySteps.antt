-- Calls of the library: where something is so of what a call answers, it is so where the step goes on. Calls over tables answer quietly.
use Rattle.std.proofs.Common.{◌≡◌, ℕ, ◌+◌, Bool, true, false, List, [], ◌∷◌, length, Option, Some, None, refl}
use Rattle.std.specs.Prelude.{pos, nat_lt, if◌then◌else◌}
use Rattle.std.specs.Fmt.{signed_decimal}
use Rattle.ps_code.specs.ps_base.declared.line.Line.{Line}
use Rattle.ps_code.specs.ps_base.declared.trap.Trap.{Trap}
use Rattle.ps_code.specs.ps_base.declared.trap.Trap.TheVariants.{Overflow}
use Rattle.ps_heap.specs.Calls.{Answer, answer_of, then_try, number_answered, enter_call, lookup_call, cardinality_call}
use Rattle.ps_heap.specs.Events.{Event}
use Rattle.ps_heap.specs.Held.{Held}
use Rattle.ps_heap.specs.Library.{HeapProcedure, CreateDatabase, OpenDatabase, Commit, MakeTable, EnterString, LookUpString, EnterInt, LookUpInt, Cardinality, LibraryProcedure, OnHeap, ReadLine, AtEnd, Length, IntText, text_argument, heap_call}
use Rattle.ps_heap.specs.Objects.{table_of, value_at, object_of_value}
use Rattle.ps_heap.specs.Operators.{is_int}
use Rattle.ps_heap.specs.Tables.{Key, string_key, int_key, on_yield, entered, looked_up, cardinality}
use Rattle.ps_heap.specs.Texts.{Attempt, Yields, Fails, line_read, behind_line, is_at_end}
use Rattle.ps_heap.specs.Values.{Value, Num, word_of, number_of}
use Rattle.ps_meaning.specs.Meaning.{on_input}
use Rattle.ps_stepping.specs.Config.{frame_words, Config, frame_in}
use Rattle.ps_stepping.specs.Steps.{Step, Goes}
use Rattle.ps_stepping.specs.Objects.{holding}
use Rattle.ps_stepping.specs.Plain.{is_plain_call}
use Rattle.ps_stepping.specs.Library.{answering, gives_nothing, gives_num, gives_ref, answered_by, call_on_heap, library_of}
use Rattle.database_steps.proofs.Going.{Going, Yielding, Quietly, tested, pushed_num, popped_num, popped_text, popped_object, of_yield, of_attempt}
use Rattle.database_steps.proofs.ObjectSteps.{as_it_is, makes_text}

-- so of what is yielded where it is so of what follows on each
tried : {A B : Type 0} (Q : B → Type 0) (a : Attempt A) (next : A → Attempt B) → ((x : A) → Yielding Q (next x)) → Yielding Q (then_try a next)
tried Q (Yields x) next h = h x
tried Q (Fails trap) next h = tt

made_of : {A B : Type 0} (Q : B → Type 0) (a : Attempt A) (f : A → B) → ((x : A) → Q (f x)) → Yielding Q (on_yield a f)
made_of Q (Yields x) f h = h x
made_of Q (Fails trap) f h = tt

made_of_yield : {A B : Type 0} (P : A → Type 0) (Q : B → Type 0) (a : Attempt A) (f : A → B) → Yielding P a → ((x : A) → P x → Q (f x)) →
    Yielding Q (on_yield a f)
made_of_yield P Q (Yields x) f p h = h x p
made_of_yield P Q (Fails trap) f p h = tt

where_so : {A : Type 0} (Q : A → Type 0) (b : Bool) (x : A) (trap : Trap) → Q x → Yielding Q (if b then Yields x else Fails trap)
where_so Q true x trap h = h
where_so Q false x trap h = tt

module _ (K : List Event → Held → Type 0) where
  -- so of the events of an answer and of what is held then
  abbrev pub Answered : Answer → Type 0
  Answered a = K a.events a.held

  -- so of whatever a procedure answers over what is held
  abbrev pub Answers : HeapProcedure → Held → Type 0
  Answers of h = (args : List Value) → Yielding Answered (heap_call of args h)

  gave_num : (a : Answer) (c : Config) → Answered a → Going K (gives_num a c)
  gave_num a c h =
      tested K (nat_lt ((frame_in c.unit).nums + length c.nums) frame_words) (Goes a.events (answering a (record c { nums = word_of a.value ∷ c.nums }))) h

  gave_ref : (a : Answer) (c : Config) → Answered a → Going K (gives_ref a c)
  gave_ref a c h =
      tested K (nat_lt ((frame_in c.unit).refs + length c.refs) frame_words) (Goes a.events (answering a (record c { refs = a.value ∷ c.refs }))) h

  goes_answered : (of : HeapProcedure) (line : Line) (gives : Answer → Config → Step) (args : List Value) (c : Config) → Answers of c.store.held →
      ((a : Answer) → Answered a → Going K (gives a c)) → Going K (answered_by of line gives args c)
  goes_answered of line gives args c answers h = of_yield K Answered line (heap_call of args c.store.held) (λ a. gives a c) (answers args) h

  -- a call over tables and databases
  goes_on_heap : (of : HeapProcedure) (line : Line) (c : Config) → Answers of c.store.held → Going K (call_on_heap of line c)
  goes_on_heap CreateDatabase line c h =
      popped_text K c _ (λ password rest. popped_text K (record c { refs = rest }) _
      (λ name below. goes_answered CreateDatabase line gives_ref _ (record c { refs = below }) h (λ a is. gave_ref a (record c { refs = below }) is)))
  goes_on_heap OpenDatabase line c h =
      popped_text K c _ (λ mode rest. popped_text K (record c { refs = rest }) _ (λ password below. popped_text K (record c { refs = below }) _
      (λ name left. goes_answered OpenDatabase line gives_ref _ (record c { refs = left }) h (λ a is. gave_ref a (record c { refs = left }) is))))
  goes_on_heap Commit line c h = goes_answered Commit line gives_ref [] c h (λ a is. gave_ref a c is)
  goes_on_heap MakeTable line c h = goes_answered MakeTable line gives_ref [] c h (λ a is. gave_ref a c is)
  goes_on_heap EnterString line c h =
      popped_object K c _ (λ v rest. popped_object K (record c { refs = rest }) _ (λ table below. popped_text K (record c { refs = below }) _
      (λ key left. goes_answered EnterString line gives_nothing _ (record c { refs = left }) h (λ a is. is))))
  goes_on_heap LookUpString line c h =
      popped_object K c _ (λ table rest. popped_text K (record c { refs = rest }) _
      (λ key below. goes_answered LookUpString line gives_ref _ (record c { refs = below }) h (λ a is. gave_ref a (record c { refs = below }) is)))
  goes_on_heap EnterInt line c h =
      popped_object K c _ (λ v rest. popped_object K (record c { refs = rest }) _ (λ table below. popped_num K (record c { refs = below }) _
      (λ key left. goes_answered EnterInt line gives_nothing _ (record c { nums = left; refs = below }) h (λ a is. is))))
  goes_on_heap LookUpInt line c h =
      popped_object K c _ (λ table rest. popped_num K (record c { refs = rest }) _
      (λ key below. goes_answered LookUpInt line gives_ref _ (record c { nums = below; refs = rest }) h
      (λ a is. gave_ref a (record c { nums = below; refs = rest }) is)))
  goes_on_heap Cardinality line c h =
      popped_object K c _ (λ table rest. goes_answered Cardinality line gives_num _ (record c { refs = rest }) h
      (λ a is. gave_num a (record c { refs = rest }) is))

  -- Tables.

  enters : (key : Key) (table v : Value) (h : Held) → Quietly K h → Yielding (λ d. K [] d) (enter_call key table v h)
  unfolding enter_call
  enters key table v h q =
      tried (λ d. K [] d) (table_of h.objects table) _ (λ t. tried (λ d. K [] d) (looked_up key t) _
      (λ before. made_of (λ d. K [] d) (entered key (object_of_value v) t) _ (λ new. q _ _ _ _ [] tt)))

  looks_up : (key : Key) (table : Value) (h : Held) → Quietly K h → Yielding Answered (lookup_call key table h)
  unfolding lookup_call
  looks_up key table h q =
      tried Answered (table_of h.objects table) _ (λ t. made_of Answered (looked_up key t) _ (λ found. q _ _ _ _ [] tt))

  counts : (n : ℕ) (h : Held) → Quietly K h → Yielding Answered (number_answered n h)
  counts n h q = where_so Answered (is_int (pos n)) (answer_of (Num (pos n)) h) Overflow (as_it_is K h q)

  cardinality_of : (table : Value) (h : Held) → Quietly K h → Yielding Answered (cardinality_call table h)
  unfolding cardinality_call
  cardinality_of table h q = tried Answered (table_of h.objects table) _ (λ t. counts (cardinality t) h q)

  -- a procedure that runs plainly answers quietly
  pub plain_answers : (of : HeapProcedure) (h : Held) → is_plain_call (Some (OnHeap of)) ≡ true → Quietly K h → Answers of h
  unfolding heap_call
  plain_answers CreateDatabase h plain q args = absurd (let no : false ≡ true = plain in cc)
  plain_answers OpenDatabase h plain q args = absurd (let no : false ≡ true = plain in cc)
  plain_answers Commit h plain q args = absurd (let no : false ≡ true = plain in cc)
  plain_answers MakeTable h plain q args = q _ _ _ _ [] tt
  plain_answers EnterString h plain q args =
      made_of_yield (λ d. K [] d) Answered (enter_call (string_key (text_argument args 0)) (value_at args 1) (value_at args 2) h) _
      (enters (string_key (text_argument args 0)) (value_at args 1) (value_at args 2) h q) (λ d is. is)
  plain_answers LookUpString h plain q args = looks_up (string_key (text_argument args 0)) (value_at args 1) h q
  plain_answers EnterInt h plain q args =
      made_of_yield (λ d. K [] d) Answered (enter_call (int_key (word_of (value_at args 0))) (value_at args 1) (value_at args 2) h) _
      (enters (int_key (word_of (value_at args 0))) (value_at args 1) (value_at args 2) h q) (λ d is. is)
  plain_answers LookUpInt h plain q args = looks_up (int_key (word_of (value_at args 0))) (value_at args 1) h q
  plain_answers Cardinality h plain q args = cardinality_of (value_at args 0) h q

  -- A call of the library, where what its procedure answers is known.
  pub goes_in_library : (found : Option LibraryProcedure) (line : Line) (c : Config) → Quietly K c.store.held →
      ((of : HeapProcedure) → found ≡ Some (OnHeap of) → Answers of c.store.held) → Going K (library_of found line c)
  goes_in_library (Some (OnHeap of)) line c q h = goes_on_heap of line c (h of refl)
  goes_in_library (Some ReadLine) line c q h =
      of_attempt K line (line_read c.store.input) _ (λ bytes. makes_text K bytes (holding (on_input (behind_line c.store.input) c.store) c) q)
  goes_in_library (Some AtEnd) line c q h = pushed_num K (number_of (is_at_end c.store.input)) c (as_it_is K c.store.held q)
  goes_in_library (Some Length) line c q h =
      popped_text K c _ (λ bytes rest. pushed_num K (pos (length bytes)) (record c { refs = rest }) (as_it_is K c.store.held q))
  goes_in_library (Some IntText) line c q h = popped_num K c _ (λ z rest. makes_text K (signed_decimal z) (record c { nums = rest }) q)
  goes_in_library None line c q h = tt

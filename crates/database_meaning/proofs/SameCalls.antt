-- Each call of the library over tables and databases answers the same but for ids.
use Rattle.std.proofs.Common.{◌≡◌, ℕ, zero, suc, List, [], ◌∷◌, map, refl, sym, ap, ◌∙◌, subst}
use Rattle.reaching.specs.Reaching.{IsIn}
use Rattle.reaching.proofs.Lists.{in-front, in-behind}
use Rattle.ps_heap.specs.Values.{Value, Num, Flag, Text, Nil, Pointer, Vector, Procedure, Nothing, word_of, bytes_of}
use Rattle.ps_heap.specs.Texts.{Attempt, Yields, Fails}
use Rattle.ps_heap.specs.Tables.{Key, string_key, int_key, on_yield}
use Rattle.ps_heap.specs.Objects.{value_at}
use Rattle.ps_heap.specs.References.{value_ids, values_ids}
use Rattle.ps_heap.specs.Held.{Held}
use Rattle.ps_heap.specs.Calls.{answer_of, enter_call, lookup_call, asks_to_create, asks_to_open, create_answer, open_answer}
use Rattle.ps_heap.specs.Library.{HeapProcedure, CreateDatabase, OpenDatabase, Commit, MakeTable, EnterString, LookUpString, EnterInt, LookUpInt, Cardinality, then_answered, text_argument, heap_call}
use Rattle.database_meaning.specs.Same.{renamed_value}
use Rattle.database_meaning.specs.SameRuns.{Pairing, AreAmong, IsSameHeld, IsSameAnswer, AreBoth}
use Rattle.database_meaning.proofs.SameAnswers.{plain-same, table-same, create_call-same, open_call-same, commit-same}
use Rattle.database_meaning.proofs.SameTables.{lookup-same, cardinality-same, enter-same}

-- Arguments with other ids.

pub argument : (f : ℕ → ℕ) (args : List Value) (n : ℕ) → value_at (map (renamed_value f) args) n ≡ renamed_value f (value_at args n)
argument f [] n = refl
argument f (v ∷ vs) zero = refl
argument f (v ∷ vs) (suc n) = argument f vs n

pub bytes-renamed : (f : ℕ → ℕ) (v : Value) → bytes_of (renamed_value f v) ≡ bytes_of v
bytes-renamed f (Num z) = refl
bytes-renamed f (Flag b) = refl
bytes-renamed f (Text bytes) = refl
bytes-renamed f Nil = refl
bytes-renamed f (Pointer id) = refl
bytes-renamed f (Vector id) = refl
bytes-renamed f (Procedure does scope) = refl
bytes-renamed f Nothing = refl

pub word-renamed : (f : ℕ → ℕ) (v : Value) → word_of (renamed_value f v) ≡ word_of v
word-renamed f (Num z) = refl
word-renamed f (Flag b) = refl
word-renamed f (Text bytes) = refl
word-renamed f Nil = refl
word-renamed f (Pointer id) = refl
word-renamed f (Vector id) = refl
word-renamed f (Procedure does scope) = refl
word-renamed f Nothing = refl

pub text-same : (f : ℕ → ℕ) (args : List Value) (n : ℕ) → text_argument (map (renamed_value f) args) n ≡ text_argument args n
text-same f args n = ap bytes_of (argument f args n) ∙ bytes-renamed f (value_at args n)

pub argument-in : (args : List Value) (n x : ℕ) → IsIn x (value_ids (value_at args n)) → IsIn x (values_ids args)
argument-in [] n x l = absurd l
argument-in (v ∷ vs) zero x l = in-front x (value_ids v) (values_ids vs) l
argument-in (v ∷ vs) (suc n) x l = in-behind x (value_ids v) (values_ids vs) (argument-in vs n x l)

module _ {p : Pairing} {a b : Held} (s : IsSameHeld p a b) where
  entered-same : (x y : Attempt Held) → AreBoth (IsSameHeld p) x y → AreBoth (IsSameAnswer p) (on_yield x (answer_of Nothing)) (on_yield y (answer_of Nothing))
  entered-same (Yields x) (Yields y) h = plain-same h Nothing refl (λ id l. absurd l)
  entered-same (Fails trap) (Fails other) h = h
  entered-same (Yields x) (Fails trap) h = absurd h
  entered-same (Fails trap) (Yields y) h = absurd h

  module _ (args : List Value) (known : AreAmong (values_ids args) p.ids) where
    abbrev others : List Value
    others = map (renamed_value p.new) args

    known-at : (n : ℕ) → AreAmong (value_ids (value_at args n)) p.ids
    known-at n x l = known x (argument-in args n x l)

    entering : (key : Key) → AreBoth (IsSameAnswer p) (on_yield (enter_call key (value_at args 1) (value_at args 2) a) (answer_of Nothing))
        (on_yield (enter_call key (value_at others 1) (value_at others 2) b) (answer_of Nothing))
    entering key =
        subst (λ w. AreBoth (IsSameAnswer p) (on_yield (enter_call key (value_at args 1) (value_at args 2) a) (answer_of Nothing)) (on_yield (enter_call key w (value_at others 2) b) (answer_of Nothing)))
        (sym (argument p.new args 1))
        (subst (λ w. AreBoth (IsSameAnswer p) (on_yield (enter_call key (value_at args 1) (value_at args 2) a) (answer_of Nothing))
        (on_yield (enter_call key (renamed_value p.new (value_at args 1)) w b) (answer_of Nothing))) (sym (argument p.new args 2))
        (entered-same _ _ (enter-same s key (value_at args 1) (value_at args 2) (known-at 1) (known-at 2))))

    looking : (key : Key) → AreBoth (IsSameAnswer p) (lookup_call key (value_at args 1) a) (lookup_call key (value_at others 1) b)
    looking key =
        subst (λ w. AreBoth (IsSameAnswer p) (lookup_call key (value_at args 1) a) (lookup_call key w b)) (sym (argument p.new args 1))
        (lookup-same s key (value_at args 1) (known-at 1))

    creating : IsSameAnswer p (then_answered (asks_to_create (text_argument args 0) a) (create_answer (text_argument args 0) (text_argument args 1)))
        (then_answered (asks_to_create (text_argument others 0) b) (create_answer (text_argument others 0) (text_argument others 1)))
    creating =
        let name = text_argument args 0 in
        let answer : List ℕ → List ℕ → Type 0 = λ n w. IsSameAnswer p (then_answered (asks_to_create name a) (create_answer name (text_argument args 1))) (then_answered (asks_to_create n b) (create_answer n w)) in
        subst (λ n. answer n (text_argument others 1)) (sym (text-same p.new args 0))
        (subst (answer name) (sym (text-same p.new args 1)) (create_call-same p name (text_argument args 1) a b s))

    opening : IsSameAnswer p (then_answered (asks_to_open (text_argument args 0) (text_argument args 2) a) (open_answer (text_argument args 0) (text_argument args 1) (text_argument args 2)))
        (then_answered (asks_to_open (text_argument others 0) (text_argument others 2) b) (open_answer (text_argument others 0) (text_argument others 1) (text_argument others 2)))
    opening =
        let name = text_argument args 0 in
        let mode = text_argument args 2 in
        let answer : List ℕ → List ℕ → List ℕ → Type 0 = λ n w m.
        IsSameAnswer p (then_answered (asks_to_open name mode a) (open_answer name (text_argument args 1) mode)) (then_answered (asks_to_open n m b) (open_answer n w m)) in
        subst (λ n. answer n (text_argument others 1) (text_argument others 2)) (sym (text-same p.new args 0))
        (subst (λ w. answer name w (text_argument others 2)) (sym (text-same p.new args 1))
        (subst (answer name (text_argument args 1)) (sym (text-same p.new args 2)) (open_call-same p name (text_argument args 1) mode a b s)))

    pub call-same : (of : HeapProcedure) → AreBoth (IsSameAnswer p) (heap_call of args a) (heap_call of others b)
    unfolding heap_call
    call-same CreateDatabase = creating
    call-same OpenDatabase = opening
    call-same Commit = commit-same p a b s
    call-same MakeTable = table-same s
    call-same EnterString =
        subst (λ bytes. AreBoth (IsSameAnswer p) (on_yield (enter_call (string_key (text_argument args 0)) (value_at args 1) (value_at args 2) a) (answer_of Nothing))
        (on_yield (enter_call (string_key bytes) (value_at others 1) (value_at others 2) b) (answer_of Nothing))) (sym (text-same p.new args 0)) (entering (string_key (text_argument args 0)))
    call-same LookUpString =
        subst (λ bytes. AreBoth (IsSameAnswer p) (lookup_call (string_key (text_argument args 0)) (value_at args 1) a) (lookup_call (string_key bytes) (value_at others 1) b))
        (sym (text-same p.new args 0)) (looking (string_key (text_argument args 0)))
    call-same EnterInt =
        subst (λ z. AreBoth (IsSameAnswer p) (on_yield (enter_call (int_key (word_of (value_at args 0))) (value_at args 1) (value_at args 2) a) (answer_of Nothing))
        (on_yield (enter_call (int_key z) (value_at others 1) (value_at others 2) b) (answer_of Nothing)))
        (sym (ap word_of (argument p.new args 0) ∙ word-renamed p.new (value_at args 0))) (entering (int_key (word_of (value_at args 0))))
    call-same LookUpInt =
        subst (λ z. AreBoth (IsSameAnswer p) (lookup_call (int_key (word_of (value_at args 0))) (value_at args 1) a) (lookup_call (int_key z) (value_at others 1) b))
        (sym (ap word_of (argument p.new args 0) ∙ word-renamed p.new (value_at args 0))) (looking (int_key (word_of (value_at args 0))))
    call-same Cardinality =
        subst (λ w. AreBoth (IsSameAnswer p) (heap_call Cardinality args a) (heap_call Cardinality (w ∷ []) b)) (sym (argument p.new args 0)) (cardinality-same s (value_at args 0) (known-at 0))

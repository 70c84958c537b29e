-- Each clause does the same but for ids, and so does a whole program.
use Rattle.std.proofs.Common.{Bool, true, false, inl, inr, ◌≡◌, ℕ, zero, suc, ◌+◌, ℤ, pos, ◌+ℤ◌, List, [], ◌∷◌, map, length, get_or, refl, sym, ap, ◌∙◌, subst, Option, Some, None, if◌then◌else◌, nat_eq}
use Rattle.std.specs.Prelude.{not, nat_lt}
use Rattle.std.specs.Option.{option_map}
use Rattle.std.specs.Fmt.{signed_decimal}
use Rattle.reaching.specs.Reaching.{IsIn}
use Rattle.reaching.proofs.Lists.{in-append, in-front, in-behind}
use Rattle.ps_heap.specs.ps_base.TyView.{TyView}
use Rattle.ps_heap.specs.ps_base.TyView as types
use Rattle.ps_heap.specs.ps_base.declared.line.Line.{Line}
use Rattle.ps_meaning.specs.ps_program.declared.place.Place.{Place}
use Rattle.ps_meaning.specs.ps_program.declared.place.Place.TheVariants.{Plain, Kept}
use Rattle.ps_meaning.specs.ps_program.Node.{Param, Node, Nodes, none, more, Arms, no_arms, more_arms, arm, BodyNode, body}
use Rattle.ps_meaning.specs.ps_program.Node as node
use Rattle.ps_heap.specs.Operators.{is_same, neg_of, arith_of}
use Rattle.ps_heap.specs.Ends.{Done, OutOfTurns}
use Rattle.ps_heap.specs.Values.{Flag, Value, Num, Text, Nil, Pointer, Procedure, Nothing, as_written, Routine, word_of, bytes_of, shown}
use Rattle.ps_heap.specs.Texts.{Attempt, Yields, Fails, join_of, part_of, line_read, behind_line}
use Rattle.ps_heap.specs.Tables.{Key, string_key, int_key, Table, on_yield}
use Rattle.ps_heap.specs.Objects.{table_of, value_at}
use Rattle.ps_heap.specs.References.{scope_ids, value_ids, values_ids}
use Rattle.ps_heap.specs.Weights.{code_weight}
use Rattle.ps_heap.specs.Held.{Held, started}
use Rattle.ps_heap.specs.Events.{Finish}
use Rattle.ps_heap.specs.Library.{LibraryProcedure, OnHeap, ReadLine, AtEnd, Length, IntText, library_procedure, text_argument, heap_call}
use Rattle.ps_heap.specs.Calls.{then_try}
use Rattle.ps_heap.specs.Scans.{Found, most_scan_calls, next_in_table, next_key, scan_arguments, shown_key}
use Rattle.ps_meaning.specs.Meaning.{Outcome, Value_is, Ends, Meaning, give, stop, ◌>>=◌, answer, attempt, made_text, written, set}
use Rattle.ps_meaning.specs.Frames.{stands_on, arguments_on, frame_of_call, keep, keep_all}
use Rattle.ps_meaning.specs.Operations.{join_meant, part_meant, read_line, at_end, lib_meant}
use Rattle.ps_meaning.specs.Loops.{while_turns, Counting, goes_on, in_turn, for_turns, for_loop, for_meant, Scanning, set_last, scan_call, scan_next, scan_turns, begin_scan}
use Rattle.ps_meaning.specs.Evaluation.{Context, most_calls, call_meant, eval, eval_all, eval_each, eval_arms, eval_labels}
use Rattle.ps_meaning.specs.Calls.{body_meant, call_within, context}
use Rattle.ps_meaning.specs.Runs.{Given, fresh_frame, fresh_state, outcome_with, all_events, events_with}
use Rattle.ps_type_text.specs.Texts.{type_text}
use Rattle.database_meaning.specs.Same.{renamed_value, renamed_table, IsSame}
use Rattle.database_meaning.specs.SameRuns.{Pairing, AreAmong, GoesOn, IsSameHeld, AreSameEvents, IsSameAnswer, AreBoth, IsAllThere, pairing_of}
use Rattle.database_meaning.specs.SamePrograms.{IsSameValue, IsSameFrame}
use Rattle.database_meaning.proofs.RenamedObjects.{values-agree}
use Rattle.database_meaning.proofs.GrownPairs.{goes_same}
use Rattle.database_meaning.proofs.SameStarts.{started-same}
use Rattle.database_meaning.proofs.SameTables.{table-of-same, table-known}
use Rattle.database_meaning.proofs.SameCalls.{text-same, argument, word-renamed, call-same}
use Rattle.database_meaning.proofs.ScanLaws.{next-found, renamed_found, next-renamed}
use Rattle.database_meaning.proofs.SameSteps.{goes_then, value_on, AreSameValues, no_values, and_value, plain_value, SameOutcome, Same, same_on, SameNext, same_then, same_next, same_give, same_stop, same_choose, same_choice, flag_same, word_same, number_same, nothing_same, same_answer, same_attempt, same_self, same_touch_one, same_touch_scope}
use Rattle.database_meaning.proofs.SameMeanings.{same_get, same_put, same_made_text, same_made_procedure, same_append, same_written, same_turn, same_with_input, same_put_input, same_scope, same_in_frame, same_answered}
use Rattle.database_meaning.proofs.SameOperations.{bytes_same, shown_same, same_compare, same_equal, same_with_heap, same_is, same_field, same_element, same_bound, same_set_field, same_set_element, same_make, same_elements, same_fill}

-- What goes on with values that go together.
then_on : {p : Pairing} {a b : Value → Meaning} → ((q : Pairing) (v w : Value) → GoesOn p q → IsSameValue q v w → Same q (a v) (b w)) → SameNext p a b
then_on h = record { goes = h }

same_two : {p : Pairing} {a b c d : Meaning} {next also : Value → Value → Meaning} → Same p a c → Same p b d
    → ((q : Pairing) (v w x y : Value) → GoesOn p q → IsSameValue q v w → IsSameValue q x y → Same q (next v x) (also w y))
    → Same p (a >>= λ v. b >>= λ x. next v x) (c >>= λ w. d >>= λ y. also w y)
same_two ha hb h = same_then ha (then_on (λ q v w go is. same_then (same_on go hb) (then_on (λ r x y on same. h r v w x y (goes_then go on) (value_on v w on is) same))))

same_three : {p : Pairing} {a b c d e f : Meaning} {next also : Value → Value → Value → Meaning} → Same p a d → Same p b e → Same p c f
    → ((q : Pairing) (v w x y i j : Value) → GoesOn p q → IsSameValue q v w → IsSameValue q x y → IsSameValue q i j → Same q (next v x i) (also w y j))
    → Same p (a >>= λ v. b >>= λ x. c >>= λ i. next v x i) (d >>= λ w. e >>= λ y. f >>= λ j. also w y j)
same_three ha hb hc h =
    same_then ha (then_on (λ q v w go is. same_two (same_on go hb) (same_on go hc) (λ r x y i j on same last. h r v w x y i j (goes_then go on) (value_on v w on is) same last)))

values_on : {p q : Pairing} (vs ws : List Value) → GoesOn p q → AreSameValues p vs ws → AreSameValues q vs ws
values_on {p = p} {q = q} vs ws go h = record { are = h.are ∙ values-agree p.new q.new vs (λ x l. sym (go.new x (h.known x l))); known = λ x l. go.ids x (h.known x l) }

text_same : {p : Pairing} (vs ws : List Value) (n : ℕ) → AreSameValues p vs ws → text_argument ws n ≡ text_argument vs n
text_same {p = p} vs ws n h = ap (λ xs. text_argument xs n) h.are ∙ text-same p.new vs n

-- Calls.

-- what is called does the same over arguments that go together
abbrev CallsSame : Context → Type 0
CallsSame c = (p : Pairing) (of : BodyNode) (vs ws : List Value) → AreSameValues p vs ws → Same p (c.call of vs) (c.call of ws)

row_same : {p : Pairing} (vs : List Value) (k : ℕ) (other : Value) → IsSameValue p other other → AreAmong (values_ids vs) p.ids → IsSameValue p (get_or vs k other) (get_or (map (renamed_value p.new) vs) k other)
row_same [] k other is known = is
row_same (v ∷ vs) zero other is known = record { is = refl; known = λ x l. known x (in-front x (value_ids v) (values_ids vs) l) }
row_same (v ∷ vs) (suc k) other is known = row_same vs k other is (λ x l. known x (in-behind x (value_ids v) (values_ids vs) l))

arguments-renamed : (f : ℕ → ℕ) (numbers : Bool) (params : List Param) (vs : List Value) → arguments_on numbers params (map (renamed_value f) vs) ≡ map (renamed_value f) (arguments_on numbers params vs)
unfolding arguments_on
arguments-renamed f numbers [] vs = refl
arguments-renamed f numbers (param ∷ params) [] = refl
arguments-renamed f numbers (param ∷ params) (v ∷ vs) = go (stands_on numbers param.ty) (arguments-renamed f numbers params vs)
  where
    go : (b : Bool) → arguments_on numbers params (map (renamed_value f) vs) ≡ map (renamed_value f) (arguments_on numbers params vs)
        → (if b then renamed_value f v ∷ arguments_on numbers params (map (renamed_value f) vs) else arguments_on numbers params (map (renamed_value f) vs))
        ≡ map (renamed_value f) (if b then v ∷ arguments_on numbers params vs else arguments_on numbers params vs)
    go true rest = ap (λ xs. renamed_value f v ∷ xs) rest
    go false rest = rest

arguments-in : (numbers : Bool) (params : List Param) (vs : List Value) (x : ℕ) → IsIn x (values_ids (arguments_on numbers params vs)) → IsIn x (values_ids vs)
unfolding arguments_on
arguments-in numbers [] vs x l = absurd l
arguments-in numbers (param ∷ params) [] x l = absurd l
arguments-in numbers (param ∷ params) (v ∷ vs) x l = go (stands_on numbers param.ty) l (λ k. arguments-in numbers params vs x k)
  where
    go : (b : Bool) → IsIn x (values_ids (if b then v ∷ arguments_on numbers params vs else arguments_on numbers params vs)) → (IsIn x (values_ids (arguments_on numbers params vs)) → IsIn x (values_ids vs))
        → IsIn x (values_ids (v ∷ vs))
    go true k rest = elim (in-append x (value_ids v) (values_ids (arguments_on numbers params vs)) k) [
      | inl i ↦ in-front x (value_ids v) (values_ids vs) i
      | inr i ↦ in-behind x (value_ids v) (values_ids vs) (rest i)
    ]
    go false k rest = in-behind x (value_ids v) (values_ids vs) (rest k)

frame_called : {p : Pairing} (of : BodyNode) (scope : Option ℕ) (vs : List Value) → AreAmong (scope_ids scope) p.ids → AreAmong (values_ids vs) p.ids
    → IsSameFrame p (frame_of_call of scope vs) (frame_of_call of (option_map p.new scope) (map (renamed_value p.new) vs))
unfolding frame_of_call
frame_called {p = p} (body params gives tree text line) scope vs known also = record {
  nums = λ slot. subst (λ xs. IsSameValue p (get_or (arguments_on true params vs) slot (Num (pos 0))) (get_or xs slot (Num (pos 0)))) (sym (arguments-renamed p.new true params vs))
      (row_same (arguments_on true params vs) slot (Num (pos 0)) (number_same (pos 0)) (λ x l. also x (arguments-in true params vs x l)));
  refs = λ slot. subst (λ xs. IsSameValue p (get_or (arguments_on false params vs) slot Nil) (get_or xs slot Nil)) (sym (arguments-renamed p.new false params vs))
      (row_same (arguments_on false params vs) slot Nil (plain_value Nil refl (λ x l. absurd l)) (λ x l. also x (arguments-in false params vs x l)));
  scope = refl;
  scope_known = known;
}

same_call : {p : Pairing} (c : Context) → CallsSame c → (line : Line) (v w : Value) (vs ws : List Value) → IsSameValue p v w → AreSameValues p vs ws → Same p (call_meant c line v vs) (call_meant c line w ws)
unfolding call_meant
same_call {p = p} c k line v w vs ws is are =
    subst (λ x. Same p (call_meant c line v vs) (call_meant c line x ws)) (sym is.is)
    (subst (λ xs. Same p (call_meant c line v vs) (call_meant c line (renamed_value p.new v) xs)) (sym are.are) (go v is.known))
  where
    go : (x : Value) → AreAmong (value_ids x) p.ids → Same p (call_meant c line x vs) (call_meant c line (renamed_value p.new x) (map (renamed_value p.new) vs))
    go (Procedure (as_written of) scope) known =
        same_choose (nat_lt c.depth most_calls)
        (same_in_frame (frame_of_call of scope vs) (frame_of_call of (option_map p.new scope) (map (renamed_value p.new) vs)) (frame_called of scope vs known are.known)
        (k p of vs (map (renamed_value p.new) vs) (record { are = refl; known = are.known }))) (same_stop _)
    go other known = same_stop _

-- Loops.

same_int : {p : Pairing} (place : Place) (z : ℤ) → Same p (set place types.Int (Num z)) (set place types.Int (Num z))
same_int place z = same_put place types.Int (Num z) (Num z) (number_same z)

same_nothing : {p : Pairing} → Same p (give Nothing) (give Nothing)
same_nothing = same_give Nothing Nothing nothing_same

same_in_turn : {p : Pairing} (loop : Counting) {m n : Meaning} → Same p m n → (z : ℤ) → Same p (in_turn loop m z) (in_turn loop n z)
same_in_turn loop h z = same_scope loop.scope (same_then (same_int loop.control z) (same_next h))

same_for_turns : {p : Pairing} (n : ℕ) (loop : Counting) {m o : Meaning} → Same p m o → (z : ℤ) → Same p (for_turns n loop m z) (for_turns n loop o z)
unfolding for_turns
same_for_turns zero loop h z = same_stop _
same_for_turns (suc n) loop h z =
    same_then same_turn (same_next (same_then (same_in_turn loop h z) (same_next
    (same_choose (goes_on loop.limit loop.step (z +ℤ loop.step)) (same_then (same_int (Plain loop.slot) (z +ℤ loop.step)) (same_next (same_for_turns n loop h (z +ℤ loop.step)))) same_nothing))))

same_for_loop : {p : Pairing} (n : ℕ) (line : Line) (loop : Counting) {m o : Meaning} → Same p m o → (z : ℤ) → Same p (for_loop n line loop m z) (for_loop n line loop o z)
unfolding for_loop
same_for_loop n line loop h z =
    same_choose (is_same loop.step (pos 0)) (same_stop _) (same_choose (goes_on loop.limit loop.step z) (same_for_turns n loop h z) same_nothing)

same_for : {p : Pairing} (n : ℕ) (line : Line) (slot : ℕ) (scope : Option (List ℕ)) (control : Place) {a b c clause : Meaning} → Same p a a → Same p b b → Same p c c → Same p clause clause
    → Same p (for_meant n line slot scope control a b c clause) (for_meant n line slot scope control a b c clause)
unfolding for_meant
same_for n line slot scope control {a = a} {b = b} {c = c} {clause = clause} ha hb hc h =
    same_then ha (then_on (λ q1 start other g1 s1. same_then (same_put (Plain slot) types.Int start other s1) (then_on (λ q2 u2 w2 g2 n2.
    same_then (same_on (goes_then g1 g2) hb) (then_on (λ q3 limit last g3 s3. same_then (same_put (Plain (slot + 1)) types.Int limit last s3) (then_on (λ q4 u4 w4 g4 n4.
    same_then (same_on (goes_then g1 (goes_then g2 (goes_then g3 g4))) hc) (then_on (λ q5 step stride g5 s5. same_then (same_put (Plain (slot + 2)) types.Int step stride s5) (then_on (λ q6 u6 w6 g6 n6.
    let loop : ℤ → ℤ → Counting = λ l d. record { slot = slot; scope = scope; control = control; limit = l; step = d } in
    let first = for_loop n line (loop (word_of limit) (word_of step)) clause (word_of start) in
    subst (λ z. Same q6 first (for_loop n line (loop (word_of last) (word_of stride)) clause z)) (sym (word_same start other s1))
    (subst (λ z. Same q6 first (for_loop n line (loop z (word_of stride)) clause (word_of start))) (sym (word_same limit last s3))
    (subst (λ z. Same q6 first (for_loop n line (loop (word_of limit) z) clause (word_of start))) (sym (word_same step stride s5))
    (same_for_loop n line (loop (word_of limit) (word_of step)) (same_on (goes_then g1 (goes_then g2 (goes_then g3 (goes_then g4 (goes_then g5 g6))))) h) (word_of start))))))))))))))))

same_while : {p : Pairing} (n : ℕ) {test clause : Meaning} → Same p test test → Same p clause clause → Same p (while_turns n test clause) (while_turns n test clause)
unfolding while_turns
same_while zero h k = same_then h (then_on (λ q v w go is. same_choice v w is (same_stop _) same_nothing))
same_while (suc n) h k =
    same_then h (then_on (λ q v w go is. same_choice v w is (same_on go (same_then same_turn (same_next (same_then k (same_next (same_while n h k)))))) same_nothing))

-- The library.

same_read_line : {p : Pairing} (line : Line) → Same p (read_line line) (read_line line)
unfolding read_line
same_read_line line = same_with_input _ _ (λ input. same_self line (line_read input) _ (λ bytes. same_then (same_put_input (behind_line input)) (same_next (same_made_text bytes))))

same_at_end : {p : Pairing} → Same p at_end at_end
unfolding at_end
same_at_end = same_with_input _ _ (λ input. same_give _ _ (plain_value (Flag _) refl (λ x l. absurd l)))

same_lib : {p : Pairing} (line : Line) (of : Option LibraryProcedure) (vs ws : List Value) → AreSameValues p vs ws → Same p (lib_meant line of vs) (lib_meant line of ws)
same_lib line (Some (OnHeap of)) vs ws are =
    same_answered line (heap_call of vs) (heap_call of ws) (λ q a b go s.
    let now = values_on vs ws go are in
    subst (λ xs. AreBoth (IsSameAnswer q) (heap_call of vs a) (heap_call of xs b)) (sym now.are) (call-same s vs now.known of))
same_lib line (Some ReadLine) vs ws are = same_read_line line
same_lib line (Some AtEnd) vs ws are = same_at_end
same_lib line (Some Length) vs ws are = same_give _ _ (record { is = ap (λ bytes. Num (pos (length bytes))) (text_same vs ws 0 are); known = λ x l. absurd l })
same_lib {p = p} line (Some IntText) vs ws are =
    subst (λ z. Same p (lib_meant line (Some IntText) vs) (made_text (signed_decimal z))) (sym (ap (λ xs. word_of (value_at xs 0)) are.are ∙ (ap word_of (argument p.new vs 0) ∙ word-renamed p.new (value_at vs 0))))
    (same_made_text _)
same_lib line None vs ws are = same_nothing

-- Scans.

-- a key that was found, with the object that goes with it
record FoundSame (q : Pairing) (x y : Option Found) : Type 0 where
  is : y ≡ option_map (renamed_found q.new) x
  known : (it : Found) → x ≡ Some it → IsIn it.object q.ids

keys-same : {q : Pairing} {a b : Held} (s : IsSameHeld q a b) (strings : Bool) (v : Value) (last : Option Key) → AreAmong (value_ids v) q.ids
    → AreBoth (FoundSame q) (next_key strings a.objects v last) (next_key strings b.objects (renamed_value q.new v) last)
unfolding next_key
keys-same {q = q} {a = a} s strings v last known =
    subst (λ x. AreBoth (FoundSame q) (next_key strings a.objects v last) (then_try x (next_in_table strings last))) (sym (table-of-same s v known)) (go (table_of a.objects v) refl)
  where
    found : (t : Table) → table_of a.objects v ≡ Yields t → (x : Attempt (Option Found)) → next_in_table strings last t ≡ x → AreBoth (FoundSame q) x (on_yield x (option_map (renamed_found q.new)))
    found t at (Yields x) e = record { is = refl; known = λ it same. table-known s v t known at it.object (next-found strings last t it (e ∙ ap Yields same)) }
    found t at (Fails trap) e = refl

    go : (x : Attempt Table) → table_of a.objects v ≡ x → AreBoth (FoundSame q) (then_try x (next_in_table strings last)) (then_try (on_yield x (renamed_table q.new)) (next_in_table strings last))
    go (Yields t) e = subst (AreBoth (FoundSame q) (next_in_table strings last t)) (sym (next-renamed q.new strings last t)) (found t e (next_in_table strings last t) refl)
    go (Fails trap) e = refl

module _ (line : Line) (strings : Bool) (refs nums : ℕ) where
  abbrev scanning : Value → (List Value → Meaning) → Scanning
  scanning table call = record { line = line; strings = strings; refs = refs; nums = nums; table = table; call = call }

  -- what two scans call, over arguments that go together
  abbrev CallsBoth : Pairing → (List Value → Meaning) → (List Value → Meaning) → Type 0
  CallsBoth p call also = (q : Pairing) (vs ws : List Value) → GoesOn p q → AreSameValues q vs ws → Same q (call vs) (also ws)

  -- how two scans go on with a key
  abbrev GoOn : Pairing → (Key → Meaning) → (Key → Meaning) → Type 0
  GoOn p again other = (q : Pairing) (key : Key) → GoesOn p q → Same q (again key) (other key)

  same_set_last : {p : Pairing} (table other : Value) (call also : List Value → Meaning) (key : Key) → Same p (set_last (scanning table call) key) (set_last (scanning other also) key)
  same_set_last table other call also (string_key bytes) = same_put (Plain (refs + 2)) types.Str (Text bytes) (Text bytes) (plain_value (Text bytes) refl (λ x l. absurd l))
  same_set_last table other call also (int_key z) = same_int (Plain (nums + 1)) z

  found_values : {p : Pairing} (it : Found) → IsIn it.object p.ids → AreSameValues p (scan_arguments it) (scan_arguments (renamed_found p.new it))
  found_values {p = p} it known =
      and_value (shown_key it.key) (shown_key it.key) (Pointer it.object ∷ []) (Pointer (p.new it.object) ∷ []) (key it.key)
      (and_value (Pointer it.object) (Pointer (p.new it.object)) [] []
      (record { is = refl; known = λ x l. elim l [ inl e ↦ subst (λ k. IsIn k p.ids) (sym e) known | inr no_more ↦ absurd no_more ] }) no_values)
    where
      key : (k : Key) → IsSameValue p (shown_key k) (shown_key k)
      key (string_key bytes) = plain_value (Text bytes) refl (λ x l. absurd l)
      key (int_key z) = number_same z

  same_scan_call : {p : Pairing} (table other : Value) (call also : List Value → Meaning) → CallsBoth p call also → (count : ℕ) (again more_of : Key → Meaning) → GoOn p again more_of → (it : Found) → IsIn it.object p.ids
      → Same p (scan_call (scanning table call) count again it) (scan_call (scanning other also) count more_of (renamed_found p.new it))
  unfolding scan_call
  same_scan_call {p = p} table other call also calls count again more_of h it known =
      same_then (same_set_last table other call also it.key) (same_next (same_then (same_int (Plain (nums + 2)) (pos 1)) (same_next
      (same_then (calls p (scan_arguments it) (scan_arguments (renamed_found p.new it)) (goes_same p) (found_values it known)) (then_on (λ q v w go is.
      same_then (same_int (Plain nums) (pos (suc count))) (then_on (λ r u x on n.
      same_choice v w (value_on v w on is) (same_then same_turn (then_on (λ i t y off m. h i it.key (goes_then go (goes_then on off))))) (same_give _ _ (number_same (pos (suc count))))))))))))

  same_scan_next : {p : Pairing} (table other : Value) (call also : List Value → Meaning) → CallsBoth p call also → (count : ℕ) (again more_of : Key → Meaning) → GoOn p again more_of → (x y : Option Found) → FoundSame p x y
      → Same p (scan_next (scanning table call) count again x) (scan_next (scanning other also) count more_of y)
  unfolding scan_next
  same_scan_next {p = p} table other call also calls count again more_of h x y f =
      subst (λ z. Same p (scan_next (scanning table call) count again x) (scan_next (scanning other also) count more_of z)) (sym f.is) (go x f.known)
    where
      go : (x : Option Found) → ((it : Found) → x ≡ Some it → IsIn it.object p.ids) → Same p (scan_next (scanning table call) count again x) (scan_next (scanning other also) count more_of (option_map (renamed_found p.new) x))
      go None known = same_give _ _ (number_same (pos count))
      go (Some it) known =
          same_then (same_touch_one it.object (known it refl)) (same_next (same_choose (nat_eq count most_scan_calls) (same_stop _)
          (same_scan_call table other call also calls count again more_of h it (known it refl))))

  same_scan : {p : Pairing} (n : ℕ) (table other : Value) (call also : List Value → Meaning) → IsSameValue p table other → CallsBoth p call also → (last : Option Key) (count : ℕ)
      → Same p (scan_turns n (scanning table call) last count) (scan_turns n (scanning other also) last count)
  unfolding scan_turns
  same_scan zero table other call also is calls last count = same_with_heap _ _ (λ q a b go s.
      let now = value_on table other go is in
      same_attempt (FoundSame q) line (next_key strings a.objects table last) (next_key strings b.objects other last) _ _
      (subst (λ z. AreBoth (FoundSame q) (next_key strings a.objects table last) (next_key strings b.objects z last)) (sym now.is) (keys-same s strings table last now.known)) (λ x y f.
      same_scan_next table other call also (λ r vs ws on are. calls r vs ws (goes_then go on) are) count (λ key. stop OutOfTurns) (λ key. stop OutOfTurns) (λ r key on. same_stop OutOfTurns) x y f))
  same_scan (suc n) table other call also is calls last count = same_with_heap _ _ (λ q a b go s.
      let now = value_on table other go is in
      same_attempt (FoundSame q) line (next_key strings a.objects table last) (next_key strings b.objects other last) _ _
      (subst (λ z. AreBoth (FoundSame q) (next_key strings a.objects table last) (next_key strings b.objects z last)) (sym now.is) (keys-same s strings table last now.known)) (λ x y f.
      same_scan_next table other call also (λ r vs ws on are. calls r vs ws (goes_then go on) are) count (λ key. scan_turns n (scanning table call) (Some key) (suc count)) (λ key. scan_turns n (scanning other also) (Some key) (suc count))
      (λ r key on. same_scan n table other call also (value_on table other (goes_then go on) is) (λ i vs ws off are. calls i vs ws (goes_then go (goes_then on off)) are) (Some key) (suc count)) x y f))

same_begin_scan : {p : Pairing} (strings : Bool) (refs nums : ℕ) {a f : Meaning} {next also : Value → Value → Meaning} → Same p a a → Same p f f
    → ((q : Pairing) (v w x y : Value) → GoesOn p q → IsSameValue q v w → IsSameValue q x y → Same q (next v x) (also w y)) → Same p (begin_scan strings refs nums a f next) (begin_scan strings refs nums a f also)
unfolding begin_scan
same_begin_scan strings refs nums ha hf h =
    same_then ha (then_on (λ q1 v w g1 s1. same_then (same_put (Plain refs) types.Pntr v w s1) (then_on (λ q2 u2 w2 g2 n2.
    same_then (same_on (goes_then g1 g2) hf) (then_on (λ q3 x y g3 s3. same_then (same_put (Plain (refs + 1)) _ x y s3) (then_on (λ q4 u4 w4 g4 n4.
    same_then (same_int (Plain nums) (pos 0)) (same_next (same_then (same_int (Plain (nums + 1)) (pos 0)) (same_next (same_then (same_int (Plain (nums + 2)) (pos 0)) (same_next
    (h q4 v w x y (goes_then g1 (goes_then g2 (goes_then g3 g4))) (value_on v w (goes_then g2 (goes_then g3 g4)) s1) (value_on x y g4 s3)))))))))))))))

-- Clauses.

mutual
  unfolding eval eval_all eval_each eval_arms eval_labels

  pub same_eval : {p : Pairing} (c : Context) → CallsSame c → (t : Node) → Same p (eval c t) (eval c t)
  same_eval c k (node.Int z) = same_give _ _ (number_same z)
  same_eval c k (node.Flag b) = same_give _ _ (plain_value (Flag b) refl (λ x l. absurd l))
  same_eval c k (node.Text bytes) = same_give _ _ (plain_value (Text bytes) refl (λ x l. absurd l))
  same_eval c k (node.Name place ty) = same_get place ty
  same_eval c k (node.SetName place ty e) = same_then (same_eval c k e) (then_on (λ q v w go is. same_put place ty v w is))
  same_eval c k (node.Let place ty e) = same_then (same_eval c k e) (then_on (λ q v w go is. same_put place ty v w is))
  same_eval c k node.Empty = same_nothing
  same_eval c k (node.Block scope items) = same_scope scope (same_all c k Nothing Nothing items nothing_same)
  same_eval c k (node.IfDo test a) = same_then (same_eval c k test) (then_on (λ q v w go is. same_choice v w is (same_eval c k a) same_nothing))
  same_eval c k (node.IfElse test a b) = same_then (same_eval c k test) (then_on (λ q v w go is. same_choice v w is (same_eval c k a) (same_eval c k b)))
  same_eval c k (node.While test a) = same_while c.bound (same_eval c k test) (same_eval c k a)
  same_eval c k (node.Repeat a test b) = same_while c.bound (same_then (same_eval c k a) (same_next (same_eval c k test))) (same_eval c k b)
  same_eval c k (node.For slot from to by scope control s line) =
      same_for c.bound line slot scope control (same_eval c k from) (same_eval c k to) (same_eval c k by) (same_eval c k s)
  same_eval c k (node.Case e arms d ty) = same_then (same_eval c k e) (then_on (λ q v w go is. same_arms c k ty v w arms (eval c d) is (same_eval c k d)))
  same_eval c k (node.And a b) = same_then (same_eval c k a) (then_on (λ q v w go is. same_choice v w is (same_eval c k b) (same_give v w is)))
  same_eval c k (node.Or a b) = same_then (same_eval c k a) (then_on (λ q v w go is. same_choice v w is (same_give v w is) (same_eval c k b)))
  same_eval c k (node.Not e) =
      same_then (same_eval c k e) (then_on (λ q v w go is. same_give _ _ (record { is = ap (λ b. Flag (not b)) (flag_same v w is); known = λ x l. absurd l })))
  same_eval c k (node.Neg e line) =
      same_then (same_eval c k e) (then_on (λ q v w go is. subst (λ z. Same q (answer line (neg_of (word_of v))) (answer line (neg_of z))) (sym (word_same v w is)) (same_answer line (neg_of (word_of v)))))
  same_eval c k (node.Plus e) = same_eval c k e
  same_eval c k (node.Arith op a b line) = same_two (same_eval c k a) (same_eval c k b) (λ q v w x y go is also.
      subst (λ z. Same q (answer line (arith_of op (word_of v) (word_of x))) (answer line (arith_of op z (word_of y)))) (sym (word_same v w is))
      (subst (λ z. Same q (answer line (arith_of op (word_of v) (word_of x))) (answer line (arith_of op (word_of v) z))) (sym (word_same x y also)) (same_answer line _)))
  same_eval c k (node.Compare op ty a b) = same_two (same_eval c k a) (same_eval c k b) (λ q v w x y go is also. same_compare op ty v w x y is also)
  same_eval c k node.Nil = same_give _ _ (plain_value Nil refl (λ x l. absurd l))
  same_eval c k node.Class = same_nothing
  same_eval c k (node.Is e class) = same_then (same_eval c k e) (then_on (λ q v w go is. same_is class v w is))
  same_eval c k (node.Join a b line) = same_two (same_eval c k a) (same_eval c k b) (λ q v w x y go is also.
      let first = join_meant line v x in
      subst (λ z. Same q first (attempt line (join_of z (bytes_of y)) made_text)) (sym (bytes_same v w is))
      (subst (λ z. Same q first (attempt line (join_of (bytes_of v) z) made_text)) (sym (bytes_same x y also)) (same_self line _ made_text (λ bytes. same_made_text bytes))))
  same_eval c k (node.Part a i n line) = same_three (same_eval c k a) (same_eval c k i) (same_eval c k n) (λ q v w x y d e go is also last.
      let first = part_meant line v x d in
      subst (λ z. Same q first (attempt line (part_of z (word_of y) (word_of e)) made_text)) (sym (bytes_same v w is))
      (subst (λ z. Same q first (attempt line (part_of (bytes_of v) z (word_of e)) made_text)) (sym (word_same x y also))
      (subst (λ z. Same q first (attempt line (part_of (bytes_of v) (word_of x) z) made_text)) (sym (word_same d e last)) (same_self line _ made_text (λ bytes. same_made_text bytes)))))
  same_eval c k (node.Make class args) = same_each c k args (λ q vs ws go are. same_make class vs ws are)
  same_eval c k (node.Field e class n ty line) = same_then (same_eval c k e) (then_on (λ q v w go is. same_field line class n v w is))
  same_eval c k (node.SetField o class n ty e line) = same_two (same_eval c k o) (same_eval c k e) (λ q v w x y go is also. same_set_field line class n v w x y is also)
  same_eval c k (node.Fill l u e ty line) =
      same_three (same_eval c k l) (same_eval c k u) (same_eval c k e) (λ q v w x y d i go is also last. same_fill line (type_text ty) v w x y d i is also last)
  same_eval c k (node.Elems l items ty line) =
      same_then (same_eval c k l) (then_on (λ q v w go is. same_each c k items (λ r vs ws on are. same_elements line (type_text ty) v w vs ws (value_on v w on is) are)))
  same_eval c k (node.Element v i ty line) = same_two (same_eval c k v) (same_eval c k i) (λ q v w x y go is also. same_element line v w x y is also)
  same_eval c k (node.SetElement v i e ty line) =
      same_three (same_eval c k v) (same_eval c k i) (same_eval c k e) (λ q v w x y d e go is also last. same_set_element line v w x y d e is also last)
  same_eval c k (node.Bound v upper) = same_then (same_eval c k v) (then_on (λ q v w go is. same_bound upper v w is))
  same_eval c k (node.Lib code args line) = same_each c k args (λ q vs ws go are. same_lib line (library_procedure code) vs ws are)
  same_eval c k (node.Write e w false ty line) = same_then (same_eval c k e) (then_on (λ q v x go is.
      subst (λ z. Same q (written line None (shown ty v)) (written line None z)) (sym (shown_same ty v x is)) (same_written line None (shown ty v))))
  same_eval c k (node.Write e w true ty line) = same_two (same_eval c k e) (same_eval c k w) (λ q v x i j go is also.
      let first = written line (Some (word_of i)) (shown ty v) in
      subst (λ z. Same q first (written line (Some z) (shown ty x))) (sym (word_same i j also))
      (subst (λ z. Same q first (written line (Some (word_of i)) z)) (sym (shown_same ty v x is)) (same_written line (Some (word_of i)) (shown ty v))))
  same_eval c k (node.Abort line) = same_stop _
  same_eval c k (node.Proc of) = same_made_procedure of
  same_eval c k (node.Call f args line) =
      same_then (same_eval c k f) (then_on (λ q v w go is. same_each c k args (λ r vs ws on are. same_call c k line v w vs ws (value_on v w on is) are)))
  same_eval c k (node.Scan text a f q s line) =
      same_begin_scan text q s (same_eval c k a) (same_eval c k f) (λ r v w x y go is also.
      same_scan line text q s c.bound v w (call_meant c line x) (call_meant c line y) is (λ i vs ws on are. same_call c k line x y vs ws (value_on x y on also) are) None 0)

  same_all : {p : Pairing} (c : Context) → CallsSame c → (v w : Value) (ts : Nodes) → IsSameValue p v w → Same p (eval_all c v ts) (eval_all c w ts)
  same_all c k v w none is = same_give v w is
  same_all c k v w (more t ts) is = same_then (same_eval c k t) (then_on (λ q x y go same. same_all c k x y ts same))

  same_each : {p : Pairing} (c : Context) → CallsSame c → (ts : Nodes) {next also : List Value → Meaning}
      → ((q : Pairing) (vs ws : List Value) → GoesOn p q → AreSameValues q vs ws → Same q (next vs) (also ws)) → Same p (eval_each c ts next) (eval_each c ts also)
  same_each {p = p} c k none h = h p [] [] (goes_same p) no_values
  same_each c k (more t ts) h =
      same_then (same_eval c k t) (then_on (λ q v w go is. same_each c k ts (λ r vs ws on are. h r (v ∷ vs) (w ∷ ws) (goes_then go on) (and_value v w vs ws (value_on v w on is) are))))

  same_arms : {p : Pairing} (c : Context) → CallsSame c → (ty : TyView) (v w : Value) (arms : Arms) (default : Meaning) → IsSameValue p v w → Same p default default
      → Same p (eval_arms c ty v arms default) (eval_arms c ty w arms default)
  same_arms c k ty v w no_arms default is h = h
  same_arms c k ty v w (more_arms (arm labels a) rest) default is h =
      same_then (same_labels c k ty v w labels is) (then_on (λ q x y go found. same_choice x y found (same_eval c k a) (same_arms c k ty v w rest default (value_on v w go is) (same_on go h))))

  same_labels : {p : Pairing} (c : Context) → CallsSame c → (ty : TyView) (v w : Value) (labels : Nodes) → IsSameValue p v w → Same p (eval_labels c ty v labels) (eval_labels c ty w labels)
  same_labels c k ty v w none is = same_give _ _ (plain_value (Flag false) refl (λ x l. absurd l))
  same_labels c k ty v w (more label rest) is =
      same_then (same_eval c k label) (then_on (λ q x y go same. same_equal ty v w x y (value_on v w go is) same (same_give _ _ (plain_value (Flag true) refl (λ x l. absurd l)))
      (same_labels c k ty v w rest (value_on v w go is))))

-- Bodies that are called, however many turns may be left.

same_keep : {p : Pairing} (place : Place) (ty : TyView) (v w : Value) → IsSameValue p v w → Same p (keep place ty v) (keep place ty w)
unfolding keep
same_keep (Plain slot) ty v w is = same_nothing
same_keep (Kept up position) ty v w is = same_put (Kept up position) ty v w is

same_keep_all : {p : Pairing} (params : List Param) (vs : List Value) → AreAmong (values_ids vs) p.ids → Same p (keep_all params vs) (keep_all params (map (renamed_value p.new) vs))
unfolding keep_all
same_keep_all [] vs known = same_nothing
same_keep_all (param ∷ params) [] known = same_nothing
same_keep_all {p = p} (param ∷ params) (v ∷ vs) known =
    same_then (same_keep param.place param.ty v (renamed_value p.new v) (record { is = refl; known = λ x l. known x (in-front x (value_ids v) (values_ids vs) l) }))
    (same_next (same_keep_all params vs (λ x l. known x (in-behind x (value_ids v) (values_ids vs) l))))

same_body : {p : Pairing} (c : Context) → CallsSame c → (of : BodyNode) (vs ws : List Value) → AreSameValues p vs ws → Same p (body_meant c of vs) (body_meant c of ws)
unfolding body_meant
same_body {p = p} c k (body params gives tree text line) vs ws are =
    same_scope text (same_then (subst (λ xs. Same p (keep_all params vs) (keep_all params xs)) (sym are.are) (same_keep_all params vs are.known)) (same_next (same_eval c k tree)))

same_within : (turns depth : ℕ) (p : Pairing) (of : BodyNode) (vs ws : List Value) → AreSameValues p vs ws → Same p (call_within turns depth of vs) (call_within turns depth of ws)
unfolding call_within
same_within zero depth p of vs ws are = same_stop _
same_within (suc turns) depth p of vs ws are =
    same_then same_turn (same_next (same_then same_touch_scope (same_next (same_body (context turns depth) (λ q of xs ys same. same_within turns (suc depth) q of xs ys same) of vs ws are))))

-- A whole run.

events_same : (p : Pairing) (x y : Outcome) → SameOutcome p x y → AreSameEvents (all_events x) (all_events y)
unfolding all_events
events_same p (Value_is v f s) (Value_is w g t) h =
    same_append s.events t.events (Finish Done s.store.held.counted ∷ []) (Finish Done t.store.held.counted ∷ []) h.state.events (ap (Finish Done) h.state.held.counted, tt)
events_same p (Ends e s) (Ends d t) h =
    same_append s.events t.events (Finish e s.store.held.counted ∷ []) (Finish d t.store.held.counted ∷ []) h.state.events
    (ap (λ z. Finish z t.store.held.counted) h.end_is ∙ ap (Finish e) h.state.held.counted, tt)
events_same p (Value_is v f s) (Ends d t) h = absurd h
events_same p (Ends e s) (Value_is w g t) h = absurd h

-- over the same turns, input and replies
pub given_same : (weigh : Routine → ℕ) (given other : Given) (program : BodyNode) (s : IsSame given.heap other.heap) → IsAllThere given.heap → other.turns ≡ given.turns → other.input ≡ given.input
    → other.replies ≡ given.replies → AreSameEvents (events_with weigh given program) (events_with weigh other program)
unfolding events_with outcome_with fresh_state fresh_frame
given_same weigh given other (body params gives tree scope line) s there turns input replies =
    let own = code_weight (body params gives tree scope line) in
    let p = pairing_of given.heap other.heap s in
    let first = eval (context given.turns 0) tree fresh_frame (fresh_state weigh given own) in
    subst (λ n. AreSameEvents (all_events first) (all_events (eval (context n 0) tree fresh_frame (fresh_state weigh other own)))) (sym turns)
    (events_same p first (eval (context given.turns 0) tree fresh_frame (fresh_state weigh other own))
    ((same_eval {p = p} (context given.turns 0) (λ q of vs ws are. same_within given.turns 1 q of vs ws are) tree).run p fresh_frame fresh_frame (fresh_state weigh given own) (fresh_state weigh other own) (goes_same p)
    (record { nums = λ slot. number_same (pos 0); refs = λ slot. plain_value Nil refl (λ x l. absurd l); scope = refl; scope_known = λ x l. absurd l })
    (record {
      held = subst (λ rs. IsSameHeld p (fresh_state weigh given own).store.held (started weigh rs own other.heap)) (sym replies) (started-same weigh given.replies own given.heap other.heap s there);
      events = tt;
      turns = turns;
      input = input;
    })))

-- Each clause keeps what a run asks of its databases, and commits heaps with fit ones: so each commit of a run saves such a heap.
use Rattle.std.proofs.Common.{◌≡◌, ℕ, zero, suc, ◌+◌, ◌<◌, ◌≤◌, pos, ◌+ℤ◌, ◌-ℤ◌, ℤ, Bool, true, false, List, [], ◌∷◌, length, get_or, Option, Some, None, refl, sym, ap, ◌∙◌, subst, arith, if◌then◌else◌, replicate}
use Rattle.std.specs.Prelude.{nat_eq, nat_lt}
use Rattle.reaching.proofs.Lists.{in-front, in-behind}
use Rattle.ps_heap.specs.text_forms.declared.forms.Form.{Form}
use Rattle.ps_heap.specs.text_forms.Forms.{forms_of, element_of}
use Rattle.ps_heap.specs.ps_base.TyView.{TyView}
use Rattle.ps_heap.specs.ps_base.TyView as types
use Rattle.ps_heap.specs.ps_base.declared.line.Line.{Line}
use Rattle.ps_soundness.specs.ps_program.declared.place.Place.{Place}
use Rattle.ps_soundness.specs.ps_program.declared.place.Place.TheVariants.{Plain, Kept}
use Rattle.ps_soundness.specs.ps_program.Node.{Param, Node, Nodes, none, more, Arms, no_arms, more_arms, arm, BodyNode, body}
use Rattle.ps_soundness.specs.ps_program.Node as node
use Rattle.ps_soundness.specs.ps_type_text.Texts.{type_text}
use Rattle.ps_heap.specs.Operators.{is_same}
use Rattle.ps_heap.specs.Ends.{Done, OutOfTurns}
use Rattle.ps_heap.specs.Values.{Flag, Value, Num, Text, Nil, Pointer, Vector, Procedure, Nothing, as_written, Routine, word_of, flag_of}
use Rattle.ps_heap.specs.Texts.{Attempt, Yields, Fails, line_read, behind_line}
use Rattle.ps_heap.specs.Tables.{Key, string_key, int_key, Table}
use Rattle.ps_heap.specs.Objects.{Heap, Structure, Elements, kept_as, vector_of, filled_vector, count_from, is_made, is_vector, vector_in, type_in, table_of}
use Rattle.ps_heap.specs.References.{scope_ids, value_ids, values_ids, object_ids, next_in}
use Rattle.ps_heap.specs.Weights.{code_weight}
use Rattle.ps_heap.specs.Events.{Finish}
use Rattle.ps_heap.specs.Library.{LibraryProcedure, OnHeap, ReadLine, AtEnd, Length, IntText, library_procedure, heap_call}
use Rattle.ps_heap.specs.Calls.{then_try}
use Rattle.ps_heap.specs.Scans.{Found, most_scan_calls, next_in_table, next_key, scan_arguments, shown_key}
use Rattle.ps_heap.specs.reaching.Reaching.{IsIn}
use Rattle.ps_soundness.specs.ps_meaning.Meaning.{Outcome, Value_is, Ends, Meaning, stop, ◌>>=◌, made, touch, touch_scope, read, put_input, take_turn, set}
use Rattle.ps_soundness.specs.ps_meaning.Frames.{stands_on, arguments_on, frame_of_call, keep, keep_all}
use Rattle.ps_soundness.specs.ps_meaning.Operations.{is_equal, kept_all, kept_elements, make_meant, read_line, at_end, lib_meant}
use Rattle.ps_soundness.specs.ps_meaning.Loops.{while_turns, Counting, goes_on, in_turn, for_turns, for_loop, for_meant, Scanning, set_last, scan_call, scan_next, scan_turns, begin_scan}
use Rattle.ps_soundness.specs.ps_meaning.Evaluation.{Context, most_calls, call_meant, eval, eval_all, eval_each, eval_arms, eval_labels}
use Rattle.ps_soundness.specs.ps_meaning.Calls.{body_meant, call_within, context}
use Rattle.ps_soundness.specs.ps_meaning.Runs.{Given, fresh_frame, fresh_state, outcome_with, all_events, events_with}
use Rattle.database_meaning.specs.Sound.{AreThere}
use Rattle.database_meaning.proofs.CallLaws.{table-at}
use Rattle.database_meaning.proofs.ScanLaws.{next-found}
use Rattle.heap_fit.specs.Kept.{AreFitDatabases, AreFitCommits}
use Rattle.heap_fit.proofs.KeptDatabases.{start-keeps}
use Rattle.heap_fit.proofs.GoodSteps.{Low, low_more, low_none, low_both, low_one, low_kept, IsFrame, size, GoodOutcome, Good, good_more, good_then, good_give, good_stop, good_choose, good_answer, OnYields, good_attempt, yields_any, good_touch, good_touch_scope, good_read, field-low, element-low, good_get, good_put, good_with_heap, good_set_field, good_set_element, good_made, good_made_text, good_made_procedure, commits_append, good_written, good_turn, good_with_input, good_put_input, good_scope, good_in_frame, good_answered}
use Rattle.heap_fit.proofs.GoodCalls.{heap_call_good}

-- Values as they are kept in new objects.

low_kept_all : {n : ℕ} (forms : List Form) (vs : List Value) → Low n (values_ids vs) → Low n (values_ids (kept_all forms vs))
unfolding kept_all
low_kept_all [] vs low = low
low_kept_all (form ∷ forms) [] low = low_none
low_kept_all (form ∷ forms) (v ∷ vs) low =
    low_both _ _ (low_kept (Some form) v (λ x l. low x (in-front x (value_ids v) (values_ids vs) l))) (low_kept_all forms vs (λ x l. low x (in-behind x (value_ids v) (values_ids vs) l)))

low_kept_elements : {n : ℕ} (text : List ℕ) (vs : List Value) → Low n (values_ids vs) → Low n (values_ids (kept_elements text vs))
low_kept_elements text [] low = low_none
low_kept_elements text (v ∷ vs) low =
    low_both _ _ (low_kept (Some (element_of text)) v (λ x l. low x (in-front x (value_ids v) (values_ids vs) l))) (low_kept_elements text vs (λ x l. low x (in-behind x (value_ids v) (values_ids vs) l)))

low_replicate : {n : ℕ} (count : ℕ) (v : Value) → Low n (value_ids v) → Low n (values_ids (replicate count v))
low_replicate zero v low = low_none
low_replicate (suc count) v low = low_both _ _ low (low_replicate count v low)

vector_good : {n : ℕ} (text : List ℕ) (first : ℤ) (vs : List Value) → Low n (values_ids vs) → OnYields (λ object. Low n (object_ids (Some object))) (vector_of text first vs)
unfolding vector_of
vector_good {n = n} text first vs low = go (is_vector first (length vs))
  where
    go : (b : Bool) → OnYields (λ object. Low n (object_ids (Some object))) (is_made b (Elements text first vs))
    go true = low
    go false = tt

filled_good : {n : ℕ} (text : List ℕ) (first last : ℤ) (v : Value) → Low n (value_ids v) → OnYields (λ object. Low n (object_ids (Some object))) (filled_vector text first last v)
unfolding filled_vector
filled_good text first last v low = vector_good text first (replicate (count_from (last -ℤ first)) v) (low_replicate (count_from (last -ℤ first)) v low)

-- Two clauses, and three, and then what is done with their values.

good_two : {n : ℕ} (a b : Meaning) (next : Value → Value → Meaning) → Good n a → Good n b → ((m : ℕ) (v w : Value) → n ≤ m → Low m (value_ids v) → Low m (value_ids w) → Good m (next v w))
    → Good n (a >>= λ v. b >>= λ w. next v w)
good_two a b next ha hb h =
    good_then a _ ha (λ m v l low. good_then b _ (good_more b l hb) (λ k w j lows. h k v w (omega (arith, l, j)) (low_more _ j low) lows))

good_three : {n : ℕ} (a b d : Meaning) (next : Value → Value → Value → Meaning) → Good n a → Good n b → Good n d
    → ((m : ℕ) (v w u : Value) → n ≤ m → Low m (value_ids v) → Low m (value_ids w) → Low m (value_ids u) → Good m (next v w u))
    → Good n (a >>= λ v. b >>= λ w. d >>= λ u. next v w u)
good_three a b d next ha hb hd h =
    good_then a _ ha (λ m v l low. good_two b d (next v) (good_more b l hb) (good_more d l hd) (λ k w u j lows also. h k v w u (omega (arith, l, j)) (low_more _ j low) lows also))

-- Calls.

-- what is called is good, over arguments that refer to what is there
abbrev CallsGood : Context → Type 0
CallsGood c = (n : ℕ) (of : BodyNode) (args : List Value) → Low n (values_ids args) → Good n (c.call of args)

low_arguments : {n : ℕ} (numbers : Bool) (params : List Param) (args : List Value) → Low n (values_ids args) → Low n (values_ids (arguments_on numbers params args))
unfolding arguments_on
low_arguments numbers [] args low = low_none
low_arguments numbers (param ∷ params) [] low = low_none
low_arguments {n = n} numbers (param ∷ params) (v ∷ vs) low =
    go (stands_on numbers param.ty) (low_arguments numbers params vs (λ x l. low x (in-behind x (value_ids v) (values_ids vs) l)))
  where
    go : (b : Bool) → Low n (values_ids (arguments_on numbers params vs)) → Low n (values_ids (if b then v ∷ arguments_on numbers params vs else arguments_on numbers params vs))
    go true rest = low_both _ _ (λ x l. low x (in-front x (value_ids v) (values_ids vs) l)) rest
    go false rest = rest

low_row : {n : ℕ} (vs : List Value) (k : ℕ) (other : Value) → Low n (value_ids other) → Low n (values_ids vs) → Low n (value_ids (get_or vs k other))
low_row [] k other low lows = low
low_row (v ∷ vs) zero other low lows = λ x l. lows x (in-front x (value_ids v) (values_ids vs) l)
low_row (v ∷ vs) (suc k) other low lows = low_row vs k other low (λ x l. lows x (in-behind x (value_ids v) (values_ids vs) l))

frame_called : {n : ℕ} (of : BodyNode) (scope : Option ℕ) (args : List Value) → Low n (scope_ids scope) → Low n (values_ids args) → IsFrame n (frame_of_call of scope args)
unfolding frame_of_call
frame_called (body params gives tree text line) scope args low lows = record {
  nums = λ slot. low_row (arguments_on true params args) slot (Num (pos 0)) low_none (low_arguments true params args lows);
  refs = λ slot. low_row (arguments_on false params args) slot Nil low_none (low_arguments false params args lows);
  scope = low;
}

good_call : {n : ℕ} (c : Context) → CallsGood c → (line : Line) (v : Value) (args : List Value) → Low n (value_ids v) → Low n (values_ids args) → Good n (call_meant c line v args)
unfolding call_meant
good_call {n = n} c k line (Procedure (as_written of) scope) args low lows =
    good_choose (nat_lt c.depth most_calls) _ _ (good_in_frame (frame_of_call of scope args) (c.call of args) (frame_called of scope args low lows) (k n of args lows)) (good_stop _)
good_call c k line v args low lows = good_stop _

-- Loops.

good_int : {n : ℕ} (place : Place) (z : ℤ) → Good n (set place types.Int (Num z))
good_int place z = good_put place types.Int (Num z) low_none

good_in_turn : {n : ℕ} (loop : Counting) (clause : Meaning) → Good n clause → (z : ℤ) → Good n (in_turn loop clause z)
good_in_turn loop clause h z = good_scope loop.scope _ (good_then (set loop.control types.Int (Num z)) _ (good_int loop.control z) (λ m v l low. good_more clause l h))

good_for_turns : {least : ℕ} (n : ℕ) (loop : Counting) (clause : Meaning) → Good least clause → (z : ℤ) → Good least (for_turns n loop clause z)
unfolding for_turns
good_for_turns zero loop clause h z = good_stop _
good_for_turns (suc n) loop clause h z =
    good_then take_turn _ good_turn (λ m t l low. good_then (in_turn loop clause z) _ (good_in_turn loop clause (good_more clause l h) z) (λ k v j lows.
    good_choose (goes_on loop.limit loop.step (z +ℤ loop.step)) _ _
    (good_then (set (Plain loop.slot) types.Int (Num (z +ℤ loop.step))) _ (good_int (Plain loop.slot) (z +ℤ loop.step))
    (λ i u o also. good_for_turns n loop clause (good_more clause (omega (arith, l, j, o)) h) (z +ℤ loop.step))) (good_give Nothing low_none)))

good_for_loop : {least : ℕ} (n : ℕ) (line : Line) (loop : Counting) (clause : Meaning) → Good least clause → (z : ℤ) → Good least (for_loop n line loop clause z)
unfolding for_loop
good_for_loop n line loop clause h z =
    good_choose (is_same loop.step (pos 0)) _ _ (good_stop _) (good_choose (goes_on loop.limit loop.step z) _ _ (good_for_turns n loop clause h z) (good_give Nothing low_none))

good_local : {n : ℕ} (slot : ℕ) (v : Value) → Low n (value_ids v) → Good n (set (Plain slot) types.Int v)
good_local slot v low = good_put (Plain slot) types.Int v low

good_for : {least : ℕ} (n : ℕ) (line : Line) (slot : ℕ) (scope : Option (List ℕ)) (control : Place) (a b c clause : Meaning) → Good least a → Good least b → Good least c → Good least clause
    → Good least (for_meant n line slot scope control a b c clause)
unfolding for_meant
good_for n line slot scope control a b c clause ha hb hc h =
    good_then a _ ha (λ m1 start l1 w1. good_then (set (Plain slot) types.Int start) _ (good_local slot start w1) (λ m2 u2 l2 w2.
    good_then b _ (good_more b (omega (arith, l1, l2)) hb) (λ m3 limit l3 w3. good_then (set (Plain (slot + 1)) types.Int limit) _ (good_local (slot + 1) limit w3) (λ m4 u4 l4 w4.
    good_then c _ (good_more c (omega (arith, l1, l2, l3, l4)) hc) (λ m5 step l5 w5. good_then (set (Plain (slot + 2)) types.Int step) _ (good_local (slot + 2) step w5) (λ m6 u6 l6 w6.
    good_for_loop n line (record { slot = slot; scope = scope; control = control; limit = word_of limit; step = word_of step }) clause
    (good_more clause (omega (arith, l1, l2, l3, l4, l5, l6)) h) (word_of start)))))))

good_while : {least : ℕ} (n : ℕ) (test clause : Meaning) → Good least test → Good least clause → Good least (while_turns n test clause)
unfolding while_turns
good_while zero test clause h k = good_then test _ h (λ m v l low. good_choose (flag_of v) _ _ (good_stop _) (good_give Nothing low_none))
good_while (suc n) test clause h k =
    good_then test _ h (λ m v l low. good_choose (flag_of v) _ _
    (good_then take_turn _ good_turn (λ m1 t l1 w1. good_then clause _ (good_more clause (omega (arith, l, l1)) k) (λ m2 u l2 w2.
    good_while n test clause (good_more test (omega (arith, l, l1, l2)) h) (good_more clause (omega (arith, l, l1, l2)) k)))) (good_give Nothing low_none))

-- The library.

good_read_line : {n : ℕ} (line : Line) → Good n (read_line line)
unfolding read_line
good_read_line line = good_with_input _ (λ input. good_attempt _ line (line_read input) _ (yields_any (line_read input)) (λ bytes u.
    good_then (put_input (behind_line input)) _ (good_put_input (behind_line input)) (λ m v l low. good_made_text bytes)))

good_at_end : {n : ℕ} → Good n at_end
unfolding at_end
good_at_end = good_with_input _ (λ input. good_give _ low_none)

good_lib : {n : ℕ} (line : Line) (of : Option LibraryProcedure) (vs : List Value) → Low n (values_ids vs) → Good n (lib_meant line of vs)
good_lib line (Some (OnHeap of)) vs low = good_answered line (heap_call of vs) (λ h long k. heap_call_good of vs h k (low_more _ long low))
good_lib line (Some ReadLine) vs low = good_read_line line
good_lib line (Some AtEnd) vs low = good_at_end
good_lib line (Some Length) vs low = good_give _ low_none
good_lib line (Some IntText) vs low = good_made_text _
good_lib line None vs low = good_give Nothing low_none

-- Scans.

good_set_last : {n : ℕ} (scan : Scanning) (key : Key) → Good n (set_last scan key)
good_set_last scan (string_key bytes) = good_put (Plain (scan.refs + 2)) types.Str (Text bytes) low_none
good_set_last scan (int_key z) = good_put (Plain (scan.nums + 1)) types.Int (Num z) low_none

-- what a scan calls, over arguments that refer to what is there
abbrev ScanGood : ℕ → Scanning → Type 0
ScanGood n scan = (m : ℕ) (args : List Value) → n ≤ m → Low m (values_ids args) → Good m (scan.call args)

low_found : {n : ℕ} (found : Found) → found.object < n → Low n (values_ids (scan_arguments found))
low_found found l = low_both (value_ids (shown_key found.key)) (found.object ∷ []) (key_low found.key) (low_one l)
  where
    key_low : {n : ℕ} (key : Key) → Low n (value_ids (shown_key key))
    key_low (string_key bytes) = low_none
    key_low (int_key z) = low_none

good_scan_call : {n : ℕ} (scan : Scanning) → ScanGood n scan → (count : ℕ) (again : Key → Meaning) → ((m : ℕ) (key : Key) → n ≤ m → Good m (again key)) → (found : Found) → found.object < n
    → Good n (scan_call scan count again found)
unfolding scan_call
good_scan_call scan calls count again h found low =
    good_then (set_last scan found.key) _ (good_set_last scan found.key) (λ m1 u1 l1 w1.
    good_then (set (Plain (scan.nums + 2)) types.Int (Num (pos 1))) _ (good_int (Plain (scan.nums + 2)) (pos 1)) (λ m2 u2 l2 w2.
    good_then (scan.call (scan_arguments found)) _ (calls m2 (scan_arguments found) (omega (arith, l1, l2)) (low_found found (omega (arith, low, l1, l2)))) (λ m3 again_is l3 w3.
    good_then (set (Plain scan.nums) types.Int (Num (pos (suc count)))) _ (good_int (Plain scan.nums) (pos (suc count))) (λ m4 u4 l4 w4.
    good_choose (flag_of again_is) _ _ (good_then take_turn _ good_turn (λ m5 t l5 w5. h m5 found.key (omega (arith, l1, l2, l3, l4, l5)))) (good_give _ low_none)))))

good_scan_next : {n : ℕ} (scan : Scanning) → ScanGood n scan → (count : ℕ) (again : Key → Meaning) → ((m : ℕ) (key : Key) → n ≤ m → Good m (again key)) → (found : Option Found)
    → ((it : Found) → found ≡ Some it → it.object < n) → Good n (scan_next scan count again found)
unfolding scan_next
good_scan_next scan calls count again h None low = good_give _ low_none
good_scan_next scan calls count again h (Some found) low =
    good_then (touch (found.object ∷ [])) _ (good_touch (found.object ∷ [])) (λ m u l w.
    good_choose (nat_eq count most_scan_calls) _ _ (good_stop _)
    (good_scan_call scan (λ k args j lows. calls k args (omega (arith, l, j)) lows) count again (λ k key j. h k key (omega (arith, l, j))) found (omega (arith, low found refl, l))))

abbrev FoundLow : ℕ → Option Found → Type 0
FoundLow n found = (it : Found) → found ≡ Some it → it.object < n

key-low : (heap : Heap) → AreThere heap → (strings : Bool) (table : Value) (last : Option Key) → OnYields (FoundLow (length heap)) (next_key strings heap table last)
unfolding next_key next_in
key-low heap there strings table last = go (table_of heap table) refl
  where
    found : (t : Table) (a : Attempt (Option Found)) → table_of heap table ≡ Yields t → next_in_table strings last t ≡ a → OnYields (FoundLow (length heap)) a
    found t (Yields x) is e = λ it same.
        let at = table-at heap table t is in there at.id it.object (subst (λ o. IsIn it.object (object_ids o)) (sym at.there) (next-found strings last t it (e ∙ ap Yields same)))
    found t (Fails trap) is e = tt

    go : (a : Attempt Table) → table_of heap table ≡ a → OnYields (FoundLow (length heap)) (then_try a (next_in_table strings last))
    go (Yields t) is = found t (next_in_table strings last t) is refl
    go (Fails trap) is = tt

good_scan : {least : ℕ} (n : ℕ) (scan : Scanning) → ScanGood least scan → (last : Option Key) (count : ℕ) → Good least (scan_turns n scan last count)
unfolding scan_turns
good_scan zero scan calls last count =
    good_with_heap _ (λ heap there l. good_attempt (FoundLow (length heap)) scan.line (next_key scan.strings heap scan.table last) _ (key-low heap there scan.strings scan.table last) (λ found low.
    good_scan_next scan (λ m args j lows. calls m args (omega (arith, l, j)) lows) count (λ key. stop OutOfTurns) (λ m key j. good_stop OutOfTurns) found low))
good_scan (suc n) scan calls last count =
    good_with_heap _ (λ heap there l. good_attempt (FoundLow (length heap)) scan.line (next_key scan.strings heap scan.table last) _ (key-low heap there scan.strings scan.table last) (λ found low.
    good_scan_next scan (λ m args j lows. calls m args (omega (arith, l, j)) lows) count (λ key. scan_turns n scan (Some key) (suc count))
    (λ m key j. good_scan n scan (λ k args i lows. calls k args (omega (arith, l, j, i)) lows) (Some key) (suc count)) found low))

good_begin_scan : {n : ℕ} (strings : Bool) (refs nums : ℕ) (a f : Meaning) (next : Value → Value → Meaning) → Good n a → Good n f
    → ((m : ℕ) (v w : Value) → n ≤ m → Low m (value_ids v) → Low m (value_ids w) → Good m (next v w)) → Good n (begin_scan strings refs nums a f next)
unfolding begin_scan
good_begin_scan strings refs nums a f next ha hf h =
    good_then a _ ha (λ m1 table l1 w1. good_then (set (Plain refs) types.Pntr table) _ (good_put (Plain refs) types.Pntr table w1) (λ m2 u2 l2 w2.
    good_then f _ (good_more f (omega (arith, l1, l2)) hf) (λ m3 procedure l3 w3. good_then (set (Plain (refs + 1)) _ procedure) _ (good_put (Plain (refs + 1)) _ procedure w3) (λ m4 u4 l4 w4.
    good_then (set (Plain nums) types.Int (Num (pos 0))) _ (good_int (Plain nums) (pos 0)) (λ m5 u5 l5 w5.
    good_then (set (Plain (nums + 1)) types.Int (Num (pos 0))) _ (good_int (Plain (nums + 1)) (pos 0)) (λ m6 u6 l6 w6.
    good_then (set (Plain (nums + 2)) types.Int (Num (pos 0))) _ (good_int (Plain (nums + 2)) (pos 0)) (λ m7 u7 l7 w7.
    h m7 table procedure (omega (arith, l1, l2, l3, l4, l5, l6, l7)) (low_more _ (omega (arith, l2, l3, l4, l5, l6, l7)) w1) (low_more _ (omega (arith, l4, l5, l6, l7)) w3))))))))

-- Clauses.

mutual
  unfolding eval eval_all eval_each eval_arms eval_labels

  pub good_eval : {n : ℕ} (c : Context) → CallsGood c → (t : Node) → Good n (eval c t)
  good_eval c k (node.Int z) = good_give (Num z) low_none
  good_eval c k (node.Flag b) = good_give (Flag b) low_none
  good_eval c k (node.Text bytes) = good_give (Text bytes) low_none
  good_eval c k (node.Name place ty) = good_get place ty
  good_eval c k (node.SetName place ty e) = good_then (eval c e) _ (good_eval c k e) (λ m v l low. good_put place ty v low)
  good_eval c k (node.Let place ty e) = good_then (eval c e) _ (good_eval c k e) (λ m v l low. good_put place ty v low)
  good_eval c k node.Empty = good_give Nothing low_none
  good_eval c k (node.Block scope items) = good_scope scope (eval_all c Nothing items) (good_all c k Nothing items low_none)
  good_eval c k (node.IfDo test a) =
      good_then (eval c test) _ (good_eval c k test) (λ m v l low. good_choose (flag_of v) _ _ (good_eval c k a) (good_give Nothing low_none))
  good_eval c k (node.IfElse test a b) =
      good_then (eval c test) _ (good_eval c k test) (λ m v l low. good_choose (flag_of v) _ _ (good_eval c k a) (good_eval c k b))
  good_eval c k (node.While test a) = good_while c.bound (eval c test) (eval c a) (good_eval c k test) (good_eval c k a)
  good_eval c k (node.Repeat a test b) =
      good_while c.bound _ (eval c b) (good_then (eval c a) _ (good_eval c k a) (λ m u l low. good_eval c k test)) (good_eval c k b)
  good_eval c k (node.For slot from to by scope control s line) =
      good_for c.bound line slot scope control _ _ _ _ (good_eval c k from) (good_eval c k to) (good_eval c k by) (good_eval c k s)
  good_eval c k (node.Case e arms d ty) = good_then (eval c e) _ (good_eval c k e) (λ m v l low. good_arms c k ty v arms (eval c d) (good_eval c k d))
  good_eval c k (node.And a b) = good_then (eval c a) _ (good_eval c k a) (λ m v l low. good_choose (flag_of v) _ _ (good_eval c k b) (good_give v low))
  good_eval c k (node.Or a b) = good_then (eval c a) _ (good_eval c k a) (λ m v l low. good_choose (flag_of v) _ _ (good_give v low) (good_eval c k b))
  good_eval c k (node.Not e) = good_then (eval c e) _ (good_eval c k e) (λ m v l low. good_give _ low_none)
  good_eval c k (node.Neg e line) = good_then (eval c e) _ (good_eval c k e) (λ m v l low. good_answer line _)
  good_eval c k (node.Plus e) = good_eval c k e
  good_eval c k (node.Arith op a b line) = good_two (eval c a) (eval c b) _ (good_eval c k a) (good_eval c k b) (λ m v w l low lows. good_answer line _)
  good_eval c k (node.Compare op ty a b) = good_two (eval c a) (eval c b) _ (good_eval c k a) (good_eval c k b) (λ m v w l low lows. good_give _ low_none)
  good_eval c k node.Nil = good_give Nil low_none
  good_eval c k node.Class = good_give Nothing low_none
  good_eval c k (node.Is e class) = good_then (eval c e) _ (good_eval c k e) (λ m v l low. good_with_heap _ (λ heap there j. good_give _ low_none))
  good_eval c k (node.Join a b line) =
      good_two (eval c a) (eval c b) _ (good_eval c k a) (good_eval c k b) (λ m v w l low lows. good_attempt _ line _ _ (yields_any _) (λ bytes u. good_made_text bytes))
  good_eval c k (node.Part a i n line) =
      good_three (eval c a) (eval c i) (eval c n) _ (good_eval c k a) (good_eval c k i) (good_eval c k n)
      (λ m v from count l low lows also. good_attempt _ line _ _ (yields_any _) (λ bytes u. good_made_text bytes))
  good_eval c k (node.Make class args) =
      good_each c k args (make_meant class) (λ m vs l low. good_made Pointer (Structure class (kept_all (forms_of class) vs)) (λ id. refl) (low_kept_all (forms_of class) vs low))
  good_eval c k (node.Field e class i ty line) =
      good_then (eval c e) _ (good_eval c k e) (λ m o l low. good_with_heap _ (λ heap there j. good_attempt _ line _ read (field-low heap there o class i) (λ v lows. good_read v lows)))
  good_eval c k (node.SetField p class i ty e line) =
      good_two (eval c p) (eval c e) _ (good_eval c k p) (good_eval c k e) (λ m o v l low lows. good_set_field line class i o (kept_as _ v) (low_kept _ v lows))
  good_eval c k (node.Fill l u e ty line) =
      good_three (eval c l) (eval c u) (eval c e) _ (good_eval c k l) (good_eval c k u) (good_eval c k e)
      (λ m first last v j low lows also. good_attempt _ line _ (made Vector) (filled_good (type_text ty) (word_of first) (word_of last) (kept_as (Some (element_of (type_text ty))) v) (low_kept (Some (element_of (type_text ty))) v also))
      (λ object is. good_made Vector object (λ id. refl) is))
  good_eval c k (node.Elems l items ty line) =
      good_then (eval c l) _ (good_eval c k l)
      (λ m first j low. good_each c k items _ (λ i vs o lows. good_attempt _ line _ (made Vector) (vector_good _ (word_of first) (kept_elements _ vs) (low_kept_elements _ vs lows))
      (λ object is. good_made Vector object (λ id. refl) is)))
  good_eval c k (node.Element v i ty line) =
      good_two (eval c v) (eval c i) _ (good_eval c k v) (good_eval c k i) (λ m vector at l low lows.
      good_with_heap _ (λ heap there j. good_attempt _ line _ read (element-low heap there vector (word_of at)) (λ e is. good_read e is)))
  good_eval c k (node.SetElement v i e ty line) =
      good_three (eval c v) (eval c i) (eval c e) _ (good_eval c k v) (good_eval c k i) (good_eval c k e) (λ m vector at w l low lows also.
      good_set_element line vector (word_of at) (λ heap. kept_as (Some (element_of (type_in (vector_in heap vector)))) w) (λ heap. low_kept (Some (element_of (type_in (vector_in heap vector)))) w also))
  good_eval c k (node.Bound v upper) = good_then (eval c v) _ (good_eval c k v) (λ m vector l low. good_with_heap _ (λ heap there j. good_give _ low_none))
  good_eval c k (node.Lib code args line) = good_each c k args (lib_meant line (library_procedure code)) (λ m vs l low. good_lib line (library_procedure code) vs low)
  good_eval c k (node.Write e w false ty line) = good_then (eval c e) _ (good_eval c k e) (λ m v l low. good_written line None _)
  good_eval c k (node.Write e w true ty line) = good_two (eval c e) (eval c w) _ (good_eval c k e) (good_eval c k w) (λ m v width l low lows. good_written line _ _)
  good_eval c k (node.Abort line) = good_stop _
  good_eval c k (node.Proc of) = good_made_procedure of
  good_eval c k (node.Call f args line) =
      good_then (eval c f) _ (good_eval c k f) (λ m v l low. good_each c k args (call_meant c line v) (λ j args i lows. good_call c k line v args (low_more _ i low) lows))
  good_eval c k (node.Scan text a f q s line) =
      good_begin_scan text q s _ _ _ (good_eval c k a) (good_eval c k f)
      (λ m table procedure l low lows. good_scan c.bound (record { line = line; strings = text; refs = q; nums = s; table = table; call = call_meant c line procedure })
      (λ j args i also. good_call c k line procedure args (low_more _ i lows) also) None 0)

  good_all : {n : ℕ} (c : Context) → CallsGood c → (v : Value) (ts : Nodes) → Low n (value_ids v) → Good n (eval_all c v ts)
  good_all c k v none low = good_give v low
  good_all c k v (more t ts) low = good_then (eval c t) _ (good_eval c k t) (λ m w l lows. good_all c k w ts lows)

  good_each : {n : ℕ} (c : Context) → CallsGood c → (ts : Nodes) (next : List Value → Meaning) → ((m : ℕ) (vs : List Value) → n ≤ m → Low m (values_ids vs) → Good m (next vs)) → Good n (eval_each c ts next)
  good_each {n = n} c k none next h = h n [] (omega arith) low_none
  good_each c k (more t ts) next h =
      good_then (eval c t) _ (good_eval c k t) (λ m v l low. good_each c k ts (λ vs. next (v ∷ vs)) (λ j vs i lows. h j (v ∷ vs) (omega (arith, l, i)) (low_both _ _ (low_more _ i low) lows)))

  good_arms : {n : ℕ} (c : Context) → CallsGood c → (ty : TyView) (v : Value) (arms : Arms) (default : Meaning) → Good n default → Good n (eval_arms c ty v arms default)
  good_arms c k ty v no_arms default h = h
  good_arms c k ty v (more_arms (arm labels a) rest) default h =
      good_then (eval_labels c ty v labels) _ (good_labels c k ty v labels)
      (λ m found l low. good_choose (flag_of found) _ _ (good_eval c k a) (good_arms c k ty v rest default (good_more default l h)))

  good_labels : {n : ℕ} (c : Context) → CallsGood c → (ty : TyView) (v : Value) (labels : Nodes) → Good n (eval_labels c ty v labels)
  good_labels c k ty v none = good_give _ low_none
  good_labels c k ty v (more label rest) =
      good_then (eval c label) _ (good_eval c k label) (λ m w l low. good_choose (is_equal ty v w) _ _ (good_give _ low_none) (good_labels c k ty v rest))

-- Bodies that are called, however many turns may be left.

good_keep : {n : ℕ} (place : Place) (ty : TyView) (v : Value) → Low n (value_ids v) → Good n (keep place ty v)
unfolding keep
good_keep (Plain slot) ty v low = good_give Nothing low_none
good_keep (Kept up position) ty v low = good_put (Kept up position) ty v low

good_keep_all : {n : ℕ} (params : List Param) (args : List Value) → Low n (values_ids args) → Good n (keep_all params args)
unfolding keep_all
good_keep_all [] args low = good_give Nothing low_none
good_keep_all (param ∷ params) [] low = good_give Nothing low_none
good_keep_all (param ∷ params) (v ∷ args) low =
    good_then (keep param.place param.ty v) _ (good_keep param.place param.ty v (λ x l. low x (in-front x (value_ids v) (values_ids args) l)))
    (λ m u l lows. good_keep_all params args (low_more _ l (λ x i. low x (in-behind x (value_ids v) (values_ids args) i))))

good_body : {n : ℕ} (c : Context) → CallsGood c → (of : BodyNode) (args : List Value) → Low n (values_ids args) → Good n (body_meant c of args)
unfolding body_meant
good_body c k (body params gives tree text line) args low =
    good_scope text _ (good_then (keep_all params args) _ (good_keep_all params args low) (λ m u l lows. good_eval c k tree))

good_within : (turns depth n : ℕ) (of : BodyNode) (args : List Value) → Low n (values_ids args) → Good n (call_within turns depth of args)
unfolding call_within
good_within zero depth n of args low = good_stop _
good_within (suc turns) depth n of args low =
    good_then take_turn _ good_turn (λ m t l lows. good_then touch_scope _ good_touch_scope
    (λ k u j also. good_body (context turns depth) (λ i of args is. good_within turns (suc depth) i of args is) of args (low_more _ (omega (arith, l, j)) low)))

-- A whole run.

events_good : (n : ℕ) (o : Outcome) → GoodOutcome n o → AreFitCommits (all_events o)
unfolding all_events
events_good n (Value_is v f s) h = commits_append s.events (Finish Done s.store.held.counted ∷ []) h.3.commits tt
events_good n (Ends e s) h = commits_append s.events (Finish e s.store.held.counted ∷ []) h.commits tt

pub run_good : (weigh : Routine → ℕ) (given : Given) (program : BodyNode) → AreFitDatabases given.heap → AreThere given.heap.objects → AreFitCommits (events_with weigh given program)
unfolding events_with outcome_with fresh_state fresh_frame
run_good weigh given (body params gives tree scope line) fit there =
    let s = fresh_state weigh given (code_weight (body params gives tree scope line)) in
    events_good (size s) (eval (context given.turns 0) tree fresh_frame s)
    (good_eval {n = 0} (context given.turns 0) (λ n of args low. good_within given.turns 1 n of args low) tree fresh_frame s (omega arith)
    (record { nums = λ slot. low_none; refs = λ slot. low_none; scope = low_none })
    (record { keeps = start-keeps weigh given.replies (code_weight (body params gives tree scope line)) given.heap fit there; commits = tt }))

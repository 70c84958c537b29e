-- Each clause does the same where code weighs more, and counts as much or more.
use Rattle.std.proofs.Common.{◌≡◌, ℕ, zero, suc, ◌+◌, ◌≤◌, pos, ◌+ℤ◌, ℤ, Bool, true, false, List, [], ◌∷◌, ◌++◌, Option, Some, None, refl, sym, subst, arith}
use Rattle.std.specs.Prelude.{nat_eq, nat_lt}
use Rattle.ps_meaning.specs.ps_base.TyView.{TyView}
use Rattle.ps_meaning.specs.ps_base.TyView as types
use Rattle.ps_meaning.specs.ps_base.declared.line.Line.{Line}
use Rattle.ps_meaning.specs.ps_program.declared.place.Place.{Place}
use Rattle.ps_meaning.specs.ps_program.declared.place.Place.TheVariants.{Plain, Kept}
use Rattle.ps_meaning.specs.ps_program.Node.{Param, Node, Nodes, none, more, Arms, no_arms, more_arms, arm, BodyNode, body}
use Rattle.ps_meaning.specs.ps_program.Node as node
use Rattle.ps_heap.specs.Operators.{is_same}
use Rattle.ps_heap.specs.Ends.{End, Done, OutOfTurns}
use Rattle.ps_heap.specs.Values.{Flag, Value, Num, Text, Nil, Pointer, Vector, Procedure, Nothing, as_written, Routine, word_of, flag_of}
use Rattle.ps_heap.specs.Texts.{line_read, behind_line}
use Rattle.ps_heap.specs.Tables.{Key, string_key, int_key}
use Rattle.ps_heap.specs.Weights.{code_weight}
use Rattle.ps_heap.specs.Events.{Finish}
use Rattle.ps_heap.specs.Library.{LibraryProcedure, OnHeap, ReadLine, AtEnd, Length, IntText, library_procedure, heap_call}
use Rattle.ps_heap.specs.Scans.{Found, most_scan_calls, next_key, scan_arguments}
use Rattle.ps_meaning.specs.Meaning.{Outcome, Value_is, Ends, Meaning, stop, ◌>>=◌, made, touch, touch_scope, read, put_input, take_turn, set}
use Rattle.ps_meaning.specs.Frames.{frame_of_call, keep, keep_all}
use Rattle.ps_meaning.specs.Operations.{is_equal, make_meant, read_line, at_end, lib_meant}
use Rattle.ps_meaning.specs.Loops.{while_turns, Counting, goes_on, in_turn, for_turns, for_loop, for_meant, Scanning, set_last, scan_call, scan_next, scan_turns, begin_scan}
use Rattle.ps_meaning.specs.Evaluation.{Context, most_calls, call_meant, eval, eval_all, eval_each, eval_arms, eval_labels}
use Rattle.ps_meaning.specs.Calls.{body_meant, call_within, context}
use Rattle.ps_meaning.specs.Runs.{Given, fresh_frame, fresh_state, outcome_with, all_events, events_with}
use Rattle.count_laws.specs.Heavier.{Weighs, AreLess}
use Rattle.count_laws.proofs.Like.{less_append, Heavier, heavier_state, IsLike, Alike, alike_then, alike_give, alike_stop, alike_choose, alike_answer, alike_attempt, alike_with_heap, alike_touch, alike_touch_scope, alike_read, alike_assign, alike_get, alike_set, alike_made, alike_made_text, alike_made_procedure, alike_written, alike_turn, alike_with_input, alike_put_input, alike_scope, alike_in_frame, alike_answered}
use Rattle.count_laws.proofs.Calls.{heap_call_like}

alike_in_turn : (loop : Counting) (clause : Meaning) → Alike clause → (z : ℤ) → Alike (in_turn loop clause z)
alike_in_turn loop clause h z =
    alike_scope loop.scope _ (alike_then (set loop.control types.Int (Num z)) _ (alike_set loop.control types.Int (Num z)) (λ u. h))

-- what is called is alike
abbrev pub CallsAlike : Context → Type 0
CallsAlike c = (of : BodyNode) (args : List Value) → Alike (c.call of args)

alike_call : (c : Context) → CallsAlike c → (line : Line) (v : Value) (args : List Value) → Alike (call_meant c line v args)
unfolding call_meant
alike_call c k line (Procedure (as_written of) scope) args =
    alike_choose (nat_lt c.depth most_calls) _ _ (alike_in_frame (frame_of_call of scope args) (c.call of args) (k of args)) (alike_stop _)
alike_call c k line v args = alike_stop _

pub alike_for_turns : (n : ℕ) (loop : Counting) (clause : Meaning) → Alike clause → (z : ℤ) → Alike (for_turns n loop clause z)
unfolding for_turns
alike_for_turns zero loop clause h z = alike_stop _
alike_for_turns (suc n) loop clause h z =
    alike_then take_turn _ alike_turn (λ t. alike_then (in_turn loop clause z) _ (alike_in_turn loop clause h z) (λ v.
    alike_choose (goes_on loop.limit loop.step (z +ℤ loop.step)) _ _
    (alike_then (set (Plain loop.slot) types.Int (Num (z +ℤ loop.step))) _ (alike_set (Plain loop.slot) types.Int (Num (z +ℤ loop.step)))
    (λ u. alike_for_turns n loop clause h (z +ℤ loop.step))) (alike_give Nothing)))

pub alike_for_loop : (n : ℕ) (line : Line) (loop : Counting) (clause : Meaning) → Alike clause → (z : ℤ) → Alike (for_loop n line loop clause z)
unfolding for_loop
alike_for_loop n line loop clause h z =
    alike_choose (is_same loop.step (pos 0)) _ _ (alike_stop _)
    (alike_choose (goes_on loop.limit loop.step z) _ _ (alike_for_turns n loop clause h z) (alike_give Nothing))

pub alike_for : (n : ℕ) (line : Line) (slot : ℕ) (scope : Option (List ℕ)) (control : Place) (a b c clause : Meaning) → Alike a → Alike b → Alike c →
    Alike clause →
    Alike (for_meant n line slot scope control a b c clause)
unfolding for_meant
alike_for n line slot scope control a b c clause ha hb hc h =
    alike_then a _ ha (λ start. alike_then (set (Plain slot) types.Int start) _ (alike_set (Plain slot) types.Int start) (λ u.
    alike_then b _ hb (λ limit. alike_then (set (Plain (slot + 1)) types.Int limit) _ (alike_set (Plain (slot + 1)) types.Int limit) (λ u.
    alike_then c _ hc (λ step. alike_then (set (Plain (slot + 2)) types.Int step) _ (alike_set (Plain (slot + 2)) types.Int step) (λ u.
    alike_for_loop n line (record { slot = slot; scope = scope; control = control; limit = word_of limit; step = word_of step }) clause h (word_of start)))))))

alike_while : (n : ℕ) (test clause : Meaning) → Alike test → Alike clause → Alike (while_turns n test clause)
unfolding while_turns
alike_while zero test clause h k = alike_then test _ h (λ v. alike_choose (flag_of v) _ _ (alike_stop _) (alike_give Nothing))
alike_while (suc n) test clause h k =
    alike_then test _ h (λ v. alike_choose (flag_of v) _ _
    (alike_then take_turn _ alike_turn (λ t. alike_then clause _ k (λ u. alike_while n test clause h k))) (alike_give Nothing))

alike_read_line : (line : Line) → Alike (read_line line)
unfolding read_line
alike_read_line line = alike_with_input _ (λ input. alike_attempt line (line_read input) _ (λ bytes.
    alike_then (put_input (behind_line input)) _ (alike_put_input (behind_line input)) (λ u. alike_made_text bytes)))

alike_at_end : Alike at_end
unfolding at_end
alike_at_end = alike_with_input _ (λ input. alike_give _)

alike_lib : (line : Line) (of : Option LibraryProcedure) (vs : List Value) → Alike (lib_meant line of vs)
alike_lib line (Some (OnHeap of)) vs = alike_answered line (heap_call of vs) (heap_call_like of vs)
alike_lib line (Some ReadLine) vs = alike_read_line line
alike_lib line (Some AtEnd) vs = alike_at_end
alike_lib line (Some Length) vs = alike_give _
alike_lib line (Some IntText) vs = alike_made_text _
alike_lib line None vs = alike_give Nothing

-- Scans.

alike_set_last : (scan : Scanning) (key : Key) → Alike (set_last scan key)
alike_set_last scan (string_key bytes) = alike_set (Plain (scan.refs + 2)) types.Str (Text bytes)
alike_set_last scan (int_key z) = alike_set (Plain (scan.nums + 1)) types.Int (Num z)

alike_scan_call : (scan : Scanning) → ((args : List Value) → Alike (scan.call args)) → (count : ℕ) (again : Key → Meaning) → ((key : Key) → Alike (again key)) →
    (found : Found) → Alike (scan_call scan count again found)
unfolding scan_call
alike_scan_call scan calls count again h found =
    alike_then (set_last scan found.key) _ (alike_set_last scan found.key) (λ u.
    alike_then (set (Plain (scan.nums + 2)) types.Int (Num (pos 1))) _ (alike_set (Plain (scan.nums + 2)) types.Int (Num (pos 1))) (λ u.
    alike_then (scan.call (scan_arguments found)) _ (calls (scan_arguments found)) (λ more.
    alike_then (set (Plain scan.nums) types.Int (Num (pos (suc count)))) _ (alike_set (Plain scan.nums) types.Int (Num (pos (suc count)))) (λ u.
    alike_choose (flag_of more) _ _ (alike_then take_turn _ alike_turn (λ t. h found.key)) (alike_give _)))))

alike_scan_next : (scan : Scanning) → ((args : List Value) → Alike (scan.call args)) → (count : ℕ) (again : Key → Meaning) → ((key : Key) → Alike (again key)) →
    (found : Option Found) → Alike (scan_next scan count again found)
unfolding scan_next
alike_scan_next scan calls count again h None = alike_give _
alike_scan_next scan calls count again h (Some found) =
    alike_then (touch (found.object ∷ [])) _ (alike_touch (found.object ∷ [])) (λ u.
    alike_choose (nat_eq count most_scan_calls) _ _ (alike_stop _) (alike_scan_call scan calls count again h found))

alike_scan : (n : ℕ) (scan : Scanning) → ((args : List Value) → Alike (scan.call args)) → (last : Option Key) (count : ℕ) → Alike (scan_turns n scan last count)
unfolding scan_turns
alike_scan zero scan calls last count =
    alike_with_heap _ (λ heap. alike_attempt scan.line (next_key scan.strings heap scan.table last) _ (λ found.
    alike_scan_next scan calls count (λ key. stop OutOfTurns) (λ key. alike_stop OutOfTurns) found))
alike_scan (suc n) scan calls last count =
    alike_with_heap _ (λ heap. alike_attempt scan.line (next_key scan.strings heap scan.table last) _ (λ found.
    alike_scan_next scan calls count (λ key. scan_turns n scan (Some key) (suc count)) (λ key. alike_scan n scan calls (Some key) (suc count)) found))

alike_begin_scan : (strings : Bool) (refs nums : ℕ) (a f : Meaning) (next : Value → Value → Meaning) → Alike a → Alike f → ((v w : Value) → Alike (next v w)) →
    Alike (begin_scan strings refs nums a f next)
unfolding begin_scan
alike_begin_scan strings refs nums a f next ha hf h =
    alike_then a _ ha (λ table. alike_then (set (Plain refs) types.Pntr table) _ (alike_set (Plain refs) types.Pntr table) (λ u.
    alike_then f _ hf (λ procedure. alike_then (set (Plain (refs + 1)) _ procedure) _ (alike_set (Plain (refs + 1)) _ procedure) (λ u.
    alike_then (set (Plain nums) types.Int (Num (pos 0))) _ (alike_set (Plain nums) types.Int (Num (pos 0))) (λ u.
    alike_then (set (Plain (nums + 1)) types.Int (Num (pos 0))) _ (alike_set (Plain (nums + 1)) types.Int (Num (pos 0))) (λ u.
    alike_then (set (Plain (nums + 2)) types.Int (Num (pos 0))) _ (alike_set (Plain (nums + 2)) types.Int (Num (pos 0))) (λ u. h table procedure)))))))

-- two clauses, and three, and then what is done with their values
alike_two : (a b : Meaning) (next : Value → Value → Meaning) → Alike a → Alike b → ((v w : Value) → Alike (next v w)) →
    Alike (a >>= λ v. b >>= λ w. next v w)
alike_two a b next ha hb h = alike_then a _ ha (λ v. alike_then b _ hb (λ w. h v w))

alike_three : (a b d : Meaning) (next : Value → Value → Value → Meaning) → Alike a → Alike b → Alike d →
    ((v w u : Value) → Alike (next v w u)) →
    Alike (a >>= λ v. b >>= λ w. d >>= λ u. next v w u)
alike_three a b d next ha hb hd h = alike_then a _ ha (λ v. alike_two b d (next v) hb hd (λ w u. h v w u))

mutual
  unfolding eval eval_all eval_each eval_arms eval_labels

  pub alike_eval : (c : Context) → CallsAlike c → (t : Node) → Alike (eval c t)
  alike_eval c k (node.Int z) = alike_give (Num z)
  alike_eval c k (node.Flag b) = alike_give (Flag b)
  alike_eval c k (node.Text bytes) = alike_give (Text bytes)
  alike_eval c k (node.Name place ty) = alike_get place ty
  alike_eval c k (node.SetName place ty e) = alike_then (eval c e) _ (alike_eval c k e) (λ v. alike_set place ty v)
  alike_eval c k (node.Let place ty e) = alike_then (eval c e) _ (alike_eval c k e) (λ v. alike_set place ty v)
  alike_eval c k node.Empty = alike_give Nothing
  alike_eval c k (node.Block scope items) = alike_scope scope (eval_all c Nothing items) (alike_all c k Nothing items)
  alike_eval c k (node.IfDo test a) =
      alike_then (eval c test) _ (alike_eval c k test) (λ v. alike_choose (flag_of v) _ _ (alike_eval c k a) (alike_give Nothing))
  alike_eval c k (node.IfElse test a b) =
      alike_then (eval c test) _ (alike_eval c k test) (λ v. alike_choose (flag_of v) _ _ (alike_eval c k a) (alike_eval c k b))
  alike_eval c k (node.While test a) = alike_while c.bound (eval c test) (eval c a) (alike_eval c k test) (alike_eval c k a)
  alike_eval c k (node.Repeat a test b) =
      alike_while c.bound _ (eval c b) (alike_then (eval c a) _ (alike_eval c k a) (λ u. alike_eval c k test)) (alike_eval c k b)
  alike_eval c k (node.For slot from to by scope control s line) =
      alike_for c.bound line slot scope control _ _ _ _ (alike_eval c k from) (alike_eval c k to) (alike_eval c k by) (alike_eval c k s)
  alike_eval c k (node.Case e arms d ty) = alike_then (eval c e) _ (alike_eval c k e) (λ v. alike_arms c k ty v arms (eval c d) (alike_eval c k d))
  alike_eval c k (node.And a b) = alike_then (eval c a) _ (alike_eval c k a) (λ v. alike_choose (flag_of v) _ _ (alike_eval c k b) (alike_give v))
  alike_eval c k (node.Or a b) = alike_then (eval c a) _ (alike_eval c k a) (λ v. alike_choose (flag_of v) _ _ (alike_give v) (alike_eval c k b))
  alike_eval c k (node.Not e) = alike_then (eval c e) _ (alike_eval c k e) (λ v. alike_give _)
  alike_eval c k (node.Neg e line) = alike_then (eval c e) _ (alike_eval c k e) (λ v. alike_answer line _)
  alike_eval c k (node.Plus e) = alike_eval c k e
  alike_eval c k (node.Arith op a b line) = alike_two (eval c a) (eval c b) _ (alike_eval c k a) (alike_eval c k b) (λ v w. alike_answer line _)
  alike_eval c k (node.Compare op ty a b) = alike_two (eval c a) (eval c b) _ (alike_eval c k a) (alike_eval c k b) (λ v w. alike_give _)
  alike_eval c k node.Nil = alike_give Nil
  alike_eval c k node.Class = alike_give Nothing
  alike_eval c k (node.Is e class) = alike_then (eval c e) _ (alike_eval c k e) (λ v. alike_with_heap _ (λ heap. alike_give _))
  alike_eval c k (node.Join a b line) =
      alike_two (eval c a) (eval c b) _ (alike_eval c k a) (alike_eval c k b) (λ v w. alike_attempt line _ _ (λ bytes. alike_made_text bytes))
  alike_eval c k (node.Part a i n line) =
      alike_three (eval c a) (eval c i) (eval c n) _ (alike_eval c k a) (alike_eval c k i) (alike_eval c k n)
      (λ v from count. alike_attempt line _ _ (λ bytes. alike_made_text bytes))
  alike_eval c k (node.Make class args) = alike_each c k args (make_meant class) (λ vs. alike_made Pointer _)
  alike_eval c k (node.Field e class n ty line) = alike_then (eval c e) _ (alike_eval c k e) (λ o. alike_with_heap _ (λ heap. alike_attempt line _ read (λ v. alike_read v)))
  alike_eval c k (node.SetField p class n ty e line) = alike_two (eval c p) (eval c e) _ (alike_eval c k p) (alike_eval c k e) (λ o v. alike_with_heap _ (λ heap. alike_attempt line _ _ (λ new. alike_assign _ new)))
  alike_eval c k (node.Fill l u e ty line) =
      alike_three (eval c l) (eval c u) (eval c e) _ (alike_eval c k l) (alike_eval c k u) (alike_eval c k e)
      (λ low high v. alike_attempt line _ (made Vector) (λ object. alike_made Vector object))
  alike_eval c k (node.Elems l items ty line) =
      alike_then (eval c l) _ (alike_eval c k l)
      (λ low. alike_each c k items _ (λ vs. alike_attempt line _ (made Vector) (λ object. alike_made Vector object)))
  alike_eval c k (node.Element v i ty line) = alike_two (eval c v) (eval c i) _ (alike_eval c k v) (alike_eval c k i) (λ vector at. alike_with_heap _ (λ heap. alike_attempt line _ read (λ v. alike_read v)))
  alike_eval c k (node.SetElement v i e ty line) =
      alike_three (eval c v) (eval c i) (eval c e) _ (alike_eval c k v) (alike_eval c k i) (alike_eval c k e) (λ vector at w. alike_with_heap _ (λ heap. alike_attempt line _ _ (λ new. alike_assign _ new)))
  alike_eval c k (node.Bound v upper) = alike_then (eval c v) _ (alike_eval c k v) (λ vector. alike_with_heap _ (λ heap. alike_give _))
  alike_eval c k (node.Lib code args line) = alike_each c k args (lib_meant line (library_procedure code)) (λ vs. alike_lib line (library_procedure code) vs)
  alike_eval c k (node.Write e w false ty line) = alike_then (eval c e) _ (alike_eval c k e) (λ v. alike_written line None _)
  alike_eval c k (node.Write e w true ty line) = alike_two (eval c e) (eval c w) _ (alike_eval c k e) (alike_eval c k w) (λ v width. alike_written line _ _)
  alike_eval c k (node.Abort line) = alike_stop _
  alike_eval c k (node.Proc of) = alike_made_procedure of
  alike_eval c k (node.Call f args line) =
      alike_then (eval c f) _ (alike_eval c k f) (λ v. alike_each c k args (call_meant c line v) (λ args. alike_call c k line v args))
  alike_eval c k (node.Scan text a f q s line) =
      alike_begin_scan text q s _ _ _ (alike_eval c k a) (alike_eval c k f)
      (λ table procedure. alike_scan c.bound (record { line = line; strings = text; refs = q; nums = s; table = table; call = call_meant c line procedure })
      (λ args. alike_call c k line procedure args) None 0)

  pub alike_all : (c : Context) → CallsAlike c → (v : Value) (ts : Nodes) → Alike (eval_all c v ts)
  alike_all c k v none = alike_give v
  alike_all c k v (more t ts) = alike_then (eval c t) _ (alike_eval c k t) (λ w. alike_all c k w ts)

  pub alike_each : (c : Context) → CallsAlike c → (ts : Nodes) (next : List Value → Meaning) → ((vs : List Value) → Alike (next vs)) →
      Alike (eval_each c ts next)
  alike_each c k none next h = h []
  alike_each c k (more t ts) next h = alike_then (eval c t) _ (alike_eval c k t) (λ v. alike_each c k ts (λ vs. next (v ∷ vs)) (λ vs. h (v ∷ vs)))

  pub alike_arms : (c : Context) → CallsAlike c → (ty : TyView) (v : Value) (arms : Arms) (default : Meaning) → Alike default →
      Alike (eval_arms c ty v arms default)
  alike_arms c k ty v no_arms default h = h
  alike_arms c k ty v (more_arms (arm labels a) rest) default h =
      alike_then (eval_labels c ty v labels) _ (alike_labels c k ty v labels)
      (λ found. alike_choose (flag_of found) _ _ (alike_eval c k a) (alike_arms c k ty v rest default h))

  pub alike_labels : (c : Context) → CallsAlike c → (ty : TyView) (v : Value) (labels : Nodes) → Alike (eval_labels c ty v labels)
  alike_labels c k ty v none = alike_give _
  alike_labels c k ty v (more label rest) =
      alike_then (eval c label) _ (alike_eval c k label) (λ w. alike_choose (is_equal ty v w) _ _ (alike_give _) (alike_labels c k ty v rest))

-- what is called is alike too, however many turns may be left
alike_keep : (place : Place) (ty : TyView) (v : Value) → Alike (keep place ty v)
unfolding keep
alike_keep (Plain slot) ty v = alike_give Nothing
alike_keep (Kept up position) ty v = alike_set (Kept up position) ty v

pub alike_keep_all : (params : List Param) (args : List Value) → Alike (keep_all params args)
unfolding keep_all
alike_keep_all [] args = alike_give Nothing
alike_keep_all (param ∷ params) [] = alike_give Nothing
alike_keep_all (param ∷ params) (v ∷ args) =
    alike_then (keep param.place param.ty v) _ (alike_keep param.place param.ty v) (λ u. alike_keep_all params args)

alike_body : (c : Context) → CallsAlike c → (of : BodyNode) (args : List Value) → Alike (body_meant c of args)
unfolding body_meant
alike_body c k (body params gives tree text line) args =
    alike_scope text _ (alike_then (keep_all params args) _ (alike_keep_all params args) (λ u. alike_eval c k tree))

alike_within : (n depth : ℕ) (of : BodyNode) (args : List Value) → Alike (call_within n depth of args)
unfolding call_within
alike_within zero depth of args = alike_stop _
alike_within (suc n) depth of args =
    alike_then take_turn _ alike_turn (λ t. alike_then touch_scope _ alike_touch_scope
    (λ u. alike_body (context n depth) (alike_within n (suc depth)) of args))

pub calls_alike : (n depth : ℕ) → CallsAlike (context n depth)
calls_alike n depth = alike_within n (suc depth)

-- A whole run.

events_like : (o other : Outcome) → IsLike o other → AreLess (all_events o) (all_events other)
unfolding all_events
events_like (Value_is v f s) other (r, e) =
    subst (λ (x : Outcome). AreLess (all_events (Value_is v f s)) (all_events x)) (sym e)
    (less_append s.events r.events (Finish Done s.store.held.counted ∷ []) (Finish Done r.counted ∷ []) r.are ((refl, r.less), tt))
events_like (Ends e s) other (r, is) =
    subst (λ (x : Outcome). AreLess (all_events (Ends e s)) (all_events x)) (sym is)
    (less_append s.events r.events (Finish e s.store.held.counted ∷ []) (Finish e r.counted ∷ []) r.are ((refl, r.less), tt))

pub run_like : (light heavy : Routine → ℕ) (given : Given) (program : BodyNode) → Weighs light heavy →
    AreLess (events_with light given program) (events_with heavy given program)
unfolding events_with outcome_with fresh_state
run_like light heavy given (body params gives tree scope line) weighs =
    let own = code_weight (body params gives tree scope line) in
    let s = fresh_state light given own in
    events_like (eval (context given.turns 0) tree fresh_frame s) (eval (context given.turns 0) tree fresh_frame (fresh_state heavy given own))
    (alike_eval (context given.turns 0) (calls_alike given.turns 0) tree fresh_frame s
    (record { events = []; counted = own; weigh = heavy; are = tt; less = omega arith; weighs = weighs }))

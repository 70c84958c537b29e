-- The turns that are left never rise, and what code weighs stays.
use Rattle.std.proofs.Common.{◌≡◌, ◌∙◌, refl, ℕ, zero, suc, ◌+◌, ◌≤◌, ℤ, pos, ◌+ℤ◌, Bool, true, false, List, [], ◌∷◌, Option, Some, None, arith}
use Rattle.std.specs.Prelude.{nat_eq, nat_lt, if◌then◌else◌}
use Rattle.ps_gen.specs.ps_base.TyView.{TyView}
use Rattle.ps_gen.specs.ps_base.TyView as types
use Rattle.ps_gen.specs.ps_base.declared.line.Line.{Line}
use Rattle.ps_gen.specs.ps_program.declared.place.Place.{Place}
use Rattle.ps_gen.specs.ps_program.declared.place.Place.TheVariants.{Plain, Kept}
use Rattle.ps_gen.specs.ps_program.Node.{Param, Node, Nodes, none, more, Arms, no_arms, more_arms, arm, BodyNode, body}
use Rattle.ps_gen.specs.ps_program.Node as node
use Rattle.ps_stepping.specs.ps_heap.Operators.{Answer, Gives, Traps, is_same}
use Rattle.ps_typing_laws.specs.ps_typing.Library.{caller}
use Rattle.ps_stepping.specs.ps_heap.Ends.{End, OutOfTurns}
use Rattle.ps_stepping.specs.ps_heap.Values.{Value, Num, Flag, Text, Nil, Pointer, Vector, Procedure, Nothing, as_written, word_of, flag_of}
use Rattle.ps_stepping.specs.ps_heap.Texts.{Attempt, Yields, Fails, line_read, behind_line}
use Rattle.ps_stepping.specs.ps_heap.Objects.{Heap, Object}
use Rattle.ps_stepping.specs.ps_heap.Tables.{Key, string_key, int_key}
use Rattle.ps_stepping.specs.ps_heap.References.{scope_ids}
use Rattle.ps_stepping.specs.ps_heap.Held.{Held, assigning, touching, reading}
use Rattle.ps_stepping.specs.ps_heap.Held as held
use Rattle.ps_stepping.specs.ps_heap.Calls as calls
use Rattle.ps_stepping.specs.ps_heap.Library.{LibraryProcedure, OnHeap, ReadLine, AtEnd, Length, IntText, library_procedure, heap_call}
use Rattle.ps_stepping.specs.ps_heap.Scans.{Found, most_scan_calls, next_key, scan_arguments}
use Rattle.ps_stepping.specs.ps_meaning.Meaning.{Frame, Store, State, Outcome, Value_is, Ends, Meaning, give, stop, after, ◌>>=◌, choose, answer, attempt, with_heap, change, touch, touch_scope, read, assign, put_answer, answered, made, made_text, made_procedure, with_input, put_input, enter, back_in, back_to, scoped, in_scope, in_frame, emit, in_places, is_width, written, with_turns, turned, take_turn, get, set}
use Rattle.ps_stepping.specs.ps_meaning.Frames.{frame_of_call, keep, keep_all}
use Rattle.ps_stepping.specs.ps_meaning.Calls.{body_meant, call_within, context}
use Rattle.ps_stepping.specs.ps_meaning.Operations.{is_equal, make_meant, read_line, at_end, lib_meant}
use Rattle.ps_stepping.specs.ps_meaning.Loops.{while_turns, Counting, goes_on, in_turn, for_turns, for_loop, for_meant, Scanning, set_last, scan_call, scan_next, scan_turns, begin_scan}
use Rattle.ps_stepping.specs.ps_meaning.Evaluation.{Context, most_calls, call_meant, eval, eval_all, eval_each, eval_arms, eval_labels}
use Rattle.ps_code_laws.proofs.LibraryWalks.{WeighsSame, heap_call_weighs, scan_by}

abbrev pub Falls : Store → Outcome → Type 0
Falls before (Value_is v f s) = (s.store.turns ≤ before.turns) × (s.store.held.weigh ≡ before.held.weigh)
Falls before (Ends e s) = Unit {0}

abbrev pub Falling : Meaning → Type 0
Falling m = (f : Frame) (s : State) → Falls s.store (m f s)

pub falls_le : (between before : Store) (o : Outcome) → between.turns ≤ before.turns → between.held.weigh ≡ before.held.weigh → Falls between o →
    Falls before o
falls_le between before (Value_is v f s) le same h = (omega (arith, le, h.0), h.1 ∙ same)
falls_le between before (Ends e s) le same h = tt

pub falls_after : (before : Store) (o : Outcome) (b : Value → Meaning) → Falls before o → ((v : Value) → Falling (b v)) → Falls before (after o b)
unfolding after
falls_after before (Value_is v f s) b h g = falls_le s.store before (b v f s) h.0 h.1 (g v f s)
falls_after before (Ends e s) b h g = tt

pub falls_then : (a : Meaning) (b : Value → Meaning) → Falling a → ((v : Value) → Falling (b v)) → Falling (a >>= b)
unfolding ◌>>=◌
falls_then a b h g f s = falls_after s.store (a f s) b (h f s) g

pub falls_give : (v : Value) → Falling (give v)
unfolding give
falls_give v f s = (omega arith, refl)

pub falls_stop : (e : End) → Falling (stop e)
unfolding stop
falls_stop e f s = tt

pub falls_choose : (b : Bool) (m n : Meaning) → Falling m → Falling n → Falling (choose b m n)
unfolding choose
falls_choose true m n h k = h
falls_choose false m n h k = k

pub falls_attempt : {A : Type 0} (line : Line) (a : Attempt A) (next : A → Meaning) → ((v : A) → Falling (next v)) → Falling (attempt line a next)
unfolding attempt
falls_attempt line (Yields v) next h = h v
falls_attempt line (Fails trap) next h = falls_stop _

pub falls_with_heap : (next : Heap → Meaning) → ((heap : Heap) → Falling (next heap)) → Falling (with_heap next)
unfolding with_heap
falls_with_heap next h f s = h s.store.held.objects f s

-- another thing is held in which code weighs the same
falls_change : (v : Value) (does : Held → Held) → ((h : Held) → (does h).weigh ≡ h.weigh) → Falling (change v does)
unfolding change
falls_change v does same f s = (omega arith, same s.store.held)

falls_touch : (ids : List ℕ) → Falling (touch ids)
falls_touch ids = falls_change Nothing (touching ids) (λ h. refl)

falls_touch_scope : Falling touch_scope
falls_touch_scope f s = falls_touch (scope_ids f.scope) f s

falls_read_value : (v : Value) → Falling (read v)
falls_read_value v = falls_change v (reading v) (λ h. refl)

falls_assign : (place : held.Place) (heap : Heap) → Falling (assign place heap)
falls_assign place heap = falls_change Nothing (assigning place heap) (λ h. refl)

attempt_falls : (line : Line) (a : Attempt calls.Answer) (f : Frame) (s : State) → WeighsSame s.store.held a → Falls s.store (attempt line a put_answer f s)
unfolding attempt put_answer stop
attempt_falls line (Yields a) f s h = (omega arith, h)
attempt_falls line (Fails trap) f s h = tt

falls_answered : (line : Line) (call : Held → Attempt calls.Answer) → ((h : Held) → WeighsSame h (call h)) → Falling (answered line call)
unfolding answered
falls_answered line call h f s = attempt_falls line (call s.store.held) f s (h s.store.held)

pub falls_made : (denoting : ℕ → Value) (object : Object) → Falling (made denoting object)
unfolding made
falls_made denoting object f s = (omega arith, refl)

pub falls_made_text : (bytes : List ℕ) → Falling (made_text bytes)
unfolding made_text
falls_made_text bytes f s = (omega arith, refl)

falls_emit : (bytes : List ℕ) → Falling (emit bytes)
unfolding emit
falls_emit bytes f s = (omega arith, refl)

falls_either : (b : Bool) (m n : Meaning) → Falling m → Falling n → Falling (if b then m else n)
falls_either true m n h k = h
falls_either false m n h k = k

pub falls_written : (line : Line) (width : Option ℤ) (bytes : List ℕ) → Falling (written line width bytes)
unfolding written
falls_written line width bytes = falls_either (is_width width) _ _ (falls_emit (in_places width bytes)) (falls_stop _)

turned_falls : (f : Frame) (s : State) (turns : ℕ) → s.store.turns ≡ turns → Falls s.store (turned (with_turns s.store turns) f s)
turned_falls f s zero is = tt
turned_falls f s (suc left) is = (omega (arith, is), refl)

pub falls_turn : Falling take_turn
unfolding take_turn
falls_turn f s = turned_falls f s s.store.turns refl

pub falls_set : (place : Place) (ty : TyView) (v : Value) → Falling (set place ty v)
unfolding set change
falls_set (Plain slot) ty v f s = (omega arith, refl)
falls_set (Kept up position) ty v f s = (omega arith, refl)

-- a value is put in a place, and then comes something
falls_set_then : (place : Place) (ty : TyView) (v : Value) (next : Meaning) → Falling next → Falling (set place ty v >>= λ u. next)
falls_set_then place ty v next h = falls_then (set place ty v) (λ u. next) (falls_set place ty v) (λ u. h)

falls_made_procedure : (of : BodyNode) → Falling (made_procedure of)
unfolding made_procedure
falls_made_procedure of f s = (omega arith, refl)

falls_with_input : (next : List ℕ → Meaning) → ((input : List ℕ) → Falling (next input)) → Falling (with_input next)
unfolding with_input
falls_with_input next h f s = h s.store.input f s

falls_put_input : (input : List ℕ) → Falling (put_input input)
unfolding put_input
falls_put_input input f s = (omega arith, refl)

-- scopes and frames
falls_enter : (text : List ℕ) → Falling (enter text)
unfolding enter
falls_enter text f s = (omega arith, refl)

falls_back_in : (before : Store) (scope : Option ℕ) (o : Outcome) → Falls before o → Falls before (back_in scope o)
unfolding back_in
falls_back_in before scope (Value_is v f s) h = h
falls_back_in before scope (Ends e s) h = tt

falls_back_to : (before : Store) (own : Frame) (o : Outcome) → Falls before o → Falls before (back_to own o)
unfolding back_to
falls_back_to before own (Value_is v f s) h = h
falls_back_to before own (Ends e s) h = tt

pub falls_scoped : (text : List ℕ) (m : Meaning) → Falling m → Falling (scoped text m)
unfolding scoped
falls_scoped text m h f s =
    falls_back_in s.store f.scope ((enter text >>= λ u. m) f s) (falls_then (enter text) (λ u. m) (falls_enter text) (λ u. h) f s)

pub falls_scope : (scope : Option (List ℕ)) (m : Meaning) → Falling m → Falling (in_scope scope m)
falls_scope None m h = h
falls_scope (Some text) m h = falls_scoped text m h

falls_in_frame : (other : Frame) (m : Meaning) → Falling m → Falling (in_frame other m)
unfolding in_frame
falls_in_frame other m h f s = falls_back_to s.store f (m other s) (h other s)

falls_in_turn : (loop : Counting) (clause : Meaning) → Falling clause → (z : ℤ) → Falling (in_turn loop clause z)
falls_in_turn loop clause h z =
    falls_scope loop.scope _ (falls_then (set loop.control types.Int (Num z)) _ (falls_set loop.control types.Int (Num z)) (λ u. h))

-- what is called falls
abbrev pub CallsFall : Context → Type 0
CallsFall c = (of : BodyNode) (args : List Value) → Falling (c.call of args)

pub falls_call : (c : Context) → CallsFall c → (line : Line) (v : Value) (args : List Value) → Falling (call_meant c line v args)
unfolding call_meant
falls_call c k line (Procedure (as_written of) scope) args =
    falls_choose (nat_lt c.depth most_calls) _ _ (falls_in_frame (frame_of_call of scope args) (c.call of args) (k of args)) (falls_stop _)
falls_call c k line v args = falls_stop _

pub falls_for_turns : (n : ℕ) (loop : Counting) (clause : Meaning) → Falling clause → (z : ℤ) → Falling (for_turns n loop clause z)
unfolding for_turns
falls_for_turns zero loop clause h z = falls_stop _
falls_for_turns (suc n) loop clause h z =
    falls_then take_turn _ falls_turn (λ t. falls_then (in_turn loop clause z) _ (falls_in_turn loop clause h z) (λ v.
    falls_choose (goes_on loop.limit loop.step (z +ℤ loop.step)) _ _
    (falls_then (set (Plain loop.slot) types.Int (Num (z +ℤ loop.step))) _ (falls_set (Plain loop.slot) types.Int (Num (z +ℤ loop.step)))
    (λ u. falls_for_turns n loop clause h (z +ℤ loop.step))) (falls_give Nothing)))

pub falls_for_loop : (n : ℕ) (line : Line) (loop : Counting) (clause : Meaning) → Falling clause → (z : ℤ) → Falling (for_loop n line loop clause z)
unfolding for_loop
falls_for_loop n line loop clause h z =
    falls_choose (is_same loop.step (pos 0)) _ _ (falls_stop _)
    (falls_choose (goes_on loop.limit loop.step z) _ _ (falls_for_turns n loop clause h z) (falls_give Nothing))

pub falls_for : (n : ℕ) (line : Line) (slot : ℕ) (scope : Option (List ℕ)) (control : Place) (a b c clause : Meaning) → Falling a → Falling b → Falling c →
    Falling clause →
    Falling (for_meant n line slot scope control a b c clause)
unfolding for_meant
falls_for n line slot scope control a b c clause ha hb hc h =
    falls_then a _ ha (λ start. falls_then (set (Plain slot) types.Int start) _ (falls_set (Plain slot) types.Int start) (λ u.
    falls_then b _ hb (λ limit. falls_then (set (Plain (slot + 1)) types.Int limit) _ (falls_set (Plain (slot + 1)) types.Int limit) (λ u.
    falls_then c _ hc (λ step. falls_then (set (Plain (slot + 2)) types.Int step) _ (falls_set (Plain (slot + 2)) types.Int step) (λ u.
    falls_for_loop n line (record { slot = slot; scope = scope; control = control; limit = word_of limit; step = word_of step }) clause h (word_of start)))))))

falls_get : (place : Place) (ty : TyView) → Falling (get place ty)
unfolding get change
falls_get (Plain slot) ty f s = (omega arith, refl)
falls_get (Kept up position) ty f s = (omega arith, refl)

falls_answer : (line : Line) (a : Answer) → Falling (answer line a)
unfolding answer
falls_answer line (Gives z) = falls_give (Num z)
falls_answer line (Traps trap) = falls_stop _

falls_while : (n : ℕ) (test clause : Meaning) → Falling test → Falling clause → Falling (while_turns n test clause)
unfolding while_turns
falls_while zero test clause h k = falls_then test _ h (λ v. falls_choose (flag_of v) _ _ (falls_stop _) (falls_give Nothing))
falls_while (suc n) test clause h k =
    falls_then test _ h (λ v. falls_choose (flag_of v) _ _
    (falls_then take_turn _ falls_turn (λ t. falls_then clause _ k (λ u. falls_while n test clause h k))) (falls_give Nothing))

falls_read_line : (line : Line) → Falling (read_line line)
unfolding read_line
falls_read_line line = falls_with_input _ (λ input. falls_attempt line (line_read input) _ (λ bytes.
    falls_then (put_input (behind_line input)) _ (falls_put_input (behind_line input)) (λ u. falls_made_text bytes)))

falls_at_end : Falling at_end
unfolding at_end
falls_at_end = falls_with_input _ (λ input. falls_give _)

falls_lib : (line : Line) (of : Option LibraryProcedure) (vs : List Value) → Falling (lib_meant line of vs)
falls_lib line (Some (OnHeap of)) vs = falls_answered line (heap_call of vs) (λ h. heap_call_weighs of vs h)
falls_lib line (Some ReadLine) vs = falls_read_line line
falls_lib line (Some AtEnd) vs = falls_at_end
falls_lib line (Some Length) vs = falls_give _
falls_lib line (Some IntText) vs = falls_made_text _
falls_lib line None vs = falls_give Nothing

falls_put : (line : Line) (a : Heap → Attempt Heap) (place : Heap → held.Place) →
    Falling (with_heap (λ heap. attempt line (a heap) (assign (place heap))))
falls_put line a place = falls_with_heap _ (λ heap. falls_attempt line (a heap) (assign (place heap)) (λ new. falls_assign (place heap) new))

falls_read : (line : Line) (a : Heap → Attempt Value) → Falling (with_heap (λ heap. attempt line (a heap) read))
falls_read line a = falls_with_heap _ (λ heap. falls_attempt line (a heap) read (λ v. falls_read_value v))

-- scans
falls_last : (scan : Scanning) (key : Key) → Falling (set_last scan key)
falls_last scan (string_key bytes) = falls_set (Plain (scan.refs + 2)) types.Str (Text bytes)
falls_last scan (int_key z) = falls_set (Plain (scan.nums + 1)) types.Int (Num z)

falls_scan_call : (scan : Scanning) → ((args : List Value) → Falling (scan.call args)) → (count : ℕ) (again : Key → Meaning) (found : Found) →
    ((key : Key) → Falling (again key)) → Falling (scan_call scan count again found)
unfolding scan_call
falls_scan_call scan called count again found h =
    falls_then (set_last scan found.key) _ (falls_last scan found.key) (λ u.
    falls_set_then (Plain (scan.nums + 2)) types.Int (Num (pos 1)) _
    (falls_then (scan.call (scan_arguments found)) _ (called (scan_arguments found)) (λ more.
    falls_set_then (Plain scan.nums) types.Int (Num (pos (suc count))) _
    (falls_choose (flag_of more) _ _ (falls_then take_turn _ falls_turn (λ t. h found.key)) (falls_give (Num (pos (suc count))))))))

falls_scan_next : (scan : Scanning) → ((args : List Value) → Falling (scan.call args)) → (count : ℕ) (again : Key → Meaning) (found : Option Found) →
    ((key : Key) → Falling (again key)) → Falling (scan_next scan count again found)
unfolding scan_next
falls_scan_next scan called count again None h = falls_give (Num (pos count))
falls_scan_next scan called count again (Some found) h =
    falls_then (touch (found.object ∷ [])) _ (falls_touch (found.object ∷ [])) (λ u.
    falls_choose (nat_eq count most_scan_calls) _ _ (falls_stop _) (falls_scan_call scan called count again found h))

falls_scan_turns : (n : ℕ) (scan : Scanning) → ((args : List Value) → Falling (scan.call args)) → (last : Option Key) (count : ℕ) →
    Falling (scan_turns n scan last count)
unfolding scan_turns
falls_scan_turns zero scan called last count =
    falls_with_heap _ (λ heap. falls_attempt scan.line (next_key scan.strings heap scan.table last) _
    (λ found. falls_scan_next scan called count (λ key. stop OutOfTurns) found (λ key. falls_stop OutOfTurns)))
falls_scan_turns (suc n) scan called last count =
    falls_with_heap _ (λ heap. falls_attempt scan.line (next_key scan.strings heap scan.table last) _
    (λ found. falls_scan_next scan called count (λ key. scan_turns n scan (Some key) (suc count)) found
    (λ key. falls_scan_turns n scan called (Some key) (suc count))))

falls_begin_scan : (strings : Bool) (refs nums : ℕ) (a f : Meaning) (next : Value → Value → Meaning) → Falling a → Falling f →
    ((table procedure : Value) → Falling (next table procedure)) → Falling (begin_scan strings refs nums a f next)
unfolding begin_scan
falls_begin_scan strings refs nums a f next ha hf h =
    falls_then a _ ha (λ table. falls_set_then (Plain refs) types.Pntr table _
    (falls_then f _ hf (λ procedure. falls_set_then (Plain (refs + 1)) (caller (if strings then types.Str else types.Int)) procedure _
    (falls_set_then (Plain nums) types.Int (Num (pos 0)) _ (falls_set_then (Plain (nums + 1)) types.Int (Num (pos 0)) _
    (falls_set_then (Plain (nums + 2)) types.Int (Num (pos 0)) _ (h table procedure)))))))

-- two clauses, and three, and then what is done with their values
falls_two : (a b : Meaning) (next : Value → Value → Meaning) → Falling a → Falling b → ((v w : Value) → Falling (next v w)) →
    Falling (a >>= λ v. b >>= λ w. next v w)
falls_two a b next ha hb h = falls_then a _ ha (λ v. falls_then b _ hb (λ w. h v w))

falls_three : (a b d : Meaning) (next : Value → Value → Value → Meaning) → Falling a → Falling b → Falling d →
    ((v w u : Value) → Falling (next v w u)) →
    Falling (a >>= λ v. b >>= λ w. d >>= λ u. next v w u)
falls_three a b d next ha hb hd h = falls_then a _ ha (λ v. falls_two b d (next v) hb hd (λ w u. h v w u))

mutual
  unfolding eval eval_all eval_each eval_arms eval_labels

  pub falls_eval : (c : Context) → CallsFall c → (t : Node) → Falling (eval c t)
  falls_eval c k (node.Int z) = falls_give (Num z)
  falls_eval c k (node.Flag b) = falls_give (Flag b)
  falls_eval c k (node.Text bytes) = falls_give (Text bytes)
  falls_eval c k (node.Name place ty) = falls_get place ty
  falls_eval c k (node.SetName place ty e) = falls_then (eval c e) _ (falls_eval c k e) (λ v. falls_set place ty v)
  falls_eval c k (node.Let place ty e) = falls_then (eval c e) _ (falls_eval c k e) (λ v. falls_set place ty v)
  falls_eval c k node.Empty = falls_give Nothing
  falls_eval c k (node.Block scope items) = falls_scope scope (eval_all c Nothing items) (falls_all c k Nothing items)
  falls_eval c k (node.IfDo test a) =
      falls_then (eval c test) _ (falls_eval c k test) (λ v. falls_choose (flag_of v) _ _ (falls_eval c k a) (falls_give Nothing))
  falls_eval c k (node.IfElse test a b) =
      falls_then (eval c test) _ (falls_eval c k test) (λ v. falls_choose (flag_of v) _ _ (falls_eval c k a) (falls_eval c k b))
  falls_eval c k (node.While test a) = falls_while c.bound (eval c test) (eval c a) (falls_eval c k test) (falls_eval c k a)
  falls_eval c k (node.Repeat a test b) =
      falls_while c.bound _ (eval c b) (falls_then (eval c a) _ (falls_eval c k a) (λ u. falls_eval c k test)) (falls_eval c k b)
  falls_eval c k (node.For slot from to by scope control s line) =
      falls_for c.bound line slot scope control _ _ _ _ (falls_eval c k from) (falls_eval c k to) (falls_eval c k by) (falls_eval c k s)
  falls_eval c k (node.Case e arms d ty) = falls_then (eval c e) _ (falls_eval c k e) (λ v. falls_arms c k ty v arms (eval c d) (falls_eval c k d))
  falls_eval c k (node.And a b) = falls_then (eval c a) _ (falls_eval c k a) (λ v. falls_choose (flag_of v) _ _ (falls_eval c k b) (falls_give v))
  falls_eval c k (node.Or a b) = falls_then (eval c a) _ (falls_eval c k a) (λ v. falls_choose (flag_of v) _ _ (falls_give v) (falls_eval c k b))
  falls_eval c k (node.Not e) = falls_then (eval c e) _ (falls_eval c k e) (λ v. falls_give _)
  falls_eval c k (node.Neg e line) = falls_then (eval c e) _ (falls_eval c k e) (λ v. falls_answer line _)
  falls_eval c k (node.Plus e) = falls_eval c k e
  falls_eval c k (node.Arith op a b line) = falls_two (eval c a) (eval c b) _ (falls_eval c k a) (falls_eval c k b) (λ v w. falls_answer line _)
  falls_eval c k (node.Compare op ty a b) = falls_two (eval c a) (eval c b) _ (falls_eval c k a) (falls_eval c k b) (λ v w. falls_give _)
  falls_eval c k node.Nil = falls_give Nil
  falls_eval c k node.Class = falls_give Nothing
  falls_eval c k (node.Is e class) = falls_then (eval c e) _ (falls_eval c k e) (λ v. falls_with_heap _ (λ heap. falls_give _))
  falls_eval c k (node.Join a b line) =
      falls_two (eval c a) (eval c b) _ (falls_eval c k a) (falls_eval c k b) (λ v w. falls_attempt line _ _ (λ bytes. falls_made_text bytes))
  falls_eval c k (node.Part a i n line) =
      falls_three (eval c a) (eval c i) (eval c n) _ (falls_eval c k a) (falls_eval c k i) (falls_eval c k n)
      (λ v from count. falls_attempt line _ _ (λ bytes. falls_made_text bytes))
  falls_eval c k (node.Make class args) = falls_each c k args (make_meant class) (λ vs. falls_made Pointer _)
  falls_eval c k (node.Field e class n ty line) = falls_then (eval c e) _ (falls_eval c k e) (λ o. falls_read line _)
  falls_eval c k (node.SetField p class n ty e line) = falls_two (eval c p) (eval c e) _ (falls_eval c k p) (falls_eval c k e) (λ o v. falls_put line _ _)
  falls_eval c k (node.Fill l u e ty line) =
      falls_three (eval c l) (eval c u) (eval c e) _ (falls_eval c k l) (falls_eval c k u) (falls_eval c k e)
      (λ low high v. falls_attempt line _ (made Vector) (λ object. falls_made Vector object))
  falls_eval c k (node.Elems l items ty line) =
      falls_then (eval c l) _ (falls_eval c k l)
      (λ low. falls_each c k items _ (λ vs. falls_attempt line _ (made Vector) (λ object. falls_made Vector object)))
  falls_eval c k (node.Element v i ty line) = falls_two (eval c v) (eval c i) _ (falls_eval c k v) (falls_eval c k i) (λ vector at. falls_read line _)
  falls_eval c k (node.SetElement v i e ty line) =
      falls_three (eval c v) (eval c i) (eval c e) _ (falls_eval c k v) (falls_eval c k i) (falls_eval c k e) (λ vector at w. falls_put line _ _)
  falls_eval c k (node.Bound v upper) = falls_then (eval c v) _ (falls_eval c k v) (λ vector. falls_with_heap _ (λ heap. falls_give _))
  falls_eval c k (node.Lib code args line) =
      falls_each c k args (lib_meant line (library_procedure code)) (λ vs. falls_lib line (library_procedure code) vs)
  falls_eval c k (node.Write e w false ty line) = falls_then (eval c e) _ (falls_eval c k e) (λ v. falls_written line None _)
  falls_eval c k (node.Write e w true ty line) = falls_two (eval c e) (eval c w) _ (falls_eval c k e) (falls_eval c k w) (λ v width. falls_written line _ _)
  falls_eval c k (node.Abort line) = falls_stop _
  falls_eval c k (node.Proc of) = falls_made_procedure of
  falls_eval c k (node.Call f args line) =
      falls_then (eval c f) _ (falls_eval c k f) (λ v. falls_each c k args (call_meant c line v) (λ args. falls_call c k line v args))
  falls_eval c k (node.Scan text a f q s line) =
      falls_begin_scan text q s (eval c a) (eval c f) _ (falls_eval c k a) (falls_eval c k f) (λ table procedure.
      falls_scan_turns c.bound (scan_by c line text q s table procedure) (λ args. falls_call c k line procedure args) None 0)

  pub falls_all : (c : Context) → CallsFall c → (v : Value) (ts : Nodes) → Falling (eval_all c v ts)
  falls_all c k v none = falls_give v
  falls_all c k v (more t ts) = falls_then (eval c t) _ (falls_eval c k t) (λ w. falls_all c k w ts)

  pub falls_each : (c : Context) → CallsFall c → (ts : Nodes) (next : List Value → Meaning) → ((vs : List Value) → Falling (next vs)) →
      Falling (eval_each c ts next)
  falls_each c k none next h = h []
  falls_each c k (more t ts) next h = falls_then (eval c t) _ (falls_eval c k t) (λ v. falls_each c k ts (λ vs. next (v ∷ vs)) (λ vs. h (v ∷ vs)))

  pub falls_arms : (c : Context) → CallsFall c → (ty : TyView) (v : Value) (arms : Arms) (default : Meaning) → Falling default →
      Falling (eval_arms c ty v arms default)
  falls_arms c k ty v no_arms default h = h
  falls_arms c k ty v (more_arms (arm labels a) rest) default h =
      falls_then (eval_labels c ty v labels) _ (falls_labels c k ty v labels)
      (λ found. falls_choose (flag_of found) _ _ (falls_eval c k a) (falls_arms c k ty v rest default h))

  pub falls_labels : (c : Context) → CallsFall c → (ty : TyView) (v : Value) (labels : Nodes) → Falling (eval_labels c ty v labels)
  falls_labels c k ty v none = falls_give _
  falls_labels c k ty v (more label rest) =
      falls_then (eval c label) _ (falls_eval c k label) (λ w. falls_choose (is_equal ty v w) _ _ (falls_give _) (falls_labels c k ty v rest))

-- what is called falls too, however many turns may be left
falls_keep : (place : Place) (ty : TyView) (v : Value) → Falling (keep place ty v)
unfolding keep
falls_keep (Plain slot) ty v = falls_give Nothing
falls_keep (Kept up position) ty v = falls_set (Kept up position) ty v

pub falls_keep_all : (params : List Param) (args : List Value) → Falling (keep_all params args)
unfolding keep_all
falls_keep_all [] args = falls_give Nothing
falls_keep_all (param ∷ params) [] = falls_give Nothing
falls_keep_all (param ∷ params) (v ∷ args) =
    falls_then (keep param.place param.ty v) _ (falls_keep param.place param.ty v) (λ u. falls_keep_all params args)

falls_body : (c : Context) → CallsFall c → (of : BodyNode) (args : List Value) → Falling (body_meant c of args)
unfolding body_meant
falls_body c k (body params gives tree text line) args =
    falls_scope text _ (falls_then (keep_all params args) _ (falls_keep_all params args) (λ u. falls_eval c k tree))

falls_within : (n depth : ℕ) (of : BodyNode) (args : List Value) → Falling (call_within n depth of args)
unfolding call_within
falls_within zero depth of args = falls_stop _
falls_within (suc n) depth of args =
    falls_then take_turn _ falls_turn (λ t. falls_then touch_scope _ falls_touch_scope
    (λ u. falls_body (context n depth) (falls_within n (suc depth)) of args))

pub calls_fall : (n depth : ℕ) → CallsFall (context n depth)
calls_fall n depth = falls_within n (suc depth)

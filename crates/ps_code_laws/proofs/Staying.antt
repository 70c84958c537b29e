-- A clause leaves the scope that it stands in: each scope that is entered is left again, and a call comes back to its own frame.
use Rattle.std.proofs.Common.{◌≡◌, ◌∙◌, refl, ℕ, zero, suc, ◌+◌, ℤ, pos, ◌+ℤ◌, Bool, true, false, List, [], ◌∷◌, Option, Some, None}
use Rattle.std.specs.Prelude.{nat_eq, nat_lt, if◌then◌else◌}
use Rattle.ps_gen.specs.ps_base.TyView.{TyView}
use Rattle.ps_gen.specs.ps_base.TyView as types
use Rattle.ps_gen.specs.ps_base.declared.line.Line.{Line}
use Rattle.ps_gen.specs.ps_program.declared.place.Place.{Place}
use Rattle.ps_gen.specs.ps_program.declared.place.Place.TheVariants.{Plain, Kept}
use Rattle.ps_gen.specs.ps_program.Node.{Node, Nodes, none, more, Arms, no_arms, more_arms, arm, BodyNode}
use Rattle.ps_gen.specs.ps_program.Node as node
use Rattle.ps_typing_laws.specs.ps_typing.Placing.{is_number}
use Rattle.ps_typing_laws.specs.ps_typing.Library.{caller}
use Rattle.ps_stepping.specs.ps_heap.Operators.{Answer, Gives, Traps, is_same}
use Rattle.ps_stepping.specs.ps_heap.Ends.{End, OutOfTurns}
use Rattle.ps_stepping.specs.ps_heap.Values.{Value, Num, Flag, Text, Nil, Pointer, Vector, Procedure, Nothing, as_written, word_of, flag_of}
use Rattle.ps_stepping.specs.ps_heap.Texts.{Attempt, Yields, Fails, line_read, behind_line}
use Rattle.ps_stepping.specs.ps_heap.Objects.{Heap, Object}
use Rattle.ps_stepping.specs.ps_heap.Tables.{Key, string_key, int_key}
use Rattle.ps_stepping.specs.ps_heap.Held.{Held, assigning, touching, reading}
use Rattle.ps_stepping.specs.ps_heap.Held as held
use Rattle.ps_stepping.specs.ps_heap.Calls as calls
use Rattle.ps_stepping.specs.ps_heap.Library.{LibraryProcedure, OnHeap, ReadLine, AtEnd, Length, IntText, library_procedure, heap_call}
use Rattle.ps_stepping.specs.ps_heap.Scans.{Found, most_scan_calls, next_key, scan_arguments}
use Rattle.ps_stepping.specs.ps_meaning.Meaning.{Frame, State, Outcome, Value_is, Ends, Meaning, give, stop, after, ◌>>=◌, choose, answer, attempt, with_heap, change, touch, read, assign, put_answer, answered, made, made_text, made_procedure, with_input, put_input, enter, back_in, back_to, scoped, in_scope, in_frame, emit, in_places, is_width, written, with_turns, turned, take_turn, with_local, get, set}
use Rattle.ps_stepping.specs.ps_meaning.Frames.{frame_of_call}
use Rattle.ps_stepping.specs.ps_meaning.Operations.{is_equal, make_meant, read_line, at_end, lib_meant}
use Rattle.ps_stepping.specs.ps_meaning.Loops.{while_turns, Counting, goes_on, in_turn, for_turns, for_loop, for_meant, Scanning, set_last, scan_call, scan_next, scan_turns, begin_scan}
use Rattle.ps_stepping.specs.ps_meaning.Evaluation.{Context, most_calls, call_meant, eval, eval_all, eval_each, eval_arms, eval_labels}
use Rattle.ps_code_laws.proofs.LibraryWalks.{scan_by}

abbrev pub IsIn : Option ℕ → Outcome → Type 0
IsIn scope (Value_is v f s) = f.scope ≡ scope
IsIn scope (Ends e s) = Unit {0}

abbrev pub Stays : Meaning → Type 0
Stays m = (f : Frame) (s : State) → IsIn f.scope (m f s)

in_same : (scope other : Option ℕ) (o : Outcome) → scope ≡ other → IsIn scope o → IsIn other o
in_same scope other (Value_is v f s) e h = h ∙ e
in_same scope other (Ends e s) is h = tt

pub stays_after : (scope : Option ℕ) (o : Outcome) (b : Value → Meaning) → IsIn scope o → ((v : Value) → Stays (b v)) → IsIn scope (after o b)
unfolding after
stays_after scope (Value_is v f s) b h g = in_same f.scope scope (b v f s) h (g v f s)
stays_after scope (Ends e s) b h g = tt

pub stays_then : (a : Meaning) (b : Value → Meaning) → Stays a → ((v : Value) → Stays (b v)) → Stays (a >>= b)
unfolding ◌>>=◌
stays_then a b h g f s = stays_after f.scope (a f s) b (h f s) g

pub stays_give : (v : Value) → Stays (give v)
unfolding give
stays_give v f s = refl

pub stays_stop : (e : End) → Stays (stop e)
unfolding stop
stays_stop e f s = tt

pub stays_choose : (b : Bool) (m n : Meaning) → Stays m → Stays n → Stays (choose b m n)
unfolding choose
stays_choose true m n h k = h
stays_choose false m n h k = k

pub stays_attempt : {A : Type 0} (line : Line) (a : Attempt A) (next : A → Meaning) → ((v : A) → Stays (next v)) → Stays (attempt line a next)
unfolding attempt
stays_attempt line (Yields v) next h = h v
stays_attempt line (Fails trap) next h = stays_stop _

pub stays_with_heap : (next : Heap → Meaning) → ((heap : Heap) → Stays (next heap)) → Stays (with_heap next)
unfolding with_heap
stays_with_heap next h f s = h s.store.held.objects f s

stays_change : (v : Value) (does : Held → Held) → Stays (change v does)
unfolding change
stays_change v does f s = refl

stays_touch : (ids : List ℕ) → Stays (touch ids)
stays_touch ids = stays_change Nothing (touching ids)

stays_read_value : (v : Value) → Stays (read v)
stays_read_value v = stays_change v (reading v)

stays_assign : (place : held.Place) (heap : Heap) → Stays (assign place heap)
stays_assign place heap = stays_change Nothing (assigning place heap)

stays_put_answer : (a : calls.Answer) → Stays (put_answer a)
unfolding put_answer
stays_put_answer a f s = refl

stays_answered : (line : Line) (call : Held → Attempt calls.Answer) → Stays (answered line call)
unfolding answered
stays_answered line call f s = stays_attempt line (call s.store.held) put_answer (λ a. stays_put_answer a) f s

pub stays_made : (denoting : ℕ → Value) (object : Object) → Stays (made denoting object)
unfolding made
stays_made denoting object f s = refl

pub stays_made_text : (bytes : List ℕ) → Stays (made_text bytes)
unfolding made_text
stays_made_text bytes f s = refl

stays_emit : (bytes : List ℕ) → Stays (emit bytes)
unfolding emit
stays_emit bytes f s = refl

stays_either : (b : Bool) (m n : Meaning) → Stays m → Stays n → Stays (if b then m else n)
stays_either true m n h k = h
stays_either false m n h k = k

pub stays_written : (line : Line) (width : Option ℤ) (bytes : List ℕ) → Stays (written line width bytes)
unfolding written
stays_written line width bytes = stays_either (is_width width) _ _ (stays_emit (in_places width bytes)) (stays_stop _)

turned_stays : (f : Frame) (s : State) (turns : ℕ) → IsIn f.scope (turned (with_turns s.store turns) f s)
turned_stays f s zero = tt
turned_stays f s (suc left) = refl

pub stays_turn : Stays take_turn
unfolding take_turn
stays_turn f s = turned_stays f s s.store.turns

scope_of_frame : (f : Frame) (slot : ℕ) (v : Value) (number : Bool) →
    (if number then record f { nums = with_local f.nums slot v } else record f { refs = with_local f.refs slot v }).scope ≡ f.scope
scope_of_frame f slot v true = refl
scope_of_frame f slot v false = refl

pub stays_set : (place : Place) (ty : TyView) (v : Value) → Stays (set place ty v)
unfolding set change
stays_set (Plain slot) ty v f s = scope_of_frame f slot v (is_number ty)
stays_set (Kept up position) ty v f s = refl

-- a value is put in a place, and then comes something
stays_set_then : (place : Place) (ty : TyView) (v : Value) (next : Meaning) → Stays next → Stays (set place ty v >>= λ u. next)
stays_set_then place ty v next h = stays_then (set place ty v) (λ u. next) (stays_set place ty v) (λ u. h)

stays_made_procedure : (of : BodyNode) → Stays (made_procedure of)
unfolding made_procedure
stays_made_procedure of f s = refl

stays_with_input : (next : List ℕ → Meaning) → ((input : List ℕ) → Stays (next input)) → Stays (with_input next)
unfolding with_input
stays_with_input next h f s = h s.store.input f s

stays_put_input : (input : List ℕ) → Stays (put_input input)
unfolding put_input
stays_put_input input f s = refl

-- after a scope, and after a call
in_back_in : (scope : Option ℕ) (o : Outcome) → IsIn scope (back_in scope o)
unfolding back_in
in_back_in scope (Value_is v f s) = refl
in_back_in scope (Ends e s) = tt

in_back_to : (own : Frame) (o : Outcome) → IsIn own.scope (back_to own o)
unfolding back_to
in_back_to own (Value_is v f s) = refl
in_back_to own (Ends e s) = tt

pub stays_scoped : (text : List ℕ) (m : Meaning) → Stays (scoped text m)
unfolding scoped
stays_scoped text m f s = in_back_in f.scope ((enter text >>= λ u. m) f s)

pub stays_scope : (scope : Option (List ℕ)) (m : Meaning) → Stays m → Stays (in_scope scope m)
stays_scope None m h = h
stays_scope (Some text) m h = stays_scoped text m

stays_in_frame : (other : Frame) (m : Meaning) → Stays (in_frame other m)
unfolding in_frame
stays_in_frame other m f s = in_back_to f (m other s)

stays_in_turn : (loop : Counting) (clause : Meaning) → Stays clause → (z : ℤ) → Stays (in_turn loop clause z)
stays_in_turn loop clause h z =
    stays_scope loop.scope _ (stays_then (set loop.control types.Int (Num z)) _ (stays_set loop.control types.Int (Num z)) (λ u. h))

stays_call : (c : Context) (line : Line) (v : Value) (args : List Value) → Stays (call_meant c line v args)
unfolding call_meant
stays_call c line (Procedure (as_written of) scope) args =
    stays_choose (nat_lt c.depth most_calls) _ _ (stays_in_frame (frame_of_call of scope args) (c.call of args)) (stays_stop _)
stays_call c line v args = stays_stop _

pub stays_for_turns : (n : ℕ) (loop : Counting) (clause : Meaning) → Stays clause → (z : ℤ) → Stays (for_turns n loop clause z)
unfolding for_turns
stays_for_turns zero loop clause h z = stays_stop _
stays_for_turns (suc n) loop clause h z =
    stays_then take_turn _ stays_turn (λ t. stays_then (in_turn loop clause z) _ (stays_in_turn loop clause h z) (λ v.
    stays_choose (goes_on loop.limit loop.step (z +ℤ loop.step)) _ _
    (stays_then (set (Plain loop.slot) types.Int (Num (z +ℤ loop.step))) _ (stays_set (Plain loop.slot) types.Int (Num (z +ℤ loop.step)))
    (λ u. stays_for_turns n loop clause h (z +ℤ loop.step))) (stays_give Nothing)))

pub stays_for_loop : (n : ℕ) (line : Line) (loop : Counting) (clause : Meaning) → Stays clause → (z : ℤ) → Stays (for_loop n line loop clause z)
unfolding for_loop
stays_for_loop n line loop clause h z =
    stays_choose (is_same loop.step (pos 0)) _ _ (stays_stop _)
    (stays_choose (goes_on loop.limit loop.step z) _ _ (stays_for_turns n loop clause h z) (stays_give Nothing))

pub stays_for : (n : ℕ) (line : Line) (slot : ℕ) (scope : Option (List ℕ)) (control : Place) (a b c clause : Meaning) → Stays a → Stays b → Stays c →
    Stays clause →
    Stays (for_meant n line slot scope control a b c clause)
unfolding for_meant
stays_for n line slot scope control a b c clause ha hb hc h =
    stays_then a _ ha (λ start. stays_then (set (Plain slot) types.Int start) _ (stays_set (Plain slot) types.Int start) (λ u.
    stays_then b _ hb (λ limit. stays_then (set (Plain (slot + 1)) types.Int limit) _ (stays_set (Plain (slot + 1)) types.Int limit) (λ u.
    stays_then c _ hc (λ step. stays_then (set (Plain (slot + 2)) types.Int step) _ (stays_set (Plain (slot + 2)) types.Int step) (λ u.
    stays_for_loop n line (record { slot = slot; scope = scope; control = control; limit = word_of limit; step = word_of step }) clause h (word_of start)))))))

stays_get : (place : Place) (ty : TyView) → Stays (get place ty)
unfolding get change
stays_get (Plain slot) ty f s = refl
stays_get (Kept up position) ty f s = refl

stays_answer : (line : Line) (a : Answer) → Stays (answer line a)
unfolding answer
stays_answer line (Gives z) = stays_give (Num z)
stays_answer line (Traps trap) = stays_stop _

stays_while : (n : ℕ) (test clause : Meaning) → Stays test → Stays clause → Stays (while_turns n test clause)
unfolding while_turns
stays_while zero test clause h k = stays_then test _ h (λ v. stays_choose (flag_of v) _ _ (stays_stop _) (stays_give Nothing))
stays_while (suc n) test clause h k =
    stays_then test _ h (λ v. stays_choose (flag_of v) _ _
    (stays_then take_turn _ stays_turn (λ t. stays_then clause _ k (λ u. stays_while n test clause h k))) (stays_give Nothing))

stays_read_line : (line : Line) → Stays (read_line line)
unfolding read_line
stays_read_line line = stays_with_input _ (λ input. stays_attempt line (line_read input) _ (λ bytes.
    stays_then (put_input (behind_line input)) _ (stays_put_input (behind_line input)) (λ u. stays_made_text bytes)))

stays_at_end : Stays at_end
unfolding at_end
stays_at_end = stays_with_input _ (λ input. stays_give _)

stays_lib : (line : Line) (of : Option LibraryProcedure) (vs : List Value) → Stays (lib_meant line of vs)
stays_lib line (Some (OnHeap of)) vs = stays_answered line (heap_call of vs)
stays_lib line (Some ReadLine) vs = stays_read_line line
stays_lib line (Some AtEnd) vs = stays_at_end
stays_lib line (Some Length) vs = stays_give _
stays_lib line (Some IntText) vs = stays_made_text _
stays_lib line None vs = stays_give Nothing

stays_put : (line : Line) (a : Heap → Attempt Heap) (place : Heap → held.Place) →
    Stays (with_heap (λ heap. attempt line (a heap) (assign (place heap))))
stays_put line a place = stays_with_heap _ (λ heap. stays_attempt line (a heap) (assign (place heap)) (λ new. stays_assign (place heap) new))

stays_read : (line : Line) (a : Heap → Attempt Value) → Stays (with_heap (λ heap. attempt line (a heap) read))
stays_read line a = stays_with_heap _ (λ heap. stays_attempt line (a heap) read (λ v. stays_read_value v))

-- scans
stays_last : (scan : Scanning) (key : Key) → Stays (set_last scan key)
stays_last scan (string_key bytes) = stays_set (Plain (scan.refs + 2)) types.Str (Text bytes)
stays_last scan (int_key z) = stays_set (Plain (scan.nums + 1)) types.Int (Num z)

stays_scan_call : (scan : Scanning) → ((args : List Value) → Stays (scan.call args)) → (count : ℕ) (again : Key → Meaning) (found : Found) →
    ((key : Key) → Stays (again key)) → Stays (scan_call scan count again found)
unfolding scan_call
stays_scan_call scan called count again found h =
    stays_then (set_last scan found.key) _ (stays_last scan found.key) (λ u.
    stays_set_then (Plain (scan.nums + 2)) types.Int (Num (pos 1)) _
    (stays_then (scan.call (scan_arguments found)) _ (called (scan_arguments found)) (λ more.
    stays_set_then (Plain scan.nums) types.Int (Num (pos (suc count))) _
    (stays_choose (flag_of more) _ _ (stays_then take_turn _ stays_turn (λ t. h found.key)) (stays_give (Num (pos (suc count))))))))

stays_scan_next : (scan : Scanning) → ((args : List Value) → Stays (scan.call args)) → (count : ℕ) (again : Key → Meaning) (found : Option Found) →
    ((key : Key) → Stays (again key)) → Stays (scan_next scan count again found)
unfolding scan_next
stays_scan_next scan called count again None h = stays_give (Num (pos count))
stays_scan_next scan called count again (Some found) h =
    stays_then (touch (found.object ∷ [])) _ (stays_touch (found.object ∷ [])) (λ u.
    stays_choose (nat_eq count most_scan_calls) _ _ (stays_stop _) (stays_scan_call scan called count again found h))

stays_scan_turns : (n : ℕ) (scan : Scanning) → ((args : List Value) → Stays (scan.call args)) → (last : Option Key) (count : ℕ) →
    Stays (scan_turns n scan last count)
unfolding scan_turns
stays_scan_turns zero scan called last count =
    stays_with_heap _ (λ heap. stays_attempt scan.line (next_key scan.strings heap scan.table last) _
    (λ found. stays_scan_next scan called count (λ key. stop OutOfTurns) found (λ key. stays_stop OutOfTurns)))
stays_scan_turns (suc n) scan called last count =
    stays_with_heap _ (λ heap. stays_attempt scan.line (next_key scan.strings heap scan.table last) _
    (λ found. stays_scan_next scan called count (λ key. scan_turns n scan (Some key) (suc count)) found
    (λ key. stays_scan_turns n scan called (Some key) (suc count))))

stays_begin_scan : (strings : Bool) (refs nums : ℕ) (a f : Meaning) (next : Value → Value → Meaning) → Stays a → Stays f →
    ((table procedure : Value) → Stays (next table procedure)) → Stays (begin_scan strings refs nums a f next)
unfolding begin_scan
stays_begin_scan strings refs nums a f next ha hf h =
    stays_then a _ ha (λ table. stays_set_then (Plain refs) types.Pntr table _
    (stays_then f _ hf (λ procedure. stays_set_then (Plain (refs + 1)) (caller (if strings then types.Str else types.Int)) procedure _
    (stays_set_then (Plain nums) types.Int (Num (pos 0)) _ (stays_set_then (Plain (nums + 1)) types.Int (Num (pos 0)) _
    (stays_set_then (Plain (nums + 2)) types.Int (Num (pos 0)) _ (h table procedure)))))))

-- two clauses, and three, and then what is done with their values
stays_two : (a b : Meaning) (next : Value → Value → Meaning) → Stays a → Stays b → ((v w : Value) → Stays (next v w)) →
    Stays (a >>= λ v. b >>= λ w. next v w)
stays_two a b next ha hb h = stays_then a _ ha (λ v. stays_then b _ hb (λ w. h v w))

stays_three : (a b d : Meaning) (next : Value → Value → Value → Meaning) → Stays a → Stays b → Stays d →
    ((v w u : Value) → Stays (next v w u)) →
    Stays (a >>= λ v. b >>= λ w. d >>= λ u. next v w u)
stays_three a b d next ha hb hd h = stays_then a _ ha (λ v. stays_two b d (next v) hb hd (λ w u. h v w u))

mutual
  unfolding eval eval_all eval_each eval_arms eval_labels

  pub stays_eval : (c : Context) → (t : Node) → Stays (eval c t)
  stays_eval c (node.Int z) = stays_give (Num z)
  stays_eval c (node.Flag b) = stays_give (Flag b)
  stays_eval c (node.Text bytes) = stays_give (Text bytes)
  stays_eval c (node.Name place ty) = stays_get place ty
  stays_eval c (node.SetName place ty e) = stays_then (eval c e) _ (stays_eval c e) (λ v. stays_set place ty v)
  stays_eval c (node.Let place ty e) = stays_then (eval c e) _ (stays_eval c e) (λ v. stays_set place ty v)
  stays_eval c node.Empty = stays_give Nothing
  stays_eval c (node.Block scope items) = stays_scope scope (eval_all c Nothing items) (stays_all c Nothing items)
  stays_eval c (node.IfDo test a) =
      stays_then (eval c test) _ (stays_eval c test) (λ v. stays_choose (flag_of v) _ _ (stays_eval c a) (stays_give Nothing))
  stays_eval c (node.IfElse test a b) =
      stays_then (eval c test) _ (stays_eval c test) (λ v. stays_choose (flag_of v) _ _ (stays_eval c a) (stays_eval c b))
  stays_eval c (node.While test a) = stays_while c.bound (eval c test) (eval c a) (stays_eval c test) (stays_eval c a)
  stays_eval c (node.Repeat a test b) =
      stays_while c.bound _ (eval c b) (stays_then (eval c a) _ (stays_eval c a) (λ u. stays_eval c test)) (stays_eval c b)
  stays_eval c (node.For slot from to by scope control s line) =
      stays_for c.bound line slot scope control _ _ _ _ (stays_eval c from) (stays_eval c to) (stays_eval c by) (stays_eval c s)
  stays_eval c (node.Case e arms d ty) = stays_then (eval c e) _ (stays_eval c e) (λ v. stays_arms c ty v arms (eval c d) (stays_eval c d))
  stays_eval c (node.And a b) = stays_then (eval c a) _ (stays_eval c a) (λ v. stays_choose (flag_of v) _ _ (stays_eval c b) (stays_give v))
  stays_eval c (node.Or a b) = stays_then (eval c a) _ (stays_eval c a) (λ v. stays_choose (flag_of v) _ _ (stays_give v) (stays_eval c b))
  stays_eval c (node.Not e) = stays_then (eval c e) _ (stays_eval c e) (λ v. stays_give _)
  stays_eval c (node.Neg e line) = stays_then (eval c e) _ (stays_eval c e) (λ v. stays_answer line _)
  stays_eval c (node.Plus e) = stays_eval c e
  stays_eval c (node.Arith op a b line) = stays_two (eval c a) (eval c b) _ (stays_eval c a) (stays_eval c b) (λ v w. stays_answer line _)
  stays_eval c (node.Compare op ty a b) = stays_two (eval c a) (eval c b) _ (stays_eval c a) (stays_eval c b) (λ v w. stays_give _)
  stays_eval c node.Nil = stays_give Nil
  stays_eval c node.Class = stays_give Nothing
  stays_eval c (node.Is e class) = stays_then (eval c e) _ (stays_eval c e) (λ v. stays_with_heap _ (λ heap. stays_give _))
  stays_eval c (node.Join a b line) =
      stays_two (eval c a) (eval c b) _ (stays_eval c a) (stays_eval c b) (λ v w. stays_attempt line _ _ (λ bytes. stays_made_text bytes))
  stays_eval c (node.Part a i n line) =
      stays_three (eval c a) (eval c i) (eval c n) _ (stays_eval c a) (stays_eval c i) (stays_eval c n)
      (λ v from count. stays_attempt line _ _ (λ bytes. stays_made_text bytes))
  stays_eval c (node.Make class args) = stays_each c args (make_meant class) (λ vs. stays_made Pointer _)
  stays_eval c (node.Field e class n ty line) = stays_then (eval c e) _ (stays_eval c e) (λ o. stays_read line _)
  stays_eval c (node.SetField p class n ty e line) = stays_two (eval c p) (eval c e) _ (stays_eval c p) (stays_eval c e) (λ o v. stays_put line _ _)
  stays_eval c (node.Fill l u e ty line) =
      stays_three (eval c l) (eval c u) (eval c e) _ (stays_eval c l) (stays_eval c u) (stays_eval c e)
      (λ low high v. stays_attempt line _ (made Vector) (λ object. stays_made Vector object))
  stays_eval c (node.Elems l items ty line) =
      stays_then (eval c l) _ (stays_eval c l)
      (λ low. stays_each c items _ (λ vs. stays_attempt line _ (made Vector) (λ object. stays_made Vector object)))
  stays_eval c (node.Element v i ty line) = stays_two (eval c v) (eval c i) _ (stays_eval c v) (stays_eval c i) (λ vector at. stays_read line _)
  stays_eval c (node.SetElement v i e ty line) =
      stays_three (eval c v) (eval c i) (eval c e) _ (stays_eval c v) (stays_eval c i) (stays_eval c e) (λ vector at w. stays_put line _ _)
  stays_eval c (node.Bound v upper) = stays_then (eval c v) _ (stays_eval c v) (λ vector. stays_with_heap _ (λ heap. stays_give _))
  stays_eval c (node.Lib code args line) =
      stays_each c args (lib_meant line (library_procedure code)) (λ vs. stays_lib line (library_procedure code) vs)
  stays_eval c (node.Write e w false ty line) = stays_then (eval c e) _ (stays_eval c e) (λ v. stays_written line None _)
  stays_eval c (node.Write e w true ty line) = stays_two (eval c e) (eval c w) _ (stays_eval c e) (stays_eval c w) (λ v width. stays_written line _ _)
  stays_eval c (node.Abort line) = stays_stop _
  stays_eval c (node.Proc of) = stays_made_procedure of
  stays_eval c (node.Call f args line) =
      stays_then (eval c f) _ (stays_eval c f) (λ v. stays_each c args (call_meant c line v) (λ args. stays_call c line v args))
  stays_eval c (node.Scan text a f q s line) =
      stays_begin_scan text q s (eval c a) (eval c f) _ (stays_eval c a) (stays_eval c f) (λ table procedure.
      stays_scan_turns c.bound (scan_by c line text q s table procedure) (λ args. stays_call c line procedure args) None 0)

  pub stays_all : (c : Context) → (v : Value) (ts : Nodes) → Stays (eval_all c v ts)
  stays_all c v none = stays_give v
  stays_all c v (more t ts) = stays_then (eval c t) _ (stays_eval c t) (λ w. stays_all c w ts)

  pub stays_each : (c : Context) → (ts : Nodes) (next : List Value → Meaning) → ((vs : List Value) → Stays (next vs)) → Stays (eval_each c ts next)
  stays_each c none next h = h []
  stays_each c (more t ts) next h = stays_then (eval c t) _ (stays_eval c t) (λ v. stays_each c ts (λ vs. next (v ∷ vs)) (λ vs. h (v ∷ vs)))

  pub stays_arms : (c : Context) → (ty : TyView) (v : Value) (arms : Arms) (default : Meaning) → Stays default →
      Stays (eval_arms c ty v arms default)
  stays_arms c ty v no_arms default h = h
  stays_arms c ty v (more_arms (arm labels a) rest) default h =
      stays_then (eval_labels c ty v labels) _ (stays_labels c ty v labels)
      (λ found. stays_choose (flag_of found) _ _ (stays_eval c a) (stays_arms c ty v rest default h))

  pub stays_labels : (c : Context) → (ty : TyView) (v : Value) (labels : Nodes) → Stays (eval_labels c ty v labels)
  stays_labels c ty v none = stays_give _
  stays_labels c ty v (more label rest) =
      stays_then (eval c label) _ (stays_eval c label) (λ w. stays_choose (is_equal ty v w) _ _ (stays_give _) (stays_labels c ty v rest))

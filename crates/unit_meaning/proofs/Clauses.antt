-- What a clause returns: where the procedures of the heap, of the locals and of what was saved have units, and the clause's own literals do, they still do afterwards. No clause needs
-- to be fit for it.
use Rattle.std.proofs.Common.{ℕ, zero, suc, ◌+◌, ℤ, pos, ◌+ℤ◌, Bool, true, false, List, [], ◌∷◌, Option, Some, None}
use Rattle.std.specs.Prelude.{nat_eq, nat_lt, get_or, if◌then◌else◌}
use Rattle.ps_gen.specs.ps_base.TyView.{TyView}
use Rattle.ps_gen.specs.ps_base.TyView as types
use Rattle.ps_gen.specs.ps_base.declared.line.Line.{Line}
use Rattle.ps_stepping.specs.text_forms.Forms.{forms_of, form_in, element_of}
use Rattle.ps_gen.specs.ps_type_text.Texts.{type_text}
use Rattle.ps_gen.specs.ps_program.declared.place.Place.{Place}
use Rattle.ps_gen.specs.ps_program.declared.place.Place.TheVariants.{Plain, Kept}
use Rattle.ps_gen.specs.ps_program.Node.{Param, Node, Nodes, none, more, Arms, no_arms, more_arms, arm, BodyNode, body}
use Rattle.ps_gen.specs.ps_program.Node as node
use Rattle.ps_gen.specs.Units.{HasUnit}
use Rattle.ps_typing_laws.specs.ps_typing.Placing.{is_number}
use Rattle.ps_typing_laws.specs.ps_typing.Library.{caller}
use Rattle.ps_heap.specs.Operators.{Answer, Gives, Traps, is_same}
use Rattle.ps_heap.specs.Ends.{End, OutOfTurns}
use Rattle.ps_heap.specs.Events.{Turn}
use Rattle.ps_heap.specs.Values.{Value, Num, Flag, Text, Nil, Pointer, Vector, Procedure, Nothing, as_written, word_of, flag_of}
use Rattle.ps_heap.specs.Texts.{Attempt, Yields, Fails, line_read, behind_line}
use Rattle.ps_heap.specs.Objects.{Heap, Object, Structure, type_in, vector_in}
use Rattle.ps_heap.specs.Scopes.{new_scope}
use Rattle.ps_heap.specs.Tables.{Key, string_key, int_key}
use Rattle.ps_heap.specs.References.{scope_ids}
use Rattle.ps_heap.specs.Held.{Held, assigning, touching, reading}
use Rattle.ps_heap.specs.Held as held
use Rattle.ps_heap.specs.Calls as calls
use Rattle.ps_heap.specs.Library.{LibraryProcedure, OnHeap, ReadLine, AtEnd, Length, IntText, library_procedure, heap_call}
use Rattle.ps_heap.specs.Scans.{Found, most_scan_calls, next_key, shown_key, scan_arguments}
use Rattle.ps_meaning.specs.Meaning.{Frame, State, Outcome, Value_is, Ends, Meaning, counted_in, give, stop, after, ◌>>=◌, choose, answer, attempt, with_heap, change, touch, touch_scope, read, assign, put_answer, answered, made, made_text, made_procedure, with_input, put_input, enter, back_in, back_to, scoped, in_scope, in_frame, some_out, emit, in_places, is_width, written, with_turns, turned, take_turn, with_local, get, set}
use Rattle.ps_meaning.specs.Frames.{stands_on, arguments_on, frame_of_call, keep, keep_all}
use Rattle.ps_meaning.specs.Calls.{body_meant, call_within, context}
use Rattle.ps_meaning.specs.Operations.{kept_all, is_equal, make_meant, elements_meant, read_line, at_end, lib_meant}
use Rattle.ps_meaning.specs.Loops.{while_turns, Counting, goes_on, in_turn, for_turns, for_loop, for_meant, Scanning, set_last, scan_call, scan_next, scan_turns, begin_scan}
use Rattle.ps_meaning.specs.Evaluation.{Context, most_calls, call_meant, eval, eval_all, eval_each, eval_arms, eval_labels}
use Rattle.ps_code_laws.specs.Literals.{BodiesAre, BodyIs, AllBodiesAre, ArmsBodiesAre, HasUnits, HaveUnits}
use Rattle.unit_meaning.proofs.Objects.{AllHaveUnits, InObject, InFrame, OnYield, in_kept_name, in_kept, in_kept_all, in_kept_elements, in_first, in_field, in_with_field, in_vector_of, in_filled, in_element, in_with_element, in_with_kept_name, in_with_new, in_row}
use Rattle.unit_meaning.proofs.Calls.{SaveUnits, saves_append, IsKept, heap_call_kept}

-- names of any type
abbrev pub AnyType : TyView → Type 0
AnyType ty = Unit {0}

-- the procedures of what is held have units, and so have those that each commit saved
pub record IsState (s : State) : Type 0 where
  pub heap : HaveUnits s.store.held.objects
  pub saves : SaveUnits s.events

abbrev pub Left : Outcome → Type 0
Left (Value_is v f s) = HasUnits v × InFrame f × IsState s
Left (Ends e s) = SaveUnits s.events

abbrev pub Holds : Meaning → Type 0
Holds m = (f : Frame) (s : State) → InFrame f → IsState s → Left (m f s)

holds_after : (o : Outcome) (b : Value → Meaning) → Left o → ((v : Value) → HasUnits v → Holds (b v)) → Left (after o b)
unfolding after
holds_after (Value_is v f s) b h k = k v h.0 f s h.1 h.2
holds_after (Ends e s) b h k = h

holds_then : (a : Meaning) (b : Value → Meaning) → Holds a → ((v : Value) → HasUnits v → Holds (b v)) → Holds (a >>= b)
unfolding ◌>>=◌
holds_then a b h k f s in_frame good = holds_after (a f s) b (h f s in_frame good) k

holds_give : (v : Value) → HasUnits v → Holds (give v)
unfolding give
holds_give v is f s in_frame good = (is, in_frame, good)

holds_stop : (e : End) → Holds (stop e)
unfolding stop
holds_stop e f s in_frame good = good.saves

holds_choose : (b : Bool) (m n : Meaning) → Holds m → Holds n → Holds (choose b m n)
unfolding choose
holds_choose true m n h k = h
holds_choose false m n h k = k

holds_either : (b : Bool) (m n : Meaning) → Holds m → Holds n → Holds (if b then m else n)
holds_either true m n h k = h
holds_either false m n h k = k

holds_attempt : {A : Type 0} (Is : A → Type 0) (line : Line) (a : Attempt A) (next : A → Meaning) → OnYield Is a →
    ((x : A) → Is x → Holds (next x)) → Holds (attempt line a next)
unfolding attempt
holds_attempt Is line (Yields x) next h k = k x h
holds_attempt Is line (Fails trap) next h k = holds_stop _

holds_with_heap : (next : Heap → Meaning) → ((heap : Heap) → HaveUnits heap → Holds (next heap)) → Holds (with_heap next)
unfolding with_heap
holds_with_heap next h f s in_frame good = h s.store.held.objects good.heap f s in_frame good

holds_change : (v : Value) (does : Held → Held) → HasUnits v → ((h : Held) → HaveUnits h.objects → HaveUnits (does h).objects) → Holds (change v does)
unfolding change
holds_change v does is h f s in_frame good = (is, in_frame, record { heap = h s.store.held good.heap; saves = good.saves })

holds_touch : (ids : List ℕ) → Holds (touch ids)
holds_touch ids = holds_change Nothing (touching ids) tt (λ h are. are)

holds_touch_scope : Holds touch_scope
holds_touch_scope f s in_frame good = holds_touch (scope_ids f.scope) f s in_frame good

holds_read_value : (v : Value) → HasUnits v → Holds (read v)
holds_read_value v is = holds_change v (reading v) is (λ h are. are)

holds_assign : (place : held.Place) (heap : Heap) → HaveUnits heap → Holds (assign place heap)
holds_assign place heap is = holds_change Nothing (assigning place heap) tt (λ h are. is)

attempt_holds : (line : Line) (a : Attempt calls.Answer) (f : Frame) (s : State) → OnYield (IsKept s.store.held) a → InFrame f →
    IsState s → Left (attempt line a put_answer f s)
unfolding attempt put_answer stop
attempt_holds line (Yields a) f s h in_frame good =
    let k = h.0 good.heap in (h.1, in_frame, record { heap = k.0; saves = saves_append s.events a.events good.saves k.1 })
attempt_holds line (Fails trap) f s h in_frame good = good.saves

holds_answered : (line : Line) (call : Held → Attempt calls.Answer) → ((h : Held) → OnYield (IsKept h) (call h)) → Holds (answered line call)
unfolding answered
holds_answered line call h f s in_frame good = attempt_holds line (call s.store.held) f s (h s.store.held) in_frame good

holds_made : (denoting : ℕ → Value) (object : Object) → ((id : ℕ) → HasUnits (denoting id)) → InObject object → Holds (made denoting object)
unfolding made
holds_made denoting object h is f s in_frame good = (h _, in_frame, record { heap = in_with_new s.store.held.objects object good.heap is; saves = good.saves })

holds_made_text : (bytes : List ℕ) → Holds (made_text bytes)
unfolding made_text
holds_made_text bytes f s in_frame good = (tt, in_frame, record { heap = good.heap; saves = good.saves })

no_commit_out : (bytes : List ℕ) (counted : ℕ) → SaveUnits (some_out bytes counted)
no_commit_out [] counted = tt
no_commit_out (byte ∷ bytes) counted = tt

holds_emit : (bytes : List ℕ) → Holds (emit bytes)
unfolding emit
holds_emit bytes f s in_frame good =
    let counted = counted_in s.store in
    (tt, in_frame, record { heap = good.heap; saves = saves_append s.events (some_out bytes counted) good.saves (no_commit_out bytes counted) })

holds_written : (line : Line) (width : Option ℤ) (bytes : List ℕ) → Holds (written line width bytes)
unfolding written
holds_written line width bytes = holds_either (is_width width) _ _ (holds_emit (in_places width bytes)) (holds_stop _)

turned_holds : (f : Frame) (s : State) (turns : ℕ) → InFrame f → IsState s → Left (turned (with_turns s.store turns) f s)
turned_holds f s zero in_frame good = good.saves
turned_holds f s (suc left) in_frame good =
    (tt, in_frame, record { heap = good.heap; saves = saves_append s.events (Turn (counted_in s.store) ∷ []) good.saves tt })

holds_turn : Holds take_turn
unfolding take_turn
holds_turn f s in_frame good = turned_holds f s s.store.turns in_frame good

read_local : (f : Frame) (slot : ℕ) (number : Bool) → InFrame f → HasUnits (if number then f.nums slot else f.refs slot)
read_local f slot true h = h.0 slot
read_local f slot false h = h.1 slot

holds_get : (place : Place) (ty : TyView) → Holds (get place ty)
unfolding get change
holds_get (Plain slot) ty f s in_frame good = (read_local f slot (is_number ty) in_frame, in_frame, good)
holds_get (Kept up position) ty f s in_frame good =
    (in_kept_name s.store.held.objects f.scope up position good.heap, in_frame, record { heap = good.heap; saves = good.saves })

put_local : (f : Frame) (slot : ℕ) (v : Value) (number : Bool) → InFrame f → HasUnits v →
    InFrame (if number then record f { nums = with_local f.nums slot v } else record f { refs = with_local f.refs slot v })
put_local f slot v true h is = (λ s. in_row f.nums slot v h.0 is s, h.1)
put_local f slot v false h is = (h.0, λ s. in_row f.refs slot v h.1 is s)

holds_set : (place : Place) (ty : TyView) (v : Value) → HasUnits v → Holds (set place ty v)
unfolding set change
holds_set (Plain slot) ty v is f s in_frame good = (tt, put_local f slot v (is_number ty) in_frame is, good)
holds_set (Kept up position) ty v is f s in_frame good =
    (tt, in_frame, record { heap = in_with_kept_name s.store.held.objects f.scope up position v good.heap is; saves = good.saves })

-- a value is put in a place, and then comes something
holds_set_then : (place : Place) (ty : TyView) (v : Value) (next : Meaning) → HasUnits v → Holds next → Holds (set place ty v >>= λ u. next)
holds_set_then place ty v next is h = holds_then (set place ty v) (λ u. next) (holds_set place ty v is) (λ u of. h)

holds_made_procedure : (of : BodyNode) → BodyIs HasUnit AnyType of → Holds (made_procedure of)
unfolding made_procedure
holds_made_procedure of is f s in_frame good = (is, in_frame, record { heap = good.heap; saves = good.saves })

holds_with_input : (next : List ℕ → Meaning) → ((input : List ℕ) → Holds (next input)) → Holds (with_input next)
unfolding with_input
holds_with_input next h f s in_frame good = h s.store.input f s in_frame good

holds_put_input : (input : List ℕ) → Holds (put_input input)
unfolding put_input
holds_put_input input f s in_frame good = (tt, in_frame, record { heap = good.heap; saves = good.saves })

holds_enter : (text : List ℕ) → Holds (enter text)
unfolding enter new_scope
holds_enter text f s in_frame good =
    (tt, in_frame, record { heap = in_with_new s.store.held.objects (new_scope text f.scope) good.heap (in_first (forms_of text)); saves = good.saves })

holds_back_in : (scope : Option ℕ) (o : Outcome) → Left o → Left (back_in scope o)
unfolding back_in
holds_back_in scope (Value_is v f s) h = h
holds_back_in scope (Ends e s) h = h

holds_back_to : (own : Frame) (o : Outcome) → InFrame own → Left o → Left (back_to own o)
unfolding back_to
holds_back_to own (Value_is v f s) is h = (h.0, is, h.2)
holds_back_to own (Ends e s) is h = h

holds_scoped : (text : List ℕ) (m : Meaning) → Holds m → Holds (scoped text m)
unfolding scoped
holds_scoped text m h f s in_frame good =
    holds_back_in f.scope ((enter text >>= λ u. m) f s) (holds_then (enter text) (λ u. m) (holds_enter text) (λ u is. h) f s in_frame good)

holds_scope : (scope : Option (List ℕ)) (m : Meaning) → Holds m → Holds (in_scope scope m)
holds_scope None m h = h
holds_scope (Some text) m h = holds_scoped text m h

holds_in_frame : (other : Frame) (m : Meaning) → InFrame other → Holds m → Holds (in_frame other m)
unfolding in_frame
holds_in_frame other m is h f s in_frame good = holds_back_to f (m other s) in_frame (h other s is good)

holds_in_turn : (loop : Counting) (clause : Meaning) → Holds clause → (z : ℤ) → Holds (in_turn loop clause z)
holds_in_turn loop clause h z =
    holds_scope loop.scope _ (holds_then (set loop.control types.Int (Num z)) _ (holds_set loop.control types.Int (Num z) tt) (λ u is. h))

-- the scan of a clause that has begun with this table and this procedure
abbrev scan_by : Context → Line → Bool → ℕ → ℕ → Value → Value → Scanning
scan_by c line strings refs nums table procedure =
    record { line = line; strings = strings; refs = refs; nums = nums; table = table; call = call_meant c line procedure }

-- what is called keeps it so too
abbrev pub CallsHold : Context → Type 0
CallsHold c = (of : BodyNode) (args : List Value) → BodyIs HasUnit AnyType of → AllHaveUnits args → Holds (c.call of args)

row_is : (b : Bool) (v : Value) (rest : List Value) → HasUnits v → AllHaveUnits rest → AllHaveUnits (if b then v ∷ rest else rest)
row_is true v rest is h = (is, h)
row_is false v rest is h = h

arguments_are : (numbers : Bool) (params : List Param) (args : List Value) → AllHaveUnits args → AllHaveUnits (arguments_on numbers params args)
unfolding arguments_on
arguments_are numbers [] args h = tt
arguments_are numbers (param ∷ params) [] h = tt
arguments_are numbers (param ∷ params) (arg ∷ args) h =
    row_is (stands_on numbers param.ty) arg (arguments_on numbers params args) h.0 (arguments_are numbers params args h.1)

unit_or : (vs : List Value) (n : ℕ) (other : Value) → AllHaveUnits vs → HasUnits other → HasUnits (get_or vs n other)
unit_or [] n other h is = is
unit_or (v ∷ vs) zero other h is = h.0
unit_or (v ∷ vs) (suc n) other h is = unit_or vs n other h.1 is

frame_is : (of : BodyNode) (scope : Option ℕ) (args : List Value) → AllHaveUnits args → InFrame (frame_of_call of scope args)
unfolding frame_of_call
frame_is (body params gives tree text line) scope args h = (
  λ slot. unit_or (arguments_on true params args) slot (Num (pos 0)) (arguments_are true params args h) tt,
  λ slot. unit_or (arguments_on false params args) slot Nil (arguments_are false params args h) tt,
)

holds_call : (c : Context) → CallsHold c → (line : Line) (v : Value) (args : List Value) → HasUnits v → AllHaveUnits args →
    Holds (call_meant c line v args)
unfolding call_meant
holds_call c k line (Procedure (as_written of) scope) args is are =
    holds_choose (nat_lt c.depth most_calls) _ _
    (holds_in_frame (frame_of_call of scope args) (c.call of args) (frame_is of scope args are) (k of args is are)) (holds_stop _)
holds_call c k line v args is are = holds_stop _

holds_for_turns : (n : ℕ) (loop : Counting) (clause : Meaning) → Holds clause → (z : ℤ) → Holds (for_turns n loop clause z)
unfolding for_turns
holds_for_turns zero loop clause h z = holds_stop _
holds_for_turns (suc n) loop clause h z =
    holds_then take_turn _ holds_turn (λ t is_t. holds_then (in_turn loop clause z) _ (holds_in_turn loop clause h z) (λ v is_v.
    holds_choose (goes_on loop.limit loop.step (z +ℤ loop.step)) _ _
    (holds_then (set (Plain loop.slot) types.Int (Num (z +ℤ loop.step))) _ (holds_set (Plain loop.slot) types.Int (Num (z +ℤ loop.step)) tt)
    (λ u is_u. holds_for_turns n loop clause h (z +ℤ loop.step))) (holds_give Nothing tt)))

holds_for_loop : (n : ℕ) (line : Line) (loop : Counting) (clause : Meaning) → Holds clause → (z : ℤ) → Holds (for_loop n line loop clause z)
unfolding for_loop
holds_for_loop n line loop clause h z =
    holds_choose (is_same loop.step (pos 0)) _ _ (holds_stop _)
    (holds_choose (goes_on loop.limit loop.step z) _ _ (holds_for_turns n loop clause h z) (holds_give Nothing tt))

holds_for : (n : ℕ) (line : Line) (slot : ℕ) (scope : Option (List ℕ)) (control : Place) (a b c clause : Meaning) → Holds a → Holds b → Holds c →
    Holds clause → Holds (for_meant n line slot scope control a b c clause)
unfolding for_meant
holds_for n line slot scope control a b c clause ha hb hc h =
    holds_then a _ ha (λ start is_a. holds_then (set (Plain slot) types.Int start) _ (holds_set (Plain slot) types.Int start is_a) (λ u is_u.
    holds_then b _ hb (λ limit is_b. holds_then (set (Plain (slot + 1)) types.Int limit) _ (holds_set (Plain (slot + 1)) types.Int limit is_b)
    (λ u is_u.
    holds_then c _ hc (λ step is_c. holds_then (set (Plain (slot + 2)) types.Int step) _ (holds_set (Plain (slot + 2)) types.Int step is_c)
    (λ u is_u.
    holds_for_loop n line (record { slot = slot; scope = scope; control = control; limit = word_of limit; step = word_of step }) clause h
    (word_of start)))))))

holds_answer : (line : Line) (a : Answer) → Holds (answer line a)
unfolding answer
holds_answer line (Gives z) = holds_give (Num z) tt
holds_answer line (Traps trap) = holds_stop _

holds_while : (n : ℕ) (test clause : Meaning) → Holds test → Holds clause → Holds (while_turns n test clause)
unfolding while_turns
holds_while zero test clause h k = holds_then test _ h (λ v is. holds_choose (flag_of v) _ _ (holds_stop _) (holds_give Nothing tt))
holds_while (suc n) test clause h k =
    holds_then test _ h (λ v is. holds_choose (flag_of v) _ _
    (holds_then take_turn _ holds_turn (λ t is_t. holds_then clause _ k (λ u is_u. holds_while n test clause h k))) (holds_give Nothing tt))

any_yields : {A : Type 0} (a : Attempt A) → OnYield (λ (x : A). Unit {0}) a
any_yields (Yields x) = tt
any_yields (Fails trap) = tt

-- what goes on with anything that an attempt yields
holds_any : {A : Type 0} (line : Line) (a : Attempt A) (next : A → Meaning) → ((x : A) → Holds (next x)) → Holds (attempt line a next)
holds_any {A} line a next h = holds_attempt (λ (x : A). Unit {0}) line a next (any_yields a) (λ x is. h x)

holds_read_line : (line : Line) → Holds (read_line line)
unfolding read_line
holds_read_line line = holds_with_input _ (λ input. holds_any line (line_read input) _ (λ bytes.
    holds_then (put_input (behind_line input)) _ (holds_put_input (behind_line input)) (λ u is. holds_made_text bytes)))

holds_at_end : Holds at_end
unfolding at_end
holds_at_end = holds_with_input _ (λ input. holds_give _ tt)

holds_lib : (line : Line) (of : Option LibraryProcedure) (vs : List Value) → Holds (lib_meant line of vs)
holds_lib line (Some (OnHeap of)) vs = holds_answered line (heap_call of vs) (λ h. heap_call_kept of vs h)
holds_lib line (Some ReadLine) vs = holds_read_line line
holds_lib line (Some AtEnd) vs = holds_at_end
holds_lib line (Some Length) vs = holds_give _ tt
holds_lib line (Some IntText) vs = holds_made_text _
holds_lib line None vs = holds_give Nothing tt

holds_put : (line : Line) (a : Heap → Attempt Heap) (place : Heap → held.Place) →
    ((heap : Heap) → HaveUnits heap → OnYield (HaveUnits) (a heap)) →
    Holds (with_heap (λ heap. attempt line (a heap) (assign (place heap))))
holds_put line a place h =
    holds_with_heap _ (λ heap is. holds_attempt (HaveUnits) line (a heap) (assign (place heap)) (h heap is)
    (λ new are. holds_assign (place heap) new are))

holds_read : (line : Line) (a : Heap → Attempt Value) → ((heap : Heap) → HaveUnits heap → OnYield (HasUnits) (a heap)) →
    Holds (with_heap (λ heap. attempt line (a heap) read))
holds_read line a h = holds_with_heap _ (λ heap is. holds_attempt (HasUnits) line (a heap) read (h heap is) (λ v of. holds_read_value v of))

holds_vector : (line : Line) (a : Attempt Object) → OnYield (InObject) a → Holds (attempt line a (made Vector))
holds_vector line a h = holds_attempt (InObject) line a (made Vector) h (λ object is. holds_made Vector object (λ id. tt) is)

-- scans
holds_last : (scan : Scanning) (key : Key) → Holds (set_last scan key)
holds_last scan (string_key bytes) = holds_set (Plain (scan.refs + 2)) types.Str (Text bytes) tt
holds_last scan (int_key z) = holds_set (Plain (scan.nums + 1)) types.Int (Num z) tt

shown_units : (key : Key) → HasUnits (shown_key key)
shown_units (string_key bytes) = tt
shown_units (int_key z) = tt

-- what a scan calls keeps it so
abbrev ScanHolds : Scanning → Type 0
ScanHolds scan = (args : List Value) → AllHaveUnits args → Holds (scan.call args)

holds_scan_call : (scan : Scanning) → ScanHolds scan → (count : ℕ) (again : Key → Meaning) (found : Found) → ((key : Key) → Holds (again key)) →
    Holds (scan_call scan count again found)
unfolding scan_call
holds_scan_call scan called count again found h =
    holds_then (set_last scan found.key) _ (holds_last scan found.key) (λ u is_u.
    holds_set_then (Plain (scan.nums + 2)) types.Int (Num (pos 1)) _ tt
    (holds_then (scan.call (scan_arguments found)) _ (called (scan_arguments found) (shown_units found.key, (tt, tt))) (λ more is_more.
    holds_set_then (Plain scan.nums) types.Int (Num (pos (suc count))) _ tt
    (holds_choose (flag_of more) _ _ (holds_then take_turn _ holds_turn (λ t is_t. h found.key)) (holds_give (Num (pos (suc count))) tt)))))

holds_scan_next : (scan : Scanning) → ScanHolds scan → (count : ℕ) (again : Key → Meaning) (found : Option Found) →
    ((key : Key) → Holds (again key)) → Holds (scan_next scan count again found)
unfolding scan_next
holds_scan_next scan called count again None h = holds_give (Num (pos count)) tt
holds_scan_next scan called count again (Some found) h =
    holds_then (touch (found.object ∷ [])) _ (holds_touch (found.object ∷ [])) (λ u is_u.
    holds_choose (nat_eq count most_scan_calls) _ _ (holds_stop _) (holds_scan_call scan called count again found h))

holds_scan_turns : (n : ℕ) (scan : Scanning) → ScanHolds scan → (last : Option Key) (count : ℕ) → Holds (scan_turns n scan last count)
unfolding scan_turns
holds_scan_turns zero scan called last count =
    holds_with_heap _ (λ heap in_heap. holds_any scan.line (next_key scan.strings heap scan.table last) _
    (λ found. holds_scan_next scan called count (λ key. stop OutOfTurns) found (λ key. holds_stop OutOfTurns)))
holds_scan_turns (suc n) scan called last count =
    holds_with_heap _ (λ heap in_heap. holds_any scan.line (next_key scan.strings heap scan.table last) _
    (λ found. holds_scan_next scan called count (λ key. scan_turns n scan (Some key) (suc count)) found
    (λ key. holds_scan_turns n scan called (Some key) (suc count))))

holds_begin_scan : (strings : Bool) (refs nums : ℕ) (a f : Meaning) (next : Value → Value → Meaning) → Holds a → Holds f →
    ((table procedure : Value) → HasUnits table → HasUnits procedure → Holds (next table procedure)) → Holds (begin_scan strings refs nums a f next)
unfolding begin_scan
holds_begin_scan strings refs nums a f next ha hf h =
    holds_then a _ ha (λ table is. holds_set_then (Plain refs) types.Pntr table _ is
    (holds_then f _ hf (λ procedure of. holds_set_then (Plain (refs + 1)) (caller (if strings then types.Str else types.Int)) procedure _ of
    (holds_set_then (Plain nums) types.Int (Num (pos 0)) _ tt (holds_set_then (Plain (nums + 1)) types.Int (Num (pos 0)) _ tt
    (holds_set_then (Plain (nums + 2)) types.Int (Num (pos 0)) _ tt (h table procedure is of)))))))

mutual
  unfolding eval eval_all eval_each eval_arms eval_labels

  pub holds_eval : (c : Context) → CallsHold c → (t : Node) → BodiesAre HasUnit AnyType t → Holds (eval c t)
  holds_eval c k (node.Int z) r = holds_give (Num z) tt
  holds_eval c k (node.Flag b) r = holds_give (Flag b) tt
  holds_eval c k (node.Text bytes) r = holds_give (Text bytes) tt
  holds_eval c k (node.Name place ty) r = holds_get place ty
  holds_eval c k (node.SetName place ty e) r = holds_then (eval c e) _ (holds_eval c k e r.1) (λ v is. holds_set place ty v is)
  holds_eval c k (node.Let place ty e) r = holds_then (eval c e) _ (holds_eval c k e r.1) (λ v is. holds_set place ty v is)
  holds_eval c k node.Empty r = holds_give Nothing tt
  holds_eval c k (node.Block scope items) r = holds_scope scope (eval_all c Nothing items) (holds_all c k Nothing items tt r)
  holds_eval c k (node.IfDo test a) r =
      holds_then (eval c test) _ (holds_eval c k test r.0) (λ v is. holds_choose (flag_of v) _ _ (holds_eval c k a r.1) (holds_give Nothing tt))
  holds_eval c k (node.IfElse test a b) r =
      holds_then (eval c test) _ (holds_eval c k test r.0)
      (λ v is. holds_choose (flag_of v) _ _ (holds_eval c k a r.1) (holds_eval c k b r.2))
  holds_eval c k (node.While test a) r = holds_while c.bound (eval c test) (eval c a) (holds_eval c k test r.0) (holds_eval c k a r.1)
  holds_eval c k (node.Repeat a test b) r =
      holds_while c.bound _ (eval c b) (holds_then (eval c a) _ (holds_eval c k a r.0) (λ u is. holds_eval c k test r.1)) (holds_eval c k b r.2)
  holds_eval c k (node.For slot from to by scope control s line) r =
      holds_for c.bound line slot scope control _ _ _ _ (holds_eval c k from r.0) (holds_eval c k to r.1) (holds_eval c k by r.2)
      (holds_eval c k s r.3)
  holds_eval c k (node.Case e arms d ty) r =
      holds_then (eval c e) _ (holds_eval c k e r.0) (λ v is. holds_arms c k ty v arms (eval c d) r.1 (holds_eval c k d r.2))
  holds_eval c k (node.And a b) r =
      holds_then (eval c a) _ (holds_eval c k a r.0) (λ v is. holds_choose (flag_of v) _ _ (holds_eval c k b r.1) (holds_give v is))
  holds_eval c k (node.Or a b) r =
      holds_then (eval c a) _ (holds_eval c k a r.0) (λ v is. holds_choose (flag_of v) _ _ (holds_give v is) (holds_eval c k b r.1))
  holds_eval c k (node.Not e) r = holds_then (eval c e) _ (holds_eval c k e r) (λ v is. holds_give _ tt)
  holds_eval c k (node.Neg e line) r = holds_then (eval c e) _ (holds_eval c k e r) (λ v is. holds_answer line _)
  holds_eval c k (node.Plus e) r = holds_eval c k e r
  holds_eval c k (node.Arith op a b line) r =
      holds_then (eval c a) _ (holds_eval c k a r.0) (λ v is. holds_then (eval c b) _ (holds_eval c k b r.1) (λ w of. holds_answer line _))
  holds_eval c k (node.Compare op ty a b) r =
      holds_then (eval c a) _ (holds_eval c k a r.0) (λ v is. holds_then (eval c b) _ (holds_eval c k b r.1) (λ w of. holds_give _ tt))
  holds_eval c k node.Nil r = holds_give Nil tt
  holds_eval c k node.Class r = holds_give Nothing tt
  holds_eval c k (node.Is e class) r =
      holds_then (eval c e) _ (holds_eval c k e r) (λ v is. holds_with_heap _ (λ heap in_heap. holds_give _ tt))
  holds_eval c k (node.Join a b line) r =
      holds_then (eval c a) _ (holds_eval c k a r.0) (λ v is. holds_then (eval c b) _ (holds_eval c k b r.1)
      (λ w of. holds_any line _ _ (λ bytes. holds_made_text bytes)))
  holds_eval c k (node.Part a i n line) r =
      holds_then (eval c a) _ (holds_eval c k a r.0) (λ v is. holds_then (eval c i) _ (holds_eval c k i r.1)
      (λ from of. holds_then (eval c n) _ (holds_eval c k n r.2) (λ count so. holds_any line _ _ (λ bytes. holds_made_text bytes))))
  holds_eval c k (node.Make class args) r =
      holds_each c k args (make_meant class) r
      (λ vs are. holds_made Pointer (Structure class (kept_all (forms_of class) vs)) (λ id. tt) (in_kept_all (forms_of class) vs are))
  holds_eval c k (node.Field e class n ty line) r =
      holds_then (eval c e) _ (holds_eval c k e r) (λ o is. holds_read line _ (λ heap in_heap. in_field heap o class n in_heap))
  holds_eval c k (node.SetField p class n ty e line) r =
      holds_then (eval c p) _ (holds_eval c k p r.0) (λ o is. holds_then (eval c e) _ (holds_eval c k e r.1)
      (λ v of. holds_put line _ _ (λ heap in_heap. in_with_field heap o class n _ in_heap (in_kept (form_in (forms_of class) n) v of))))
  holds_eval c k (node.Fill l u e ty line) r =
      holds_then (eval c l) _ (holds_eval c k l r.0) (λ low is. holds_then (eval c u) _ (holds_eval c k u r.1)
      (λ high of. holds_then (eval c e) _ (holds_eval c k e r.2)
      (λ v so. holds_vector line _ (in_filled (type_text ty) (word_of low) (word_of high) _ (in_kept (Some (element_of (type_text ty))) v so)))))
  holds_eval c k (node.Elems l items ty line) r =
      holds_then (eval c l) _ (holds_eval c k l r.0)
      (λ low is. holds_each c k items (elements_meant line (type_text ty) low) r.1
      (λ vs are. holds_vector line _ (in_vector_of (type_text ty) (word_of low) _ (in_kept_elements (type_text ty) vs are))))
  holds_eval c k (node.Element v i ty line) r =
      holds_then (eval c v) _ (holds_eval c k v r.0) (λ vector is. holds_then (eval c i) _ (holds_eval c k i r.1)
      (λ at of. holds_read line _ (λ heap in_heap. in_element heap vector (word_of at) in_heap)))
  holds_eval c k (node.SetElement v i e ty line) r =
      holds_then (eval c v) _ (holds_eval c k v r.0) (λ vector is. holds_then (eval c i) _ (holds_eval c k i r.1)
      (λ at of. holds_then (eval c e) _ (holds_eval c k e r.2)
      (λ w so. holds_put line _ _ (λ heap in_heap. in_with_element heap vector (word_of at) _ in_heap
      (in_kept (Some (element_of (type_in (vector_in heap vector)))) w so)))))
  holds_eval c k (node.Bound v upper) r =
      holds_then (eval c v) _ (holds_eval c k v r) (λ vector is. holds_with_heap _ (λ heap in_heap. holds_give _ tt))
  holds_eval c k (node.Lib code args line) r =
      holds_each c k args (lib_meant line (library_procedure code)) r (λ vs are. holds_lib line (library_procedure code) vs)
  holds_eval c k (node.Write e w false ty line) r = holds_then (eval c e) _ (holds_eval c k e r.0) (λ v is. holds_written line None _)
  holds_eval c k (node.Write e w true ty line) r =
      holds_then (eval c e) _ (holds_eval c k e r.0) (λ v is. holds_then (eval c w) _ (holds_eval c k w r.1) (λ width of. holds_written line _ _))
  holds_eval c k (node.Abort line) r = holds_stop _
  holds_eval c k (node.Proc of) r = holds_made_procedure of r
  holds_eval c k (node.Call f args line) r =
      holds_then (eval c f) _ (holds_eval c k f r.0)
      (λ v is. holds_each c k args (call_meant c line v) r.1 (λ vs are. holds_call c k line v vs is are))
  holds_eval c k (node.Scan text a f q s line) r =
      holds_begin_scan text q s (eval c a) (eval c f) _ (holds_eval c k a r.0) (holds_eval c k f r.1) (λ table procedure is of.
      holds_scan_turns c.bound (scan_by c line text q s table procedure) (λ args are. holds_call c k line procedure args of are) None 0)

  holds_all : (c : Context) → CallsHold c → (v : Value) (ts : Nodes) → HasUnits v → AllBodiesAre HasUnit AnyType ts → Holds (eval_all c v ts)
  holds_all c k v none is r = holds_give v is
  holds_all c k v (more t ts) is r = holds_then (eval c t) _ (holds_eval c k t r.0) (λ w of. holds_all c k w ts of r.1)

  holds_each : (c : Context) → CallsHold c → (ts : Nodes) (next : List Value → Meaning) → AllBodiesAre HasUnit AnyType ts →
      ((vs : List Value) → AllHaveUnits vs → Holds (next vs)) → Holds (eval_each c ts next)
  holds_each c k none next r h = h [] tt
  holds_each c k (more t ts) next r h =
      holds_then (eval c t) _ (holds_eval c k t r.0) (λ v is. holds_each c k ts (λ vs. next (v ∷ vs)) r.1 (λ vs are. h (v ∷ vs) (is, are)))

  holds_arms : (c : Context) → CallsHold c → (ty : TyView) (v : Value) (arms : Arms) (default : Meaning) → ArmsBodiesAre HasUnit AnyType arms → Holds default →
      Holds (eval_arms c ty v arms default)
  holds_arms c k ty v no_arms default r h = h
  holds_arms c k ty v (more_arms (arm labels a) rest) default r h =
      holds_then (eval_labels c ty v labels) _ (holds_labels c k ty v labels r.0)
      (λ found is. holds_choose (flag_of found) _ _ (holds_eval c k a r.1) (holds_arms c k ty v rest default r.2 h))

  holds_labels : (c : Context) → CallsHold c → (ty : TyView) (v : Value) (labels : Nodes) → AllBodiesAre HasUnit AnyType labels → Holds (eval_labels c ty v labels)
  holds_labels c k ty v none r = holds_give _ tt
  holds_labels c k ty v (more label rest) r =
      holds_then (eval c label) _ (holds_eval c k label r.0)
      (λ w is. holds_choose (is_equal ty v w) _ _ (holds_give _ tt) (holds_labels c k ty v rest r.1))

-- bodies that are called, however many turns may be left
holds_keep : (place : Place) (ty : TyView) (v : Value) → HasUnits v → Holds (keep place ty v)
unfolding keep
holds_keep (Plain slot) ty v is = holds_give Nothing tt
holds_keep (Kept up position) ty v is = holds_set (Kept up position) ty v is

holds_keep_all : (params : List Param) (args : List Value) → AllHaveUnits args → Holds (keep_all params args)
unfolding keep_all
holds_keep_all [] args are = holds_give Nothing tt
holds_keep_all (param ∷ params) [] are = holds_give Nothing tt
holds_keep_all (param ∷ params) (v ∷ args) are =
    holds_then (keep param.place param.ty v) _ (holds_keep param.place param.ty v are.0) (λ u is. holds_keep_all params args are.1)

holds_body : (c : Context) → CallsHold c → (of : BodyNode) (args : List Value) → BodyIs HasUnit AnyType of → AllHaveUnits args → Holds (body_meant c of args)
unfolding body_meant
holds_body c k (body params gives tree text line) args is are =
    holds_scope text _ (holds_then (keep_all params args) _ (holds_keep_all params args are) (λ u of. holds_eval c k tree is.1))

holds_within : (n depth : ℕ) (of : BodyNode) (args : List Value) → BodyIs HasUnit AnyType of → AllHaveUnits args → Holds (call_within n depth of args)
unfolding call_within
holds_within zero depth of args is are = holds_stop _
holds_within (suc n) depth of args is are =
    holds_then take_turn _ holds_turn (λ t done. holds_then touch_scope _ holds_touch_scope
    (λ u touched. holds_body (context n depth) (holds_within n (suc depth)) of args is are))

pub calls_hold : (n depth : ℕ) → CallsHold (context n depth)
calls_hold n depth = holds_within n (suc depth)

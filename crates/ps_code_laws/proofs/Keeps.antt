-- A clause leaves each local alone that it can't name: none of its own slots, and not that of a name in scope.
use Rattle.std.proofs.Common.{◌≡◌, ℕ, zero, suc, ◌+◌, ◌≤◌, ◌<◌, ℤ, pos, ◌+ℤ◌, Bool, true, false, List, [], ◌∷◌, ◌++◌, Option, Some, None, inl, inr, refl, sym, ap, ◌∙◌, subst, arith, ne_eqb}
use Rattle.std.specs.Prelude.{◌≢◌, nat_eq, nat_lt, if◌then◌else◌}
use Rattle.std.specs.List.{AllByRecursion}
use Rattle.ps_gen.specs.ps_base.TyView.{TyView, TyViews}
use Rattle.ps_gen.specs.ps_base.TyView as types
use Rattle.ps_gen.specs.ps_base.declared.line.Line.{Line}
use Rattle.ps_gen.specs.ps_program.declared.place.Place.{Place}
use Rattle.ps_gen.specs.ps_program.declared.place.Place.TheVariants.{Plain, Kept}
use Rattle.ps_gen.specs.ps_program.Node.{Node, Nodes, none, more, Arms, no_arms, more_arms, arm, BodyNode}
use Rattle.ps_gen.specs.ps_program.Node as node
use Rattle.ps_typing_laws.specs.ps_typing.Placing.{is_number}
use Rattle.ps_typing_laws.specs.ps_typing.Library.{caller}
use Rattle.ps_typing_laws.specs.ps_typing.WellTyped.{Some_is, Local, IsLocal, Claim, ◌has◌, all_have, arms_have, Rule, Arguments}
use Rattle.ps_typing_laws.specs.ps_typing.WellTyped as typed
use Rattle.ps_typing_laws.specs.Counted.{Each}
use Rattle.ps_typing_laws.proofs.Tracked.{clauses_of, item_nodes}
use Rattle.ps_stepping.specs.ps_heap.Operators.{Answer, Gives, Traps, neg_of, arith_of, is_same}
use Rattle.ps_stepping.specs.ps_heap.Ends.{OutOfTurns}
use Rattle.ps_stepping.specs.ps_heap.Values.{Value, Num, Flag, Text, Nil, Pointer, Vector, Procedure, Nothing, as_written, word_of, flag_of, shown}
use Rattle.ps_stepping.specs.ps_heap.Texts.{Attempt, Yields, Fails, line_read, behind_line}
use Rattle.ps_stepping.specs.ps_heap.Objects.{Heap, Object}
use Rattle.ps_stepping.specs.ps_heap.Tables.{Key, string_key, int_key}
use Rattle.ps_stepping.specs.ps_heap.Held.{Held, assigning, touching, reading}
use Rattle.ps_stepping.specs.ps_heap.Held as held
use Rattle.ps_stepping.specs.ps_heap.Calls as calls
use Rattle.ps_stepping.specs.ps_heap.Library.{LibraryProcedure, OnHeap, ReadLine, AtEnd, Length, IntText, library_procedure, heap_call}
use Rattle.ps_stepping.specs.ps_heap.Scans.{Found, most_scan_calls, next_key, scan_arguments}
use Rattle.ps_stepping.specs.ps_meaning.Meaning.{Frame, Store, State, Outcome, Value_is, Ends, Meaning, give, stop, after, ◌>>=◌, choose, answer, attempt, with_heap, change, touch, read, assign, put_answer, answered, made, made_text, made_procedure, with_input, put_input, enter, back_in, back_to, scoped, in_scope, in_frame, emit, in_places, is_width, written, turned, spent, take_turn, with_local, get, set}
use Rattle.ps_stepping.specs.ps_meaning.Frames.{frame_of_call}
use Rattle.ps_stepping.specs.ps_meaning.Operations.{is_equal, make_meant, read_line, at_end, lib_meant}
use Rattle.ps_stepping.specs.ps_meaning.Loops.{while_turns, Counting, goes_on, in_turn, for_turns, for_loop, for_meant, Scanning, set_last, scan_call, scan_next, scan_turns, begin_scan}
use Rattle.ps_stepping.specs.ps_meaning.Evaluation.{Context, most_calls, call_meant, eval, eval_all, eval_each, eval_arms, eval_labels}
use Rattle.ps_soundness.proofs.Places.{IsSpare}
use Rattle.ps_soundness.proofs.Sequences.{all_left, all_right}
use Rattle.heap_fit.specs.Slots.{from, slot_on}
use Rattle.heap_fit.specs.Bodies.{InScope, Declares, IsFit, AreFit, AreItems}
use Rattle.heap_fit.specs.Bodies as fit
use Rattle.fit_soundness.proofs.Rooms.{joint, slot_here, three_has}
use Rattle.fit_soundness.proofs.Clauses.{of_clause, of_clauses}
use Rattle.ps_code_laws.proofs.LibraryWalks.{scan_by}
use Rattle.ps_code_laws.proofs.Shares.{Shared, three_nums, control_slots, scan_slots, rule_has, set_has, block_has, loop_has, first_three_have, fourth_has, scan_has, let_has}

-- a local of one of the two rows
pub record Spot : Type 0 where
  pub number : Bool
  pub slot : ℕ

abbrev pub on_nums : ℕ → Spot
on_nums n = record { number = true; slot = n }

abbrev pub on_refs : ℕ → Spot
on_refs n = record { number = false; slot = n }

abbrev pub value_in : Frame → Spot → Value
value_in frame x = if x.number then frame.nums x.slot else frame.refs x.slot

-- the local has the value that it had
abbrev pub Same : Spot → Frame → Outcome → Type 0
Same x f (Value_is v g s) = value_in g x ≡ value_in f x
Same x f (Ends e s) = Unit {0}

abbrev pub Leaves : Spot → Meaning → Type 0
Leaves x m = (f : Frame) (s : State) → Same x f (m f s)

-- in each context
abbrev pub Keeps : Spot → Node → Type 0
Keeps x t = (c : Context) → Leaves x (eval c t)

same_from : (x : Spot) (f g : Frame) (o : Outcome) → value_in g x ≡ value_in f x → Same x g o → Same x f o
same_from x f g (Value_is v h s) e k = k ∙ e
same_from x f g (Ends end s) e k = tt

same_after : (x : Spot) (f : Frame) (o : Outcome) (b : Value → Meaning) → Same x f o → ((v : Value) → Leaves x (b v)) → Same x f (after o b)
unfolding after
same_after x f (Value_is v g s) b h k = same_from x f g (b v g s) h (k v g s)
same_after x f (Ends e s) b h k = tt

pub leaves_then : (x : Spot) (a : Meaning) (b : Value → Meaning) → Leaves x a → ((v : Value) → Leaves x (b v)) → Leaves x (a >>= b)
unfolding ◌>>=◌
leaves_then x a b h k f s = same_after x f (a f s) b (h f s) k

leaves_give : (x : Spot) (v : Value) → Leaves x (give v)
unfolding give
leaves_give x v f s = refl

leaves_stop : (x : Spot) (e : _) → Leaves x (stop e)
unfolding stop
leaves_stop x e f s = tt

leaves_choose : (x : Spot) (b : Bool) (m n : Meaning) → Leaves x m → Leaves x n → Leaves x (choose b m n)
unfolding choose
leaves_choose x true m n h k = h
leaves_choose x false m n h k = k

leaves_answer : (x : Spot) (line : Line) (a : Answer) → Leaves x (answer line a)
unfolding answer
leaves_answer x line (Gives z) = leaves_give x (Num z)
leaves_answer x line (Traps trap) = leaves_stop x _

leaves_attempt : {A : Type 0} (x : Spot) (line : Line) (a : Attempt A) (next : A → Meaning) → ((v : A) → Leaves x (next v)) →
    Leaves x (attempt line a next)
unfolding attempt
leaves_attempt x line (Yields v) next h = h v
leaves_attempt x line (Fails trap) next h = leaves_stop x _

leaves_with_heap : (x : Spot) (next : Heap → Meaning) → ((heap : Heap) → Leaves x (next heap)) → Leaves x (with_heap next)
unfolding with_heap
leaves_with_heap x next h f s = h s.store.held.objects f s

leaves_change : (x : Spot) (v : Value) (does : Held → Held) → Leaves x (change v does)
unfolding change
leaves_change x v does f s = refl

leaves_touch : (x : Spot) (ids : List ℕ) → Leaves x (touch ids)
leaves_touch x ids = leaves_change x Nothing (touching ids)

leaves_put_answer : (x : Spot) (a : calls.Answer) → Leaves x (put_answer a)
unfolding put_answer
leaves_put_answer x a f s = refl

leaves_answered : (x : Spot) (line : Line) (call : Held → Attempt calls.Answer) → Leaves x (answered line call)
unfolding answered
leaves_answered x line call f s = leaves_attempt x line (call s.store.held) put_answer (λ a. leaves_put_answer x a) f s

-- what is read of the heap, and what is put there
leaves_read : (x : Spot) (line : Line) (a : Heap → Attempt Value) → Leaves x (with_heap (λ heap. attempt line (a heap) read))
leaves_read x line a = leaves_with_heap x _ (λ heap. leaves_attempt x line (a heap) read (λ v. leaves_change x v (reading v)))

leaves_put : (x : Spot) (line : Line) (a : Heap → Attempt Heap) (place : Heap → held.Place) →
    Leaves x (with_heap (λ heap. attempt line (a heap) (assign (place heap))))
leaves_put x line a place =
    leaves_with_heap x _ (λ heap. leaves_attempt x line (a heap) (assign (place heap)) (λ new. leaves_change x Nothing (assigning (place heap) new)))

leaves_made : (x : Spot) (denoting : ℕ → Value) (object : Object) → Leaves x (made denoting object)
unfolding made
leaves_made x denoting object f s = refl

leaves_made_text : (x : Spot) (bytes : List ℕ) → Leaves x (made_text bytes)
unfolding made_text
leaves_made_text x bytes f s = refl

leaves_emit : (x : Spot) (bytes : List ℕ) → Leaves x (emit bytes)
unfolding emit
leaves_emit x bytes f s = refl

leaves_either : (x : Spot) (b : Bool) (m n : Meaning) → Leaves x m → Leaves x n → Leaves x (if b then m else n)
leaves_either x true m n h k = h
leaves_either x false m n h k = k

leaves_written : (x : Spot) (line : Line) (width : Option ℤ) (bytes : List ℕ) → Leaves x (written line width bytes)
unfolding written
leaves_written x line width bytes = leaves_either x (is_width width) _ _ (leaves_emit x (in_places width bytes)) (leaves_stop x _)

leaves_turned : (x : Spot) (store : Option Store) → Leaves x (turned store)
leaves_turned x None f s = tt
leaves_turned x (Some store) f s = refl

leaves_turn : (x : Spot) → Leaves x take_turn
unfolding take_turn
leaves_turn x f s = leaves_turned x (spent s.store) f s

leaves_get : (x : Spot) (place : Place) (ty : TyView) → Leaves x (get place ty)
unfolding get change
leaves_get x (Plain slot) ty f s = refl
leaves_get x (Kept up position) ty f s = refl

not_same : (m n : ℕ) → (n ≡ m → ⊥) → nat_eq m n ≡ false
not_same m n apart = ne_eqb m n (λ e. apart (sym e))

if_false : {A : Type 0} (b : Bool) (x y : A) → b ≡ false → (if b then x else y) ≡ y
if_false b x y h = ap (λ (c : Bool). if c then x else y) h

pub other_local : {A : Type 0} (row : ℕ → A) (slot x : ℕ) (v : A) → (slot ≡ x → ⊥) → with_local row slot v x ≡ row x
other_local row slot x v apart = if_false (nat_eq x slot) v (row x) (not_same x slot apart)

-- a local of one row is set: one of the other row, and another one of this row, has the value that it had
other_in_frame : (number : Bool) (other slot : ℕ) (v : Value) (f : Frame) (row : Bool) → (row ≡ number → slot ≡ other → ⊥) →
    value_in (if row then record f { nums = with_local f.nums slot v } else record f { refs = with_local f.refs slot v })
    (record { number = number; slot = other }) ≡ value_in f (record { number = number; slot = other })
other_in_frame true other slot v f true apart = other_local f.nums slot other v (apart refl)
other_in_frame true other slot v f false apart = refl
other_in_frame false other slot v f true apart = refl
other_in_frame false other slot v f false apart = other_local f.refs slot other v (apart refl)

pub leaves_set : (x : Spot) (slot : ℕ) (ty : TyView) (v : Value) → (is_number ty ≡ x.number → slot ≡ x.slot → ⊥) → Leaves x (set (Plain slot) ty v)
unfolding set
leaves_set x slot ty v apart f s = other_in_frame x.number x.slot slot v f (is_number ty) apart

-- the local is none of the three from this slot on of this row
abbrev pub NoneOf : Spot → Bool → ℕ → Type 0
NoneOf x row first = (at : ℕ) → first ≤ at → at < first + 3 → row ≡ x.number → at ≡ x.slot → ⊥

pub leaves_kept : (x : Spot) (up position : ℕ) (ty : TyView) (v : Value) → Leaves x (set (Kept up position) ty v)
unfolding set change
leaves_kept x up position ty v f s = refl

leaves_made_procedure : (x : Spot) (of : BodyNode) → Leaves x (made_procedure of)
unfolding made_procedure
leaves_made_procedure x of f s = refl

leaves_with_input : (x : Spot) (next : List ℕ → Meaning) → ((input : List ℕ) → Leaves x (next input)) → Leaves x (with_input next)
unfolding with_input
leaves_with_input x next h f s = h s.store.input f s

leaves_put_input : (x : Spot) (input : List ℕ) → Leaves x (put_input input)
unfolding put_input
leaves_put_input x input f s = refl

-- a scope changes no local, and a call comes back to the frame that it was made in
leaves_enter : (x : Spot) (text : List ℕ) → Leaves x (enter text)
unfolding enter
leaves_enter x text f s = refl

same_back_in : (x : Spot) (f : Frame) (scope : Option ℕ) (o : Outcome) → Same x f o → Same x f (back_in scope o)
unfolding back_in
same_back_in x f scope (Value_is v g s) h = h
same_back_in x f scope (Ends e s) h = tt

same_back_to : (x : Spot) (f : Frame) (o : Outcome) → Same x f (back_to f o)
unfolding back_to
same_back_to x f (Value_is v g s) = refl
same_back_to x f (Ends e s) = tt

pub leaves_scoped : (x : Spot) (text : List ℕ) (m : Meaning) → Leaves x m → Leaves x (scoped text m)
unfolding scoped
leaves_scoped x text m h f s =
    same_back_in x f f.scope ((enter text >>= λ u. m) f s) (leaves_then x (enter text) (λ u. m) (leaves_enter x text) (λ u. h) f s)

leaves_scope : (x : Spot) (scope : Option (List ℕ)) (m : Meaning) → Leaves x m → Leaves x (in_scope scope m)
leaves_scope x None m h = h
leaves_scope x (Some text) m h = leaves_scoped x text m h

leaves_in_frame : (x : Spot) (other : Frame) (m : Meaning) → Leaves x (in_frame other m)
unfolding in_frame
leaves_in_frame x other m f s = same_back_to x f (m other s)

leaves_call : (x : Spot) (c : Context) (line : Line) (v : Value) (args : List Value) → Leaves x (call_meant c line v args)
unfolding call_meant
leaves_call x c line (Procedure (as_written of) scope) args =
    leaves_choose x (nat_lt c.depth most_calls) _ _ (leaves_in_frame x (frame_of_call of scope args) (c.call of args)) (leaves_stop x _)
leaves_call x c line v args = leaves_stop x _

leaves_while : (x : Spot) (n : ℕ) (test clause : Meaning) → Leaves x test → Leaves x clause → Leaves x (while_turns n test clause)
unfolding while_turns
leaves_while x zero test clause h k = leaves_then x test _ h (λ v. leaves_choose x (flag_of v) _ _ (leaves_stop x _) (leaves_give x Nothing))
leaves_while x (suc n) test clause h k =
    leaves_then x test _ h (λ v. leaves_choose x (flag_of v) _ _
    (leaves_then x take_turn _ (leaves_turn x) (λ t. leaves_then x clause _ k (λ u. leaves_while x n test clause h k))) (leaves_give x Nothing))

leaves_for_turns : (x : Spot) (n : ℕ) (loop : Counting) (clause : Meaning) → (true ≡ x.number → loop.slot ≡ x.slot → ⊥) →
    ((v : Value) → Leaves x (set loop.control types.Int v)) → Leaves x clause → (z : ℤ) → Leaves x (for_turns n loop clause z)
unfolding for_turns
leaves_for_turns x zero loop clause apart control h z = leaves_stop x _
leaves_for_turns x (suc n) loop clause apart control h z =
    leaves_then x take_turn _ (leaves_turn x) (λ t. leaves_then x (in_turn loop clause z) _
    (leaves_scope x loop.scope _ (leaves_then x (set loop.control types.Int (Num z)) _ (control (Num z)) (λ u. h)))
    (λ w. leaves_choose x (goes_on loop.limit loop.step (z +ℤ loop.step)) _ _
    (leaves_then x (set (Plain loop.slot) types.Int (Num (z +ℤ loop.step))) _
    (leaves_set x loop.slot types.Int (Num (z +ℤ loop.step)) (λ is e. apart is e))
    (λ u. leaves_for_turns x n loop clause apart control h (z +ℤ loop.step)))
    (leaves_give x Nothing)))

leaves_loop : (x : Spot) (n : ℕ) (line : Line) (loop : Counting) (clause : Meaning) → (true ≡ x.number → loop.slot ≡ x.slot → ⊥) →
    ((v : Value) → Leaves x (set loop.control types.Int v)) →
    Leaves x clause → (z : ℤ) → Leaves x (for_loop n line loop clause z)
unfolding for_loop
leaves_loop x n line loop clause apart control h z =
    leaves_choose x (is_same loop.step (pos 0)) _ _ (leaves_stop x _)
    (leaves_choose x (goes_on loop.limit loop.step z) _ _ (leaves_for_turns x n loop clause apart control h z) (leaves_give x Nothing))

-- a loop by `for` sets locals of the number row, from its slot on
leaves_for : (x : Spot) (n : ℕ) (line : Line) (slot : ℕ) (scope : Option (List ℕ)) (control : Place) (a b c clause : Meaning) →
    NoneOf x true slot → ((v : Value) → Leaves x (set control types.Int v)) →
    Leaves x a → Leaves x b → Leaves x c → Leaves x clause → Leaves x (for_meant n line slot scope control a b c clause)
unfolding for_meant
leaves_for x n line slot scope control a b c clause others at_control ha hb hc h =
    let apart : true ≡ x.number → slot ≡ x.slot → ⊥ = others slot (omega arith) (omega arith) in
    leaves_then x a _ ha (λ start. leaves_then x (set (Plain slot) types.Int start) _ (leaves_set x slot types.Int start (λ is e. apart is e))
    (λ u.
    leaves_then x b _ hb (λ limit. leaves_then x (set (Plain (slot + 1)) types.Int limit) _
    (leaves_set x (slot + 1) types.Int limit (others (slot + 1) (omega arith) (omega arith))) (λ u.
    leaves_then x c _ hc (λ step. leaves_then x (set (Plain (slot + 2)) types.Int step) _
    (leaves_set x (slot + 2) types.Int step (others (slot + 2) (omega arith) (omega arith))) (λ u.
    leaves_loop x n line (record { slot = slot; scope = scope; control = control; limit = word_of limit; step = word_of step }) clause apart at_control h
    (word_of start)))))))

-- Scans: their locals are others than this one, in both rows.
leaves_set_then : (x : Spot) (slot : ℕ) (ty : TyView) (v : Value) (next : Meaning) → (is_number ty ≡ x.number → slot ≡ x.slot → ⊥) → Leaves x next →
    Leaves x (set (Plain slot) ty v >>= λ u. next)
leaves_set_then x slot ty v next apart h = leaves_then x (set (Plain slot) ty v) (λ u. next) (leaves_set x slot ty v apart) (λ u. h)

leaves_last : (x : Spot) (scan : Scanning) → NoneOf x true scan.nums → NoneOf x false scan.refs → (key : Key) →
    Leaves x (set_last scan key)
leaves_last x scan others_in_nums others_in_refs (string_key bytes) =
    leaves_set x (scan.refs + 2) types.Str (Text bytes) (others_in_refs (scan.refs + 2) (omega arith) (omega arith))
leaves_last x scan others_in_nums others_in_refs (int_key z) =
    leaves_set x (scan.nums + 1) types.Int (Num z) (others_in_nums (scan.nums + 1) (omega arith) (omega arith))

leaves_scan_call : (x : Spot) (scan : Scanning) → NoneOf x true scan.nums → NoneOf x false scan.refs →
    ((args : List Value) → Leaves x (scan.call args)) → (count : ℕ) (again : Key → Meaning) (found : Found) → ((key : Key) → Leaves x (again key)) →
    Leaves x (scan_call scan count again found)
unfolding scan_call
leaves_scan_call x scan others_in_nums others_in_refs called count again found h =
    leaves_then x (set_last scan found.key) _ (leaves_last x scan others_in_nums others_in_refs found.key) (λ u.
    leaves_set_then x (scan.nums + 2) types.Int (Num (pos 1)) _ (others_in_nums (scan.nums + 2) (omega arith) (omega arith))
    (leaves_then x (scan.call (scan_arguments found)) _ (called (scan_arguments found)) (λ more.
    leaves_set_then x scan.nums types.Int (Num (pos (suc count))) _ (others_in_nums scan.nums (omega arith) (omega arith))
    (leaves_choose x (flag_of more) _ _ (leaves_then x take_turn _ (leaves_turn x) (λ t. h found.key)) (leaves_give x (Num (pos (suc count))))))))

leaves_scan_next : (x : Spot) (scan : Scanning) → NoneOf x true scan.nums → NoneOf x false scan.refs →
    ((args : List Value) → Leaves x (scan.call args)) → (count : ℕ) (again : Key → Meaning) (found : Option Found) →
    ((key : Key) → Leaves x (again key)) → Leaves x (scan_next scan count again found)
unfolding scan_next
leaves_scan_next x scan others_in_nums others_in_refs called count again None h = leaves_give x (Num (pos count))
leaves_scan_next x scan others_in_nums others_in_refs called count again (Some found) h =
    leaves_then x (touch (found.object ∷ [])) _ (leaves_touch x (found.object ∷ [])) (λ u.
    leaves_choose x (nat_eq count most_scan_calls) _ _ (leaves_stop x _) (leaves_scan_call x scan others_in_nums others_in_refs called count again found h))

leaves_scan_turns : (x : Spot) (n : ℕ) (scan : Scanning) → NoneOf x true scan.nums → NoneOf x false scan.refs →
    ((args : List Value) → Leaves x (scan.call args)) → (last : Option Key) (count : ℕ) → Leaves x (scan_turns n scan last count)
unfolding scan_turns
leaves_scan_turns x zero scan others_in_nums others_in_refs called last count =
    leaves_with_heap x _ (λ heap. leaves_attempt x scan.line (next_key scan.strings heap scan.table last) _
    (λ found. leaves_scan_next x scan others_in_nums others_in_refs called count (λ key. stop OutOfTurns) found (λ key. leaves_stop x OutOfTurns)))
leaves_scan_turns x (suc n) scan others_in_nums others_in_refs called last count =
    leaves_with_heap x _ (λ heap. leaves_attempt x scan.line (next_key scan.strings heap scan.table last) _
    (λ found. leaves_scan_next x scan others_in_nums others_in_refs called count (λ key. scan_turns n scan (Some key) (suc count)) found
    (λ key. leaves_scan_turns x n scan others_in_nums others_in_refs called (Some key) (suc count))))

leaves_begin_scan : (x : Spot) (strings : Bool) (refs nums : ℕ) (a f : Meaning) (next : Value → Value → Meaning) → NoneOf x true nums →
    NoneOf x false refs → Leaves x a → Leaves x f → ((table procedure : Value) → Leaves x (next table procedure)) →
    Leaves x (begin_scan strings refs nums a f next)
unfolding begin_scan
leaves_begin_scan x strings refs nums a f next others_in_nums others_in_refs ha hf h =
    leaves_then x a _ ha (λ table. leaves_set_then x refs types.Pntr table _ (others_in_refs refs (omega arith) (omega arith))
    (leaves_then x f _ hf (λ procedure. leaves_set_then x (refs + 1) (caller (if strings then types.Str else types.Int)) procedure _
    (others_in_refs (refs + 1) (omega arith) (omega arith))
    (leaves_set_then x nums types.Int (Num (pos 0)) _ (others_in_nums nums (omega arith) (omega arith))
    (leaves_set_then x (nums + 1) types.Int (Num (pos 0)) _ (others_in_nums (nums + 1) (omega arith) (omega arith))
    (leaves_set_then x (nums + 2) types.Int (Num (pos 0)) _ (others_in_nums (nums + 2) (omega arith) (omega arith)) (h table procedure)))))))

-- clauses that each keep a local
abbrev pub KeepClaim : Spot → Claim → Type 0
KeepClaim x claim = Keeps x claim.clause

-- and clauses whose types don't matter
abbrev KeepAll : Spot → Nodes → Type 0
KeepAll x none = Unit {0}
KeepAll x (more t ts) = Keeps x t × KeepAll x ts

pub each_left : {A : Type 0} (P : A → Type 0) (xs ys : List A) → Each P (xs ++ ys) → Each P xs
each_left P [] ys h = tt
each_left P (x ∷ xs) ys h = (h.0, each_left P xs ys h.1)

pub each_right : {A : Type 0} (P : A → Type 0) (xs ys : List A) → Each P (xs ++ ys) → Each P ys
each_right P [] ys h = h
each_right P (x ∷ xs) ys h = each_right P xs ys h.1

leaves_labels : (x : Spot) (c : Context) (value : TyView) (v : Value) (labels : Nodes) → Each (KeepClaim x) (all_have value labels) →
    Leaves x (eval_labels c value v labels)
unfolding eval_labels
leaves_labels x c value v none h = leaves_give x _
leaves_labels x c value v (more label rest) h =
    leaves_then x (eval c label) _ (h.0 c) (λ w. leaves_choose x (is_equal value v w) _ _ (leaves_give x _) (leaves_labels x c value v rest h.1))

leaves_arms : (x : Spot) (c : Context) (value ty : TyView) (v : Value) (arms : Arms) (d : Meaning) → Each (KeepClaim x) (arms_have value ty arms) →
    Leaves x d →
    Leaves x (eval_arms c value v arms d)
unfolding eval_arms
leaves_arms x c value ty v no_arms d h k = k
leaves_arms x c value ty v (more_arms (arm labels a) rest) d h k =
    let behind_labels = each_right (KeepClaim x) (all_have value labels) (a has ty ∷ arms_have value ty rest) h in
    leaves_then x (eval_labels c value v labels) _ (leaves_labels x c value v labels
    (each_left (KeepClaim x) (all_have value labels) (a has ty ∷ arms_have value ty rest) h))
    (λ found. leaves_choose x (flag_of found) _ _ (behind_labels.0 c) (leaves_arms x c value ty v rest d behind_labels.1 k))

-- clauses one after the other that each keep a local, and what goes on with their values
leaves_each : (x : Spot) (c : Context) (ts : Nodes) (next : List Value → Meaning) → KeepAll x ts → ((vs : List Value) → Leaves x (next vs)) →
    Leaves x (eval_each c ts next)
unfolding eval_each
leaves_each x c none next h k = k []
leaves_each x c (more t ts) next h k =
    leaves_then x (eval c t) _ (h.0 c) (λ v. leaves_each x c ts (λ vs. next (v ∷ vs)) h.1 (λ vs. k (v ∷ vs)))

keep_items : (x : Spot) (ty : TyView) (ts : Nodes) → Each (KeepClaim x) (all_have ty ts) → KeepAll x ts
keep_items x ty none h = tt
keep_items x ty (more t ts) h = (h.0, keep_items x ty ts h.1)

keep_arguments : (x : Spot) {ts : Nodes} {tys : TyViews} {claims : List Claim} → Arguments ts tys claims → Each (KeepClaim x) claims → KeepAll x ts
keep_arguments x typed.Arguments.no_more h = tt
keep_arguments x (typed.Arguments.one_more rest) h = (h.0, keep_arguments x rest h.1)

leaves_read_line : (x : Spot) (line : Line) → Leaves x (read_line line)
unfolding read_line
leaves_read_line x line = leaves_with_input x _ (λ input. leaves_attempt x line (line_read input) _ (λ bytes.
    leaves_then x (put_input (behind_line input)) _ (leaves_put_input x (behind_line input)) (λ u. leaves_made_text x bytes)))

leaves_at_end : (x : Spot) → Leaves x at_end
unfolding at_end
leaves_at_end x = leaves_with_input x _ (λ input. leaves_give x _)

leaves_lib : (x : Spot) (line : Line) (of : Option LibraryProcedure) (vs : List Value) → Leaves x (lib_meant line of vs)
leaves_lib x line (Some (OnHeap of)) vs = leaves_answered x line (heap_call of vs)
leaves_lib x line (Some ReadLine) vs = leaves_read_line x line
leaves_lib x line (Some AtEnd) vs = leaves_at_end x
leaves_lib x line (Some Length) vs = leaves_give x _
leaves_lib x line (Some IntText) vs = leaves_made_text x _
leaves_lib x line None vs = leaves_give x Nothing

keeps_by_rule : (x : Spot) {t : Node} {claims : List Claim} {ty : TyView} → Rule t claims ty → Each (KeepClaim x) claims → Keeps x t
unfolding eval
keeps_by_rule x (typed.int {v = v}) h c = leaves_give x (Num v)
keeps_by_rule x (typed.flag {v = v}) h c = leaves_give x (Flag v)
keeps_by_rule x (typed.text {bytes = bytes}) h c = leaves_give x (Text bytes)
keeps_by_rule x typed.empty h c = leaves_give x Nothing
keeps_by_rule x typed.abort h c = leaves_stop x _
keeps_by_rule x (typed.if_do {c = t} {a = a}) h c =
    leaves_then x (eval c t) _ (h.0 c) (λ v. leaves_choose x (flag_of v) _ _ (h.1.0 c) (leaves_give x Nothing))
keeps_by_rule x (typed.if_else {c = t} {a = a} {b = b}) h c =
    leaves_then x (eval c t) _ (h.0 c) (λ v. leaves_choose x (flag_of v) _ _ (h.1.0 c) (h.1.1.0 c))
keeps_by_rule x (typed.while {c = t} {a = a}) h c = leaves_while x c.bound (eval c t) (eval c a) (h.0 c) (h.1.0 c)
keeps_by_rule x (typed.repeat {a = a} {c = t} {b = b}) h c =
    leaves_while x c.bound _ (eval c b) (leaves_then x (eval c a) _ (h.0 c) (λ u. h.1.0 c)) (h.1.1.0 c)
keeps_by_rule x (typed.case {e = e} {d = d} {arms = arms} {value = value} {t = t} is) h c =
    let behind_arms = each_right (KeepClaim x) (arms_have value t arms) (d has t ∷ []) h.1 in
    leaves_then x (eval c e) _ (h.0 c) (λ v. leaves_arms x c value t v arms (eval c d)
    (each_left (KeepClaim x) (arms_have value t arms) (d has t ∷ []) h.1)
    (behind_arms.0 c))
keeps_by_rule x (typed.and {a = a} {b = b}) h c =
    leaves_then x (eval c a) _ (h.0 c) (λ v. leaves_choose x (flag_of v) _ _ (h.1.0 c) (leaves_give x v))
keeps_by_rule x (typed.or {a = a} {b = b}) h c = leaves_then x (eval c a) _ (h.0 c) (λ v. leaves_choose x (flag_of v) _ _ (leaves_give x v) (h.1.0 c))
keeps_by_rule x (typed.not {e = e}) h c = leaves_then x (eval c e) _ (h.0 c) (λ v. leaves_give x _)
keeps_by_rule x (typed.neg {e = e} {line = line}) h c = leaves_then x (eval c e) _ (h.0 c) (λ v. leaves_answer x line (neg_of (word_of v)))
keeps_by_rule x typed.plus h c = h.0 c
keeps_by_rule x (typed.arith {op = op} {a = a} {b = b} {line = line}) h c =
    leaves_then x (eval c a) _ (h.0 c) (λ v. leaves_then x (eval c b) _ (h.1.0 c) (λ w. leaves_answer x line (arith_of op (word_of v) (word_of w))))
keeps_by_rule x (typed.compare {op = op} {t = t} {a = a} {b = b} is) h c =
    leaves_then x (eval c a) _ (h.0 c) (λ v. leaves_then x (eval c b) _ (h.1.0 c) (λ w. leaves_give x _))
keeps_by_rule x (typed.write {e = e} {t = t} {line = line} is) h c = leaves_then x (eval c e) _ (h.0 c) (λ v. leaves_written x line None (shown t v))
keeps_by_rule x (typed.write_wide {e = e} {w = w} {t = t} {line = line} is) h c =
    leaves_then x (eval c e) _ (h.0 c) (λ v. leaves_then x (eval c w) _ (h.1.0 c) (λ width. leaves_written x line (Some (word_of width)) (shown t v)))
keeps_by_rule x typed.nil h c = leaves_give x Nil
keeps_by_rule x typed.class h c = leaves_give x Nothing
keeps_by_rule x (typed.is {e = e} of) h c = leaves_then x (eval c e) _ (h.0 c) (λ v. leaves_with_heap x _ (λ heap. leaves_give x _))
keeps_by_rule x (typed.join {a = a} {b = b} {line = line}) h c =
    leaves_then x (eval c a) _ (h.0 c) (λ v. leaves_then x (eval c b) _ (h.1.0 c)
    (λ w. leaves_attempt x line _ _ (λ bytes. leaves_made_text x bytes)))
keeps_by_rule x (typed.part {a = a} {i = i} {n = n} {line = line}) h c =
    leaves_then x (eval c a) _ (h.0 c) (λ v. leaves_then x (eval c i) _ (h.1.0 c) (λ from. leaves_then x (eval c n) _ (h.1.1.0 c)
    (λ count. leaves_attempt x line _ _ (λ bytes. leaves_made_text x bytes))))
keeps_by_rule x (typed.make {class = class} {args = args} of are) h c =
    leaves_each x c args (make_meant class) (keep_arguments x are h) (λ vs. leaves_made x Pointer _)
keeps_by_rule x (typed.field {p = p} {class = class} {index = index} {line = line} of) h c =
    leaves_then x (eval c p) _ (h.0 c) (λ o. leaves_read x line _)
keeps_by_rule x (typed.set_field {p = p} {e = e} {line = line} of) h c =
    leaves_then x (eval c p) _ (h.0 c) (λ o. leaves_then x (eval c e) _ (h.1.0 c) (λ v. leaves_put x line _ _))
keeps_by_rule x (typed.fill {l = l} {u = u} {e = e} {line = line} isnt) h c =
    leaves_then x (eval c l) _ (h.0 c) (λ low. leaves_then x (eval c u) _ (h.1.0 c) (λ high. leaves_then x (eval c e) _ (h.1.1.0 c)
    (λ v. leaves_attempt x line _ (made Vector) (λ object. leaves_made x Vector object))))
keeps_by_rule x (typed.elems {l = l} {items = items} {t = t} {line = line}) h c =
    leaves_then x (eval c l) _ (h.0 c) (λ low. leaves_each x c items _ (keep_items x t items h.1)
    (λ vs. leaves_attempt x line _ (made Vector) (λ object. leaves_made x Vector object)))
keeps_by_rule x (typed.element {v = v} {i = i} {line = line}) h c =
    leaves_then x (eval c v) _ (h.0 c) (λ vector. leaves_then x (eval c i) _ (h.1.0 c) (λ at. leaves_read x line _))
keeps_by_rule x (typed.set_element {v = v} {i = i} {e = e} {line = line}) h c =
    leaves_then x (eval c v) _ (h.0 c) (λ vector. leaves_then x (eval c i) _ (h.1.0 c) (λ at. leaves_then x (eval c e) _ (h.1.1.0 c)
    (λ w. leaves_put x line _ _)))
keeps_by_rule x (typed.bound {v = v} {upper = upper}) h c =
    leaves_then x (eval c v) _ (h.0 c) (λ vector. leaves_with_heap x _ (λ heap. leaves_give x _))
keeps_by_rule x (typed.lib {code = code} {args = args} {line = line} of are) h c =
    leaves_each x c args (lib_meant line (library_procedure code)) (keep_arguments x are h) (λ vs. leaves_lib x line (library_procedure code) vs)
keeps_by_rule x (typed.call {f = f} {args = args} {line = line} are) h c =
    leaves_then x (eval c f) _ (h.0 c)
    (λ v. leaves_each x c args (call_meant c line v) (keep_arguments x are h.1) (λ args. leaves_call x c line v args))

-- the slots of a clause are others than this local
abbrev pub apart_from : Spot → Shared
apart_from x = record {
  Has = λ taken. AllByRecursion (λ (slot : ℕ). slot ≢ x.slot) (taken x.number);
  left = λ first rest h. all_left (λ (slot : ℕ). slot ≢ x.slot) (first x.number) (rest x.number) h;
  right = λ first rest h. all_right (λ (slot : ℕ). slot ≢ x.slot) (first x.number) (rest x.number) h;
  like = λ taken other same h. subst (AllByRecursion (λ (slot : ℕ). slot ≢ x.slot)) (same x.number) h;
}

-- the three of a loop, and those of a scan
pub loop_others : (x : Spot) (slot : ℕ) → (apart_from x).Has (three_nums slot) → NoneOf x true slot
loop_others x slot apart at low high row e =
    three_has slot at low high (λ (other : ℕ). other ≢ x.slot)
    (subst (λ (b : Bool). AllByRecursion (λ (other : ℕ). other ≢ x.slot) (if b then from slot 3 else [])) (sym row) apart) e

scan_others : (x : Spot) (refs nums : ℕ) → (apart_from x).Has (scan_slots refs nums) → NoneOf x true nums × NoneOf x false refs
scan_others x refs nums apart = (
  λ at low high row e. three_has nums at low high (λ (other : ℕ). other ≢ x.slot)
      (subst (λ (b : Bool). AllByRecursion (λ (other : ℕ). other ≢ x.slot) (if b then from nums 3 else from refs 3)) (sym row) apart) e,
  λ at low high row e. three_has refs at low high (λ (other : ℕ). other ≢ x.slot)
      (subst (λ (b : Bool). AllByRecursion (λ (other : ℕ). other ≢ x.slot) (if b then from nums 3 else from refs 3)) (sym row) apart) e,
)

-- no name in scope has this local
abbrev pub Unnamed : Spot → InScope → Type 0
Unnamed x env = IsSpare x.number x.slot env.locals

name_apart : (x : Spot) (slot : ℕ) (ty : TyView) (locals : List Local) → IsSpare x.number x.slot locals → Some_is (IsLocal slot ty) locals →
    is_number ty ≡ x.number → slot ≡ x.slot → ⊥
name_apart x slot ty [] spare found number e = absurd found
name_apart x slot ty (local ∷ locals) spare (inl is) number e = spare.0 (sym number ∙ ap is_number (sym is.1)) (sym e ∙ sym is.0)
name_apart x slot ty (local ∷ locals) spare (inr found) number e = name_apart x slot ty locals spare.1 found number e

-- a name that is declared has a slot of its own
own_slot : (x : Spot) (slot : ℕ) (ty : TyView) → (apart_from x).Has (λ numbers. slot_on numbers ty (Plain slot)) → is_number ty ≡ x.number → slot ≡ x.slot → ⊥
own_slot x slot ty apart number e =
    (subst (AllByRecursion (λ (other : ℕ). other ≢ x.slot)) (slot_here ty slot)
    (subst (λ (b : Bool). AllByRecursion (λ (other : ℕ). other ≢ x.slot) (slot_on b ty (Plain slot))) (sym number) apart)).0 e

declared_apart : (x : Spot) {scope : Option (List ℕ)} {env own : InScope} {place : Place} {ty : TyView} → Declares scope env place ty own →
    (apart_from x).Has (λ numbers. slot_on numbers ty place) → (v : Value) → Leaves x (set place ty v)
declared_apart x (fit.as_local {slot = slot} {ty = ty}) apart v = leaves_set x slot ty v (own_slot x slot ty apart)
declared_apart x (fit.as_kept {position = position} {ty = ty} level around is at) apart v = leaves_kept x 0 position ty v

pub declared_unnamed : (x : Spot) {scope : Option (List ℕ)} {env own : InScope} {place : Place} {ty : TyView} → Declares scope env place ty own →
    (apart_from x).Has (λ numbers. slot_on numbers ty place) → Unnamed x env → Unnamed x own
declared_unnamed x (fit.as_local {slot = slot} {ty = ty}) apart spare = (λ number e. own_slot x slot ty apart (sym number) (sym e), spare)
declared_unnamed x (fit.as_kept level around is at) apart spare = spare

keeps_block : (x : Spot) (scope : Option (List ℕ)) (items : Nodes) → ((c : Context) (v : Value) → Leaves x (eval_all c v items)) → Keeps x (node.Block scope items)
unfolding eval
keeps_block x None items h c = h c Nothing
keeps_block x (Some text) items h c = leaves_scoped x text _ (h c Nothing)

keeps_for : (x : Spot) (slot : ℕ) (a b c : Node) (scope : Option (List ℕ)) (control : Place) (s : Node) (line : Line) → NoneOf x true slot →
    ((v : Value) → Leaves x (set control types.Int v)) → Keeps x a → Keeps x b → Keeps x c → Keeps x s → Keeps x (node.For slot a b c scope control s line)
unfolding eval
keeps_for x slot a b c scope control s line others at_control ha hb hc h context =
    leaves_for x context.bound line slot scope control (eval context a) (eval context b) (eval context c) (eval context s) others at_control (ha context)
    (hb context)
    (hc context) (h context)

keeps_scan : (x : Spot) (strings : Bool) (a f : Node) (refs nums : ℕ) (line : Line) → NoneOf x true nums → NoneOf x false refs → Keeps x a → Keeps x f →
    Keeps x (node.Scan strings a f refs nums line)
unfolding eval
keeps_scan x strings a f refs nums line others_in_nums others_in_refs ha hf context =
    leaves_begin_scan x strings refs nums (eval context a) (eval context f) _ others_in_nums others_in_refs (ha context) (hf context) (λ table procedure.
    leaves_scan_turns x context.bound (scan_by context line strings refs nums table procedure) others_in_nums others_in_refs
    (λ args. leaves_call x context line procedure args) None 0)

mutual
  unfolding eval eval_all

  pub keeps : (x : Spot) {env : InScope} {t : Node} {ty : TyView} → IsFit env t ty → (apart_from x).Has (of_clause t) → Unnamed x env → Keeps x t
  keeps x (fit.by_rule rule names parts) apart spare = keeps_by_rule x rule (keeps_each x parts (rule_has (apart_from x) rule apart) spare)
  keeps x (fit.name {place = place} {ty = ty} at) apart spare = λ c. leaves_get x place ty
  keeps x (fit.set_name {env = env} {place = Plain slot} {ty = ty} {e = e} at te) apart spare = λ c.
      leaves_then x (eval c e) _ (keeps x te (set_has (apart_from x) (Plain slot) ty e apart) spare c)
      (λ v. leaves_set x slot ty v (name_apart x slot ty env.locals spare at))
  keeps x (fit.set_name {place = Kept up position} {ty = ty} {e = e} at te) apart spare = λ c.
      leaves_then x (eval c e) _ (keeps x te (set_has (apart_from x) (Kept up position) ty e apart) spare c) (λ v. leaves_kept x up position ty v)
  keeps x (fit.block {scope = scope} {items = items} opens are) apart spare =
      keeps_block x scope items (λ c v. keeps_items x are (block_has (apart_from x) scope items apart) spare c v)
  keeps x (fit.loop {slot = slot} {a = a} {b = b} {c = c} {s = s} {scope = scope} {control = control} {line = line} opens declares are t) apart spare =
      let whole = loop_has (apart_from x) slot a b c scope control s line apart in
      let clauses = of_clauses (a ∷ b ∷ c ∷ s ∷ []) in
      let own = (apart_from x).left (joint (three_nums slot) (control_slots control)) clauses whole in
      let parts = (apart_from x).right (joint (three_nums slot) (control_slots control)) clauses whole in
      let at_control = (apart_from x).right (three_nums slot) (control_slots control) own in
      let three = keeps_each x are (first_three_have (apart_from x) a b c s parts) spare in
      keeps_for x slot a b c scope control s line (loop_others x slot ((apart_from x).left (three_nums slot) (control_slots control) own))
      (declared_apart x declares at_control) three.0 three.1.0 three.1.1.0
      (keeps x t (fourth_has (apart_from x) a b c s parts) (declared_unnamed x declares at_control spare))
  keeps x (fit.scan {string = string} {a = a} {f = f} {q = q} {s = s} {line = line} are) apart spare =
      let whole = scan_has (apart_from x) string a f q s line apart in
      let both = keeps_each x are ((apart_from x).right (scan_slots q s) (of_clauses (a ∷ f ∷ [])) whole) spare in
      let others = scan_others x q s ((apart_from x).left (scan_slots q s) (of_clauses (a ∷ f ∷ [])) whole) in
      keeps_scan x string a f q s line others.0 others.1 both.0 both.1.0
  keeps x (fit.literal is_body) apart spare = λ c. leaves_made_procedure x _

  pub keeps_each : (x : Spot) {env : InScope} {claims : List Claim} → AreFit env claims → (apart_from x).Has (of_clauses (clauses_of claims)) → Unnamed x env →
      Each (KeepClaim x) claims
  keeps_each x fit.AreFit.no_more apart spare = tt
  keeps_each x (fit.one_more {clause = clause} {rest = rest} first others) apart spare = (
    keeps x first ((apart_from x).left (of_clause clause) (of_clauses (clauses_of rest)) apart) spare,
    keeps_each x others ((apart_from x).right (of_clause clause) (of_clauses (clauses_of rest)) apart) spare,
  )

  keeps_items : (x : Spot) {scope : Option (List ℕ)} {env last : InScope} {before ty : TyView} {items : Nodes} → AreItems scope env before items ty last →
      (apart_from x).Has (of_clauses (item_nodes items)) → Unnamed x env → (c : Context) (v : Value) → Leaves x (eval_all c v items)
  keeps_items x fit.at_end apart spare c v = leaves_give x v
  keeps_items x (fit.a_clause {item = item} {rest = rest} first others) apart spare c v =
      leaves_then x (eval c item) _ (keeps x first ((apart_from x).left (of_clause item) (of_clauses (item_nodes rest)) apart) spare c)
      (λ w. keeps_items x others ((apart_from x).right (of_clause item) (of_clauses (item_nodes rest)) apart) spare c w)
  keeps_items x (fit.a_value {place = place} {e = e} {rest = rest} {of = of} isnt declares te others) apart spare c v =
      let whole = let_has (apart_from x) place of e rest apart in
      let after = joint (of_clause e) (of_clauses (item_nodes rest)) in
      let own = (apart_from x).left (λ numbers. slot_on numbers of place) after whole in
      let parts = (apart_from x).right (λ numbers. slot_on numbers of place) after whole in
      leaves_then x (eval c (node.Let place of e)) _
      (leaves_then x (eval c e) _ (keeps x te ((apart_from x).left (of_clause e) (of_clauses (item_nodes rest)) parts) spare c)
      (λ w. declared_apart x declares own w))
      (λ w. keeps_items x others ((apart_from x).right (of_clause e) (of_clauses (item_nodes rest)) parts) (declared_unnamed x declares own spare) c w)
  keeps_items x (fit.a_literal {place = place} {procedure = procedure} {rest = rest} {of = of} declares te others) apart spare c v =
      let e = node.Proc procedure in
      let whole = let_has (apart_from x) place of e rest apart in
      let after = joint (of_clause e) (of_clauses (item_nodes rest)) in
      let own = (apart_from x).left (λ numbers. slot_on numbers of place) after whole in
      let parts = (apart_from x).right (λ numbers. slot_on numbers of place) after whole in
      leaves_then x (eval c (node.Let place of e)) _
      (leaves_then x (eval c e) _ (leaves_made_procedure x procedure) (λ w. declared_apart x declares own w))
      (λ w. keeps_items x others ((apart_from x).right (of_clause e) (of_clauses (item_nodes rest)) parts) (declared_unnamed x declares own spare) c w)

-- A scan does what it means: its instruction finds the next key and pushes what the procedure is called with, the procedure is called, and what it
-- answers is tested; where it is true a turn is taken and the next key is looked for.
use Rattle.std.proofs.Common.{◌≡◌, ℕ, zero, suc, ◌+◌, ◌<◌, ◌≤◌, ◌^◌, ℤ, pos, ◌+ℤ◌, Bool, true, false, List, [], ◌∷◌, ◌++◌, length, Option, Some, None, refl, sym, ap, ◌∙◌, subst, arith, lt-ltb, eq-eqb}
use Rattle.std.specs.Prelude.{nat_eq, nat_lt, ◌&&◌, if◌then◌else◌}
use Rattle.std.proofs.lemmas.Bool.{eqb-false}
use Rattle.ps_gen.specs.ps_program.Node.{BodyNode}
use Rattle.ps_gen.specs.ps_base.TyView.{TyView}
use Rattle.ps_gen.specs.ps_base.TyView as types
use Rattle.ps_gen.specs.ps_base.declared.line.Line.{Line}
use Rattle.ps_gen.specs.ps_base.declared.trap.Trap.TheVariants.{Overflow}
use Rattle.ps_gen.specs.ps_base.declared.instr.Instr.TheVariants as instr
use Rattle.ps_gen.specs.ps_program.declared.place.Place.TheVariants.{Plain}
use Rattle.ps_typing_laws.specs.ps_typing.Library.{caller, two}
use Rattle.ps_stepping.specs.ps_heap.Operators.{is_int, is_same}
use Rattle.ps_stepping.specs.ps_heap.Ends.{End, Trapped, OutOfTurns}
use Rattle.ps_stepping.specs.ps_heap.Texts.{Attempt, Yields, Fails}
use Rattle.ps_stepping.specs.ps_heap.Values.{Value, Num, Text, Nil, Pointer, Procedure, as_written, word_of, bytes_of, is_one, flag_of}
use Rattle.ps_stepping.specs.ps_heap.Tables.{Key, string_key, int_key}
use Rattle.ps_stepping.specs.ps_heap.Objects.{Heap}
use Rattle.ps_stepping.specs.ps_heap.Held.{touched_weight, touching}
use Rattle.ps_stepping.specs.ps_heap.Scans.{Found, most_scan_calls, next_key, shown_key, scan_arguments}
use Rattle.ps_stepping.specs.ps_meaning.Meaning.{Frame, Store, State, Outcome, Value_is, Ends, Meaning, give, stop, after, ◌>>=◌, choose, attempt, with_heap, change, on_held, take_turn, back_to, in_frame, with_local, frame_with, set}
use Rattle.ps_stepping.specs.ps_meaning.Frames.{frame_of_call}
use Rattle.ps_stepping.specs.ps_meaning.Evaluation.{Context, most_calls, call_meant}
use Rattle.ps_stepping.specs.ps_meaning.Loops.{Scanning, scan_call, scan_next, scan_turns, begin_scan}
use Rattle.ps_gen.specs.ps_emitter.Choices as choice
use Rattle.ps_stepping.specs.Config.{Config, frame_words, frame_in}
use Rattle.ps_stepping.specs.Steps.{Step, and_touched, on, attempted, with_num}
use Rattle.ps_stepping.specs.Machine.{act, back}
use Rattle.ps_stepping.specs.Objects.{object_of}
use Rattle.ps_stepping.specs.Scans.{last_of, called_with, touched_now, scan_found, scan_on, one_more}
use Rattle.ps_soundness.specs.Over.{Grows}
use Rattle.ps_code_laws.specs.Fitting.{IsOf, AreOf}
use Rattle.ps_soundness.proofs.Operators.{OnYield}
use Rattle.ps_soundness.proofs.Growing.{grows_not, grows_then, of_kept}
use Rattle.ps_soundness.proofs.Calling.{ValuesOf}
use Rattle.ps_soundness.proofs.Tables.{IsKeyOf, MayBeFound, next_key_typed}
use Rattle.ps_soundness.proofs.Scans.{key_type, SparesThree, arguments_are}
use Rattle.ps_soundness.proofs.Combining.{Sound}
use Rattle.ps_code_laws.specs.Compiled.{compiled, compiled_heap, compiled_held}
use Rattle.ps_code_laws.proofs.HeldCompiling.{touches_weigh, touching_compiled}
use Rattle.ps_code_laws.proofs.LibraryCompiling.{next_key_compiled}
use Rattle.ps_code_laws.proofs.Literals.{IsLiteral, AreLiterals}
use Rattle.ps_code_laws.proofs.Holding.{calls_hold, holds_call, holds_set}
use Rattle.ps_code_laws.proofs.Falls.{Falls, calls_fall, falls_call, falls_set}
use Rattle.ps_code_laws.proofs.Keeps.{on_refs, Same, Leaves, other_local}
use Rattle.ps_code_laws.proofs.Clauses.{int, pntr, proc, IsScan, fields_by}
use Rattle.ps_code_laws.proofs.RowForms.{pushed_nums, pushed_refs}
use Rattle.ps_code_laws.proofs.Doing.{Origin, IsSince, since_more, since_left, after_it, Behind, Leads, leads_left, Way, place, Comes, Room, Does, quiet, halt, halt_there, less_room, if_true, if_false, if_lt, words_set, refs_set, with_words, jump_goes, turn_goes, push_goes, leads_more, later, does_set, does_set_ref}
use Rattle.ps_code_laws.proofs.From.{On, From, from_does, then_from, then_from_held}
use Rattle.ps_code_laws.proofs.Operands.{context_in, Stand}
use Rattle.ps_code_laws.proofs.Attempts.{object_pops, having_goes}
use Rattle.ps_code_laws.proofs.Calls.{Entered, does_call}
use Rattle.fit_soundness.proofs.Levels.{fits}
use Rattle.fit_soundness.proofs.Standings.{in_levels}

-- After a call the frame is the one before.

restored : (own : Frame) (o : Outcome) → On (λ u g. g ≡ own) (back_to own o)
unfolding back_to
restored own (Value_is v g t) = refl
restored own (Ends e t) = tt

either_restores : (deep : Bool) (other : Frame) (inner : Meaning) (e : End) (f : Frame) (t : State) →
    On (λ u g. g ≡ f) (choose deep (in_frame other inner) (stop e) f t)
unfolding choose in_frame stop
either_restores true other inner e f t = restored f (inner other t)
either_restores false other inner e f t = tt

call_restores : (c : Context) (line : Line) (v : Value) (args : List Value) (f : Frame) (t : State) → On (λ u g. g ≡ f) (call_meant c line v args f t)
unfolding call_meant stop
call_restores c line (Procedure (as_written of) scope) args f t =
    either_restores (nat_lt c.depth most_calls) (frame_of_call of scope args) (c.call of args) _ f t
call_restores c line v args f t = tt

-- The locals of a scan: the table, the procedure, how many calls have been, and the key that it was at last.

unfoldable pub key_in : Bool → ℕ → ℕ → Frame → Key
key_in true q s f = string_key (bytes_of (compiled (f.refs (q + 2))))
key_in false q s f = int_key (word_of (f.nums (s + 1)))

abbrev pub last_in : Bool → ℕ → ℕ → Frame → Option Key
last_in strings q s f = if is_one (word_of (f.nums (s + 2))) then Some (key_in strings q s f) else None

pub record IsScanning (strings : Bool) (q s : ℕ) (table procedure : Value) (count : ℕ) (last : Option Key) (f : Frame) : Type 0 where
  pub table_is : f.refs q ≡ table
  pub procedure_is : f.refs (q + 1) ≡ procedure
  pub count_is : word_of (f.nums s) ≡ pos count
  pub last_is : last_in strings q s f ≡ last

same_local : (row : ℕ → Value) (slot : ℕ) (v : Value) → with_local row slot v slot ≡ v
same_local row slot v = if_true (nat_eq slot slot) v (row slot) (eq-eqb slot slot refl)

-- with a key that was found
abbrev found_frame : ℕ → ℕ → Key → Frame → Frame
found_frame q s (string_key bytes) f = record f { refs = with_local f.refs (q + 2) (Text bytes); nums = with_local f.nums (s + 2) (Num (pos 1)) }
found_frame q s (int_key z) f = record f { nums = with_local (with_local f.nums (s + 1) (Num z)) (s + 2) (Num (pos 1)) }

is_found : (strings : Bool) (q s : ℕ) (table procedure : Value) (count : ℕ) (last : Option Key) (key : Key) (f : Frame) → IsKeyOf strings key →
    IsScanning strings q s table procedure count last f → IsScanning strings q s table procedure count (Some key) (found_frame q s key f)
unfolding key_in
is_found true q s table procedure count last (string_key bytes) f key is = record {
  table_is = other_local f.refs (q + 2) q (Text bytes) (λ e. omega arith) ∙ is.table_is;
  procedure_is = other_local f.refs (q + 2) (q + 1) (Text bytes) (λ e. omega arith) ∙ is.procedure_is;
  count_is = ap word_of (other_local f.nums (s + 2) s (Num (pos 1)) (λ e. omega arith)) ∙ is.count_is;
  last_is = ap (λ (v : Value). if is_one (word_of v) then Some (string_key (bytes_of (compiled (with_local f.refs (q + 2) (Text bytes) (q + 2))))) else None)
      (same_local f.nums (s + 2) (Num (pos 1)))
      ∙ ap (λ (v : Value). Some (string_key (bytes_of (compiled v)))) (same_local f.refs (q + 2) (Text bytes));
}
is_found true q s table procedure count last (int_key z) f key is = absurd key
is_found false q s table procedure count last (string_key bytes) f key is = absurd key
is_found false q s table procedure count last (int_key z) f key is =
    let row = with_local f.nums (s + 1) (Num z) in
    record {
      table_is = is.table_is;
      procedure_is = is.procedure_is;
      count_is = ap word_of (other_local row (s + 2) s (Num (pos 1)) (λ e. omega arith) ∙ other_local f.nums (s + 1) s (Num z) (λ e. omega arith)) ∙ is.count_is;
      last_is = ap (λ (v : Value). if is_one (word_of v) then Some (int_key (word_of (with_local row (s + 2) (Num (pos 1)) (s + 1)))) else None)
          (same_local row (s + 2) (Num (pos 1)))
          ∙ ap (λ (v : Value). Some (int_key (word_of v)))
          (other_local row (s + 2) (s + 1) (Num (pos 1)) (λ e. omega arith) ∙ same_local f.nums (s + 1) (Num z));
    }

-- with a call more
abbrev counted_frame : ℕ → ℕ → Frame → Frame
counted_frame s count f = record f { nums = with_local f.nums s (Num (pos count)) }

is_counted : (strings : Bool) (q s : ℕ) (table procedure : Value) (count more : ℕ) (last : Option Key) (f : Frame) →
    IsScanning strings q s table procedure count last f → IsScanning strings q s table procedure more last (counted_frame s more f)
unfolding key_in
is_counted true q s table procedure count more last f is = record {
  table_is = is.table_is;
  procedure_is = is.procedure_is;
  count_is = ap word_of (same_local f.nums s (Num (pos more)));
  last_is = ap (λ (v : Value). if is_one (word_of v) then Some (string_key (bytes_of (compiled (f.refs (q + 2))))) else None)
      (other_local f.nums s (s + 2) (Num (pos more)) (λ e. omega arith))
      ∙ is.last_is;
}
is_counted false q s table procedure count more last f is = record {
  table_is = is.table_is;
  procedure_is = is.procedure_is;
  count_is = ap word_of (same_local f.nums s (Num (pos more)));
  last_is = ap (λ (v : Value). if is_one (word_of v) then Some (int_key (word_of (with_local f.nums s (Num (pos more)) (s + 1)))) else None)
      (other_local f.nums s (s + 2) (Num (pos more)) (λ e. omega arith))
      ∙ ap (λ (v : Value). if is_one (word_of (f.nums (s + 2))) then Some (int_key (word_of v)) else None)
      (other_local f.nums s (s + 1) (Num (pos more)) (λ e. omega arith))
      ∙ is.last_is;
}

literal_key : (P : BodyNode → Type 0) (key : Key) → IsLiteral P (shown_key key)
literal_key P (string_key bytes) = tt
literal_key P (int_key z) = tt

arguments_of : (strings : Bool) (heap : Heap) (found : Found) → MayBeFound strings heap (Some found) →
    AreOf heap (fields_by (two (key_type strings) types.Pntr)) (scan_arguments found)
arguments_of strings heap found h = let are = arguments_are fits strings heap found h in (are.0, (are.1.0, tt))

references_are : (strings : Bool) → choice.references (two (key_type strings) types.Pntr) ≡ (if strings then 2 else 1)
references_are true = refl
references_are false = refl

one_call_more : (count : ℕ) → suc count < 2 ^ 31 → one_more (pos count) ≡ pos (suc count)
one_call_more count low =
    let more : pos count +ℤ pos 1 ≡ pos (suc count) = ap pos (plus_one count) in
    let is : is_int (pos count +ℤ pos 1) ≡ true = ap is_int more ∙ lt-ltb (suc count) (2 ^ 31) low in
    if_true (is_int (pos count +ℤ pos 1)) _ _ is ∙ more
  where
    plus_one : (k : ℕ) → k + 1 ≡ suc k
    plus_one k = omega arith

both_below : (a b m n : ℕ) → a < m → b < n → (nat_lt a m && nat_lt b n) ≡ true
both_below a b m n h k = ap (λ (x : Bool). x && nat_lt b n) (lt-ltb a m h) ∙ lt-ltb b n k

touched_is : (more counted : ℕ) → and_touched more counted ≡ more + counted
touched_is zero counted = omega arith
touched_is (suc more) counted = refl

-- no turn came back
abbrev TurnsFell : State → Outcome → Type 0
TurnsFell old (Value_is v g t) = t.store.turns ≤ old.store.turns
TurnsFell old (Ends e t) = Unit {0}

-- what the code of a scan needs
pub record Scans (w : Way) (n : Origin) (strings : Bool) (q s : ℕ) (line : Line) (turn need : ℕ) : Type 0 where
  pub refs_fit : q + 2 < (frame_in w.unit).refs
  pub nums_fit : s + 2 < (frame_in w.unit).nums
  pub deep : 2 ≤ need
  pub texts : SparesThree in_levels n.known types.Str q
  pub ints : SparesThree in_levels n.known types.Int s
  pub answers : (heap : Heap) (procedure : Value) (args : List Value) → IsOf heap (caller (key_type strings)) procedure →
      ValuesOf fits heap (two (key_type strings) types.Pntr) args →
      Sound in_levels heap n.known n.known types.Bool (call_meant (context_in w n.turns) line procedure args)
  pub entered : Entered w n.turns
  pub scan_at : Stand w turn (choice.scan strings q s (turn + 17 + 9 + 9) line)
  pub call_at : Stand w (turn + 17) (instr.Call (if strings then 2 else 1) line)
  pub more_at : Stand w (turn + 17 + 9) (instr.ScanMore s turn)
  pub get_at : Stand w (turn + 17 + 9 + 9) (instr.GetM s)

module _ (w : Way) where
  -- the machine's instruction
  scan_acts : (strings : Bool) (q s to p : ℕ) (line : Line) (nums : List ℤ) (refs : List Value) (f : Frame) (store : Store) →
      act (choice.scan strings q s to line) (place w p nums refs f store) ≡ scan_on strings p q s to line (place w (p + 17) nums refs f store)
  scan_acts true q s to p line nums refs f store = refl
  scan_acts false q s to p line nums refs f store = refl

  last_there : (strings : Bool) (q s p : ℕ) (nums : List ℤ) (refs : List Value) (f : Frame) (store : Store) →
      last_of strings q s (place w p nums refs f store) ≡ last_in strings q s f
  unfolding key_in
  last_there true q s p nums refs f store = refl
  last_there false q s p nums refs f store = refl

  -- there is room for the procedure, a key and what is under it
  abbrev MayCall : List ℤ → List Value → Type 0
  MayCall nums refs = ((frame_in w.unit).refs + length refs + 3 ≤ 512) × ((frame_in w.unit).nums + length nums + 1 ≤ 512)

  -- the words that the procedure is called with, over its own
  abbrev called_nums : Bool → Found → List ℤ → List ℤ
  called_nums strings found nums = pushed_nums (fields_by (two (key_type strings) types.Pntr)) (scan_arguments found) nums

  abbrev called_refs : Bool → Found → List Value → List Value
  called_refs strings found refs = pushed_refs (fields_by (two (key_type strings) types.Pntr)) (scan_arguments found) refs

  string_called : (q s p object : ℕ) (bytes : List ℕ) (procedure : Value) (nums : List ℤ) (refs : List Value) (f : Frame) (store : Store) →
      f.refs (q + 1) ≡ procedure → MayCall nums refs →
      called_with true q s (Text bytes) object (place w p nums refs f store)
      ≡ on (place w p nums (Pointer object ∷ Text bytes ∷ compiled procedure ∷ refs) (found_frame q s (string_key bytes) f) store)
  string_called q s p object bytes procedure nums refs f store is room =
      let config : (ℕ → ℤ) → (ℕ → Value) → Value → Config = λ row values v.
      record (place w p nums (Pointer object ∷ Text bytes ∷ v ∷ refs) f store) { locals = record { nums = row; refs = values } } in
      let numbers : ℕ → ℤ = with_local (λ slot. word_of (f.nums slot)) (s + 2) (pos 1) in
      let values : ℕ → Value = with_local (λ slot. compiled (f.refs slot)) (q + 2) (Text bytes) in
      if_lt ((frame_in w.unit).refs + length refs) frame_words _ _ (let h = room.0 in omega arith)
      ∙ if_lt ((frame_in w.unit).refs + suc (length refs)) frame_words _ _ (let h = room.0 in omega arith)
      ∙ if_lt ((frame_in w.unit).refs + suc (suc (length refs))) frame_words _ _ (let h = room.0 in omega arith)
      ∙ ap (λ (v : Value). on (config numbers values (compiled v))) is
      ∙ ap (λ (row : ℕ → ℤ). on (config row values (compiled procedure))) (sym (words_set f.nums (s + 2) (Num (pos 1))))
      ∙ ap (λ (row : ℕ → Value). on (config (λ slot. word_of (with_local f.nums (s + 2) (Num (pos 1)) slot)) row (compiled procedure)))
      (sym (refs_set f.refs (q + 2) (Text bytes)))

  int_called : (q s p object : ℕ) (z : ℤ) (procedure : Value) (nums : List ℤ) (refs : List Value) (f : Frame) (store : Store) →
      f.refs (q + 1) ≡ procedure → MayCall nums refs →
      called_with false q s (Num z) object (place w p nums refs f store)
      ≡ on (place w p (z ∷ nums) (Pointer object ∷ compiled procedure ∷ refs) (found_frame q s (int_key z) f) store)
  int_called q s p object z procedure nums refs f store is room =
      let config : (ℕ → ℤ) → Value → Config = λ row v. with_words w p (z ∷ nums) (Pointer object ∷ v ∷ refs) row f store in
      let inner = with_local f.nums (s + 1) (Num z) in
      if_lt ((frame_in w.unit).refs + length refs) frame_words _ _ (let h = room.0 in omega arith)
      ∙ if_lt ((frame_in w.unit).nums + length nums) frame_words _ _ (let h = room.1 in omega arith)
      ∙ if_lt ((frame_in w.unit).refs + suc (length refs)) frame_words _ _ (let h = room.0 in omega arith)
      ∙ ap (λ (v : Value). on (config (with_local (with_local (λ slot. word_of (f.nums slot)) (s + 1) z) (s + 2) (pos 1)) (compiled v))) is
      ∙ ap (λ (row : ℕ → ℤ). on (config (with_local row (s + 2) (pos 1)) (compiled procedure))) (sym (words_set f.nums (s + 1) (Num z)))
      ∙ ap (λ (row : ℕ → ℤ). on (config row (compiled procedure))) (sym (words_set inner (s + 2) (Num (pos 1))))

  called_acts : (strings : Bool) (q s p object : ℕ) (key : Key) (procedure : Value) (nums : List ℤ) (refs : List Value) (f : Frame) (store : Store) →
      IsKeyOf strings key → f.refs (q + 1) ≡ procedure → MayCall nums refs →
      called_with strings q s (shown_key key) object (place w p nums refs f store)
      ≡ on (place w p (called_nums strings (record { key = key; object = object }) [] ++ nums)
      (called_refs strings (record { key = key; object = object }) (compiled procedure ∷ []) ++ refs) (found_frame q s key f) store)
  called_acts true q s p object (string_key bytes) procedure nums refs f store key is room = string_called q s p object bytes procedure nums refs f store is room
  called_acts true q s p object (int_key z) procedure nums refs f store key is room = absurd key
  called_acts false q s p object (string_key bytes) procedure nums refs f store key is room = absurd key
  called_acts false q s p object (int_key z) procedure nums refs f store key is room = int_called q s p object z procedure nums refs f store is room

  module _ (n : Origin) (strings : Bool) (q s : ℕ) (line : Line) (turn need : ℕ) (h : Scans w n strings q s line turn need) (table procedure : Value)
      (table_of : IsOf n.heap types.Pntr table) (procedure_of : IsOf n.heap (caller (key_type strings)) procedure) (literal : IsLiteral w.Body procedure) where
    abbrev scan : Scanning
    scan = record { line = line; strings = strings; refs = q; nums = s; table = table; call = call_meant (context_in w n.turns) line procedure }

    abbrev last_at : ℕ
    last_at = turn + 17 + 9 + 9

    abbrev Ended : List ℤ → List Value → Outcome → Type 0
    Ended nums refs o = Comes w (last_at + 5) nums refs types.Int o

    abbrev At : ℕ → Option Key → Frame → Type 0
    At count last f = IsScanning strings q s table procedure count last f

    -- a local that has another value
    since_set : {f : Frame} {t : State} (slot : ℕ) (ty : TyView) (v : Value) → IsLiteral w.Body v →
        Sound in_levels t.store.held.objects n.known n.known types.Void (set (Plain slot) ty v) → IsSince w.Body n f t → IsSince w.Body n (frame_with f ty slot v) t
    unfolding set
    since_set {f = f} {t = t} slot ty v literal sound since =
        let typed = sound.runs f t (grows_not t.store.held.objects) since.typed since.are in
        let held = holds_set w.Body (Plain slot) ty v literal f t since.held.0 since.held.1 in
        record { few = since.few; grows = since.grows; typed = since.typed; are = typed.are; held = (held.1, held.2); weighs = since.weighs }

    since_found : (key : Key) (f : Frame) (t : State) → IsSince w.Body n f t → IsSince w.Body n (found_frame q s key f) t
    since_found (string_key bytes) f t since =
        let heap = t.store.held.objects in
        since_set (s + 2) types.Int (Num (pos 1)) tt (h.ints (s + 2) (omega arith) (omega arith) heap (Num (pos 1)))
        (since_set (q + 2) types.Str (Text bytes) tt (h.texts (q + 2) (omega arith) (omega arith) heap (Text bytes)) since)
    since_found (int_key z) f t since =
        let heap = t.store.held.objects in
        since_set (s + 2) types.Int (Num (pos 1)) tt (h.ints (s + 2) (omega arith) (omega arith) heap (Num (pos 1)))
        (since_set (s + 1) types.Int (Num z) tt (h.ints (s + 1) (omega arith) (omega arith) heap (Num z)) since)

    -- the end of a scan: the count is its value
    get_goes : (count : ℕ) (nums : List ℤ) (refs : List Value) (g : Frame) (t : State) → word_of (g.nums s) ≡ pos count → Room w need nums refs →
        w.Holds (place w (last_at + 5) (pos count ∷ nums) refs g t.store) t.events → w.Holds (place w last_at nums refs g t.store) t.events
    get_goes count nums refs g t is room reach =
        quiet w (instr.GetM s) h.get_at
        (if_lt s (frame_in w.unit).nums _ _ (let fit = h.nums_fit in omega arith)
        ∙ push_goes w (last_at + 5) (word_of (g.nums s)) nums refs g t.store (less_room w 1 need nums refs (let deep = h.deep in omega arith) room))
        (subst (λ (z : ℤ). w.Holds (place w (last_at + 5) (z ∷ nums) refs g t.store) t.events) (sym is) reach)

    -- what goes on after the procedure has answered true, with fewer turns
    abbrev GoesOn : ℕ → ℕ → (Key → Meaning) → Type 0
    GoesOn m count again = (key : Key) (nums : List ℤ) (refs : List Value) (g : Frame) (t : State) → t.store.turns < m → At count (Some key) g →
        Room w need nums refs → IsSince w.Body n g t → Ended nums refs (again key g t) → w.Holds (place w turn nums refs g t.store) t.events

    more_acts : (count : ℕ) (more : Value) (nums : List ℤ) (refs : List Value) (g : Frame) (store : Store) → suc count < 2 ^ 31 →
        word_of (g.nums s) ≡ pos count →
        act (instr.ScanMore s turn) (place w (turn + 17 + 9) (word_of more ∷ nums) refs g store)
        ≡ (if is_one (word_of more) then back (turn + 17 + 9) turn (place w last_at nums refs (counted_frame s (suc count) g) store)
        else on (place w last_at nums refs (counted_frame s (suc count) g) store))
    more_acts count more nums refs g store low is =
        let tested : Config → Step = λ c. if is_one (word_of more) then back (turn + 17 + 9) turn c else on c in
        let c = place w last_at nums refs g store in
        if_lt (s + 2) (frame_in w.unit).nums _ _ h.nums_fit
        ∙ ap (λ (z : ℤ). tested (with_num c s z)) (ap one_more is ∙ one_call_more count low)
        ∙ ap (λ (row : ℕ → ℤ). tested (with_words w last_at nums refs row g store)) (sym (words_set g.nums s (Num (pos (suc count)))))

    -- by what the procedure answered
    answered_goes : (m count : ℕ) (again : Key → Meaning) (key : Key) (more : Value) (nums : List ℤ) (refs : List Value) (g : Frame) (t : State) →
        suc count < 2 ^ 31 → GoesOn m (suc count) again → At count (Some key) g → t.store.turns ≤ m → Room w need nums refs → IsSince w.Body n g t → (b : Bool) →
        is_one (word_of more) ≡ b →
        Ended nums refs (choose b (take_turn >>= λ u. again key) (give (Num (pos (suc count)))) (counted_frame s (suc count) g) t) →
        w.Holds (place w (turn + 17 + 9) (word_of more ∷ nums) refs g t.store) t.events
    unfolding choose take_turn ◌>>=◌ give
    answered_goes m count again key more nums refs g t low goes_on is few room since true on_it reach =
        let after_it = counted_frame s (suc count) g in
        let since_it = since_set s types.Int (Num (pos (suc count))) tt (h.ints s (omega arith) (omega arith) t.store.held.objects (Num (pos (suc count)))) since in
        turn_goes w (last_at + 5) turn (place w (turn + 17 + 9) (word_of more ∷ nums) refs g t.store) (instr.ScanMore s turn) nums nums refs refs types.Int
        after_it t t.store.turns (λ u. again key) refl h.more_at
        (more_acts count more nums refs g t.store low is.count_is ∙ if_true (is_one (word_of more)) _ _ on_it
        ∙ if_lt turn (turn + 17 + 9) _ _ (omega arith))
        (λ events left less rest. goes_on key nums refs after_it (record { events = events; store = record t.store { turns = left } }) (omega arith)
        (is_counted strings q s table procedure count (suc count) (Some key) g is) room
        (record {
          few = let few_left = since_it.few in omega arith;
          grows = since_it.grows;
          typed = since_it.typed;
          are = since_it.are;
          held = since_it.held;
          weighs = since_it.weighs;
        }) rest) reach
    answered_goes m count again key more nums refs g t low goes_on is few room since false on_it reach =
        quiet w (instr.ScanMore s turn) h.more_at
        (more_acts count more nums refs g t.store low is.count_is ∙ if_false (is_one (word_of more)) _ _ on_it)
        (get_goes (suc count) nums refs (counted_frame s (suc count) g) t (ap word_of (same_local g.nums s (Num (pos (suc count))))) room reach)

    -- what follows the call
    abbrev behind_call : ℕ → (Key → Meaning) → Key → Value → Meaning
    behind_call count again key more =
        set (Plain s) types.Int (Num (pos (suc count))) >>= λ u.
        choose (flag_of more) (take_turn >>= λ u. again key) (give (Num (pos (suc count))))

    come_back : (m count : ℕ) (again : Key → Meaning) (key : Key) (nums : List ℤ) (refs : List Value) (f : Frame) (old : State) (o : Outcome) →
        suc count < 2 ^ 31 → GoesOn m (suc count) again → At count (Some key) f → old.store.turns ≤ m → Room w need nums refs →
        Grows n.heap old.store.held.objects → On (λ u g. g ≡ f) o → Behind w.Body (after_it n old.store.held.objects n.known) n.known types.Bool o →
        TurnsFell old o → Ended nums refs (after o (behind_call count again key)) → Comes w (turn + 17 + 9) nums refs types.Bool o
    unfolding after set ◌>>=◌
    come_back m count again key nums refs f old (Value_is more g t) low goes_on is few room grown restored left fell reach =
        let origin = after_it n old.store.held.objects n.known in
        let since : IsSince w.Body n g t = since_more {n = n} (omega arith) (grows_then n.heap old.store.held.objects t.store.held.objects grown left.grows)
        (since_left origin n.known types.Bool more g t left) in
        answered_goes m count again key more nums refs g t low goes_on (subst (At count (Some key)) (sym restored) is) (omega (arith, fell, few)) room since
        (flag_of more) refl reach
    come_back m count again key nums refs f old (Ends e t) low goes_on is few room grown restored left fell reach = reach

    -- the call with what was found
    call_goes : (m count : ℕ) (again : Key → Meaning) (found : Found) (last : Option Key) (nums : List ℤ) (refs : List Value) (f : Frame) (t : State) →
        suc count < 2 ^ 31 → GoesOn m (suc count) again → MayBeFound strings t.store.held.objects (Some found) → At count last f → t.store.turns ≤ m →
        Room w need nums refs → IsSince w.Body n f t →
        Ended nums refs (after (call_meant (context_in w n.turns) line procedure (scan_arguments found) (found_frame q s found.key f) t)
        (behind_call count again found.key)) →
        w.Holds (place w (turn + 17) (called_nums strings found [] ++ nums) (called_refs strings found (compiled procedure ∷ []) ++ refs)
        (found_frame q s found.key f) t.store) t.events
    call_goes m count again found last nums refs f t low goes_on may is few room since reach =
        let heap = t.store.held.objects in
        let origin = after_it n heap n.known in
        let g = found_frame q s found.key f in
        let args = scan_arguments found in
        let c = context_in w n.turns in
        let tys = two (key_type strings) types.Pntr in
        let now : IsOf heap (caller (key_type strings)) procedure = of_kept fits n.heap heap since.grows (caller (key_type strings)) procedure procedure_of in
        let literals : AreLiterals w.Body args = (literal_key w.Body found.key, (tt, tt)) in
        let since_g = since_found found.key f t since in
        let since_origin : IsSince w.Body origin g t = record {
          few = since_g.few;
          grows = grows_not heap;
          typed = since_g.typed;
          are = since_g.are;
          held = since_g.held;
          weighs = since_g.weighs;
        } in
        let leads : Leads w.Body origin n.known types.Bool (call_meant c line procedure args) = record {
          falls = falls_call c (calls_fall n.turns (length w.callers)) line procedure args;
          sound = h.answers heap procedure args now (arguments_are fits strings heap found may);
          holds = holds_call w.Body c (calls_hold w.Body n.turns (length w.callers)) line procedure args literal literals;
        } in
        (does_call w origin (turn + 17) need line tys types.Bool procedure args (let deep = h.deep in omega arith) h.entered now literal
        (arguments_of strings heap found may) literals
        (subst (λ (k : ℕ). Stand w (turn + 17) (instr.Call k line)) (sym (references_are strings)) h.call_at)).by nums refs g t room since_origin
        (come_back m count again found.key nums refs g t (call_meant c line procedure args g t) low goes_on
        (is_found strings q s table procedure count last found.key f may.0 is) few room since.grows (call_restores c line procedure args g t)
        (leads_left leads since_origin) (fell (call_meant c line procedure args g t) (leads.falls g t)) reach)
      where
        fell : (o : Outcome) → Falls t.store o → TurnsFell t o
        fell (Value_is v g x) k = k.0
        fell (Ends e x) k = tt

    -- the key and what is under it are kept in the locals, and the procedure is called
    sets_are : (count : ℕ) (again : Key → Meaning) (key : Key) (object : ℕ) (f : Frame) (t : State) →
        scan_call scan count again (record { key = key; object = object }) f t
        ≡ after (call_meant (context_in w n.turns) line procedure (shown_key key ∷ Pointer object ∷ []) (found_frame q s key f) t) (behind_call count again key)
    unfolding scan_call ◌>>=◌ after set
    sets_are count again (string_key bytes) object f t = refl
    sets_are count again (int_key z) object f t = refl

    -- a key was found: the number of calls is tested
    tested_goes : (m count : ℕ) (again : Key → Meaning) (found : Found) (last : Option Key) (nums : List ℤ) (refs : List Value) (f : Frame) (t : State) →
        count < 2 ^ 31 → (suc count < 2 ^ 31 → GoesOn m (suc count) again) → MayBeFound strings t.store.held.objects (Some found) → At count last f →
        t.store.turns ≤ m → Room w need nums refs → IsSince w.Body n f t →
        act (choice.scan strings q s last_at line) (place w turn nums refs f t.store)
        ≡ scan_found strings turn q s last_at line (Some found) (place w (turn + 17) nums refs f t.store) → (b : Bool) → nat_eq count most_scan_calls ≡ b →
        Ended nums refs (choose b (stop (Trapped Overflow line)) (scan_call scan count again found) f
        (record t { store = on_held (touching (found.object ∷ []) t.store.held) t.store })) →
        w.Holds (place w turn nums refs f t.store) t.events
    unfolding choose stop
    tested_goes m count again found last nums refs f t low goes_on may is few room since acts true most reach =
        let held = t.store.held in
        let ids = found.object ∷ [] in
        let machine = touched_now ids (compiled_held held) in
        let same : machine ≡ touched_weight held.weigh held.objects held.homes ids held.touched =
        touches_weigh held.weigh since.weighs held.objects held.homes ids held.touched in
        let sum : held.counted + touched_weight held.weigh held.objects held.homes ids held.touched ≡ and_touched machine held.counted =
        omega (arith, same, touched_is machine held.counted) in
        halt w {touched = machine} (choice.scan strings q s last_at line) h.scan_at
        (acts ∙ if_true (is_same (word_of (f.nums s)) (pos most_scan_calls)) _ _ (ap (λ (z : ℤ). is_same z (pos most_scan_calls)) is.count_is ∙ most))
        (subst (λ (k : ℕ). w.Final (Trapped Overflow line) k t.events) sum reach)
    tested_goes m count again found last nums refs f t low goes_on may is few room since acts false most reach =
        let ids = found.object ∷ [] in
        let touched : State = record t { store = on_held (touching ids t.store.held) t.store } in
        let here = place w (turn + 17) nums refs f t.store in
        let low_next : suc count < 2 ^ 31 = omega (arith, low, eqb-false count most_scan_calls most) in
        let deep : MayCall nums refs =
        let refs_fit = h.refs_fit in let nums_fit = h.nums_fit in let on_nums = room.on_nums in let on_refs = room.on_refs in let two = h.deep in
        (omega arith, omega arith) in
        let since_touched : IsSince w.Body n f touched = record {
          few = since.few;
          grows = since.grows;
          typed = since.typed;
          are = since.are;
          held = since.held;
          weighs = since.weighs;
        } in
        quiet w (choice.scan strings q s last_at line) h.scan_at
        (acts ∙ if_false (is_same (word_of (f.nums s)) (pos most_scan_calls)) _ _ (ap (λ (z : ℤ). is_same z (pos most_scan_calls)) is.count_is ∙ most)
        ∙ ap (called_with strings q s (shown_key found.key) found.object)
        (having_goes w (turn + 17) nums refs f t.store (touching ids) (touching ids) (touching_compiled ids t.store.held since.weighs))
        ∙ called_acts strings q s (turn + 17) found.object found.key procedure nums refs f touched.store may.0 is.procedure_is deep)
        (call_goes m count again found last nums refs f touched low_next (goes_on low_next) may is few room since_touched
        (subst (Ended nums refs) (sets_are count again found.key found.object f touched) reach))

    -- by what the table has next
    found_goes : (m count : ℕ) (again : Key → Meaning) (last : Option Key) (nums : List ℤ) (refs : List Value) (f : Frame) (t : State)
        (next : Attempt (Option Found)) → count < 2 ^ 31 → (suc count < 2 ^ 31 → GoesOn m (suc count) again) →
        OnYield (MayBeFound strings t.store.held.objects) next → At count last f → t.store.turns ≤ m → Room w need nums refs → IsSince w.Body n f t →
        act (choice.scan strings q s last_at line) (place w turn nums refs f t.store)
        ≡ attempted line next (λ found. scan_found strings turn q s last_at line found (place w (turn + 17) nums refs f t.store)) →
        Ended nums refs (attempt line next (scan_next scan count again) f t) → w.Holds (place w turn nums refs f t.store) t.events
    unfolding attempt scan_next change ◌>>=◌ after give stop
    found_goes m count again last nums refs f t (Fails trap) low goes_on may is few room since acts reach =
        halt_there w (choice.scan strings q s last_at line) t refl h.scan_at acts reach
    found_goes m count again last nums refs f t (Yields None) low goes_on may is few room since acts reach =
        jump_goes w turn last_at (place w (turn + 17) nums refs f t.store) (choice.scan strings q s last_at line) h.scan_at acts (omega arith)
        (get_goes count nums refs f t is.count_is room reach)
    found_goes m count again last nums refs f t (Yields (Some found)) low goes_on may is few room since acts reach =
        tested_goes m count again found last nums refs f t low goes_on may is few room since acts (nat_eq count most_scan_calls) refl reach

    -- the next key is looked for
    next_acts : (count : ℕ) (last : Option Key) (nums : List ℤ) (refs : List Value) (f : Frame) (t : State) → At count last f → IsSince w.Body n f t →
        act (choice.scan strings q s last_at line) (place w turn nums refs f t.store)
        ≡ attempted line (next_key strings t.store.held.objects table last)
        (λ found. scan_found strings turn q s last_at line found (place w (turn + 17) nums refs f t.store))
    next_acts count last nums refs f t is since =
        let heap = t.store.held.objects in
        let c = place w (turn + 17) nums refs f t.store in
        let go : Attempt (Option Found) → Step = λ next. attempted line next (λ found. scan_found strings turn q s last_at line found c) in
        let look : Value → Config → Step = λ v d. attempted line (next_key strings d.store.held.objects v (last_of strings q s d))
        (λ found. scan_found strings turn q s last_at line found d) in
        scan_acts strings q s last_at turn line nums refs f t.store
        ∙ if_true (nat_lt (q + 2) (frame_in w.unit).refs && nat_lt (s + 2) (frame_in w.unit).nums) _ _
        (both_below (q + 2) (s + 2) (frame_in w.unit).refs (frame_in w.unit).nums h.refs_fit h.nums_fit)
        ∙ ap (λ (v : Value). object_of (compiled v) c look) is.table_is ∙ object_pops n.heap table table_of c look
        ∙ ap (λ (key : Option Key). go (next_key strings (compiled_heap heap) (compiled table) key))
        (last_there strings q s (turn + 17) nums refs f t.store ∙ is.last_is)
        ∙ ap go (next_key_compiled strings heap table last)

    -- the whole scan, from its instruction on, after so many calls
    pub scan_does : (m count : ℕ) (last : Option Key) (nums : List ℤ) (refs : List Value) (f : Frame) (t : State) → t.store.turns ≤ m → count < 2 ^ 31 →
        At count last f → Room w need nums refs → IsSince w.Body n f t → Ended nums refs (scan_turns m scan last count f t) →
        w.Holds (place w turn nums refs f t.store) t.events
    unfolding scan_turns with_heap
    scan_does zero count last nums refs f t few low is room since reach =
        found_goes zero count (λ key. stop OutOfTurns) last nums refs f t (next_key strings t.store.held.objects table last) low
        (λ low_next key nums refs g x less at room since rest. absurd (omega arith))
        (next_key_typed fits strings t.store.held.objects table last since.typed.0) is few room since (next_acts count last nums refs f t is since) reach
    scan_does (suc m) count last nums refs f t few low is room since reach =
        found_goes (suc m) count (λ key. scan_turns m scan (Some key) (suc count)) last nums refs f t (next_key strings t.store.held.objects table last) low
        (λ low_next key nums refs g x less at room since rest. scan_does m (suc count) (Some key) nums refs g x (omega arith) low_next at room since rest)
        (next_key_typed fits strings t.store.held.objects table last since.typed.0) is few room since (next_acts count last nums refs f t is since) reach

  -- The beginning of a scan: the table and the procedure are kept in locals, and three numbers are 0.

  does_zero : (n : Origin) (p slot : ℕ) → slot < (frame_in w.unit).nums → Stand w p (instr.Int (pos 0)) → Stand w (p + 5) (instr.SetM slot) →
      Does w n [] [] (set (Plain slot) types.Int (Num (pos 0))) types.Void 1 p (p + 5 + 5)
  does_zero n p slot below at_int at_set = record {
    by = λ nums refs f t room since reach.
        quiet w (instr.Int (pos 0)) at_int (push_goes w (p + 5) (pos 0) nums refs f t.store room)
        ((does_set w n (p + 5) slot (Num (pos 0)) int below at_set).by nums refs f t (less_room w 0 1 nums refs (omega arith) room) since reach);
  }

  -- what the locals hold so far
  abbrev Tabled : ℕ → Value → Frame → Type 0
  Tabled q table f = f.refs q ≡ table

  abbrev Prepared : ℕ → Value → Value → Frame → Type 0
  Prepared q table procedure f = (f.refs q ≡ table) × (f.refs (q + 1) ≡ procedure)

  abbrev Counted : ℕ → ℕ → Value → Value → Frame → Type 0
  Counted q s table procedure f = (f.refs q ≡ table) × (f.refs (q + 1) ≡ procedure) × (word_of (f.nums s) ≡ pos 0)

  any_left : (o : Outcome) → On (λ v g. Unit {0}) o
  any_left (Value_is v f t) = tt
  any_left (Ends e t) = tt

  table_put : (q : ℕ) (table : Value) (f : Frame) (t : State) → On (λ u g. Tabled q table g) (set (Plain q) types.Pntr table f t)
  unfolding set
  table_put q table f t = same_local f.refs q table

  table_stays : (q : ℕ) (table : Value) (f : Frame) (o : Outcome) → Tabled q table f → Same (on_refs q) f o → On (λ v g. Tabled q table g) o
  table_stays q table f (Value_is v g t) is k = k ∙ is
  table_stays q table f (Ends e t) is k = tt

  procedure_put : (strings : Bool) (q : ℕ) (table procedure : Value) (f : Frame) (t : State) → Tabled q table f →
      On (λ u g. Prepared q table procedure g) (set (Plain (q + 1)) (caller (key_type strings)) procedure f t)
  unfolding set
  procedure_put strings q table procedure f t is =
      (other_local f.refs (q + 1) q procedure (λ e. omega arith) ∙ is, same_local f.refs (q + 1) procedure)

  count_put : (q s : ℕ) (table procedure : Value) (f : Frame) (t : State) → Prepared q table procedure f →
      On (λ u g. Counted q s table procedure g) (set (Plain s) types.Int (Num (pos 0)) f t)
  unfolding set
  count_put q s table procedure f t is = (is.0, is.1, ap word_of (same_local f.nums s (Num (pos 0))))

  key_put : (q s : ℕ) (table procedure : Value) (f : Frame) (t : State) → Counted q s table procedure f →
      On (λ u g. Counted q s table procedure g) (set (Plain (s + 1)) types.Int (Num (pos 0)) f t)
  unfolding set
  key_put q s table procedure f t is =
      (is.0, is.1, ap word_of (other_local f.nums (s + 1) s (Num (pos 0)) (λ e. omega arith)) ∙ is.2)

  begun : (strings : Bool) (q s : ℕ) (table procedure : Value) (f : Frame) (t : State) → Counted q s table procedure f →
      On (λ u g. IsScanning strings q s table procedure 0 None g) (set (Plain (s + 2)) types.Int (Num (pos 0)) f t)
  unfolding set
  begun strings q s table procedure f t is = record {
    table_is = is.0;
    procedure_is = is.1;
    count_is = ap word_of (other_local f.nums (s + 2) s (Num (pos 0)) (λ e. omega arith)) ∙ is.2;
    last_is = ap (λ (v : Value). if is_one (word_of v) then Some (key_in strings q s (record f { nums = with_local f.nums (s + 2) (Num (pos 0)) })) else None)
        (same_local f.nums (s + 2) (Num (pos 0)));
  }

  pub does_scan : (n : Origin) (strings : Bool) (q s need na nf p pa pf : ℕ) (line : Line) (a f : Meaning) → IsScan n.known strings q s →
      q + 2 < (frame_in w.unit).refs → s + 2 < (frame_in w.unit).nums → 2 ≤ need → na ≤ need → nf ≤ need → Leads w.Body n n.known types.Pntr a →
      Leads w.Body n n.known (caller (key_type strings)) f → Does w n [] [] a types.Pntr na p pa → Stand w pa (instr.SetP q) →
      Does w n [] [] f (caller (key_type strings)) nf (pa + 5) pf → Stand w pf (instr.SetP (q + 1)) →
      Stand w (pf + 5) (instr.Int (pos 0)) → Stand w (pf + 5 + 5) (instr.SetM s) → Stand w (pf + 5 + 5 + 5) (instr.Int (pos 0)) →
      Stand w (pf + 5 + 5 + 5 + 5) (instr.SetM (s + 1)) → Stand w (pf + 5 + 5 + 5 + 5 + 5) (instr.Int (pos 0)) →
      Stand w (pf + 5 + 5 + 5 + 5 + 5 + 5) (instr.SetM (s + 2)) → Leaves (on_refs q) f →
      ((heap : Heap) → Scans w (after_it n heap n.known) strings q s line (pf + 5 + 5 + 5 + 5 + 5 + 5 + 5) need) →
      Does w n [] [] (begin_scan strings q s a f (λ table procedure. scan_turns n.turns
      (record { line = line; strings = strings; refs = q; nums = s; table = table; call = call_meant (context_in w n.turns) line procedure }) None 0)) types.Int
      need p (pf + 5 + 5 + 5 + 5 + 5 + 5 + 5 + 17 + 9 + 9 + 5)
  unfolding begin_scan
  does_scan n strings q s need na nf p pa pf line a f is refs_fit nums_fit deep le_a le_f la lf da at_table df at_procedure at1 at2 at3 at4 at5 at6 keeps scans =
      let end = pf + 5 + 5 + 5 + 5 + 5 + 5 + 5 + 17 + 9 + 9 + 5 in
      let sets : (at : ℕ) (heap : Heap) → s ≤ at → at < s + 3 → Leads w.Body (after_it n heap n.known) n.known types.Void (set (Plain at) types.Int (Num (pos 0)))
      = λ at heap le below. record {
        falls = falls_set (Plain at) types.Int (Num (pos 0));
        sound = is.ints at le below heap (Num (pos 0));
        holds = holds_set w.Body (Plain at) types.Int (Num (pos 0)) tt;
      } in
      let chain : From w n (λ f. Unit {0}) [] [] (begin_scan strings q s a f (λ table procedure. scan_turns n.turns
      (record { line = line; strings = strings; refs = q; nums = s; table = table; call = call_meant (context_in w n.turns) line procedure }) None 0)) types.Int
      need p end
      = then_from w _ (λ v g. Unit {0}) na need p pa end le_a la (λ f t so. any_left (a f t)) (from_does w _ da)
      (λ h1 table g1 table_of. then_from w _ (λ u g. Tabled q table g) 0 need pa (pa + 5) end (omega arith)
      (record {
        falls = falls_set (Plain q) types.Pntr table;
        sound = is.pntrs q (omega arith) (omega arith) h1 table;
        holds = holds_set w.Body (Plain q) types.Pntr table (pointer_literal h1 table table_of);
      })
      (λ f t so. table_put q table f t) (from_does w _ (does_set_ref w (after_it n h1 n.known) pa q table pntr (omega arith) at_table))
      (λ h2 u2 g2 v2. let k2 = grows_then n.heap h1 h2 g1 g2 in
      then_from_held w _ (λ v g. Tabled q table g) nf need (pa + 5) pf end le_f (leads_more (omega arith) k2 lf)
      (λ g t so. table_stays q table g (f g t) so (keeps g t)) (from_does w _ (later w h2 k2 df))
      (λ h3 procedure g3 procedure_of literal. then_from w _ (λ u g. Prepared q table procedure g) 0 need pf (pf + 5) end (omega arith)
      (record {
        falls = falls_set (Plain (q + 1)) (caller (key_type strings)) procedure;
        sound = is.procedures (q + 1) (omega arith) (omega arith) h3 procedure;
        holds = holds_set w.Body (Plain (q + 1)) (caller (key_type strings)) procedure literal;
      })
      (λ f t so. procedure_put strings q table procedure f t so)
      (from_does w _ (does_set_ref w (after_it n h3 n.known) pf (q + 1) procedure proc (omega arith) at_procedure))
      (λ h4 u4 g4 v4. then_from w _ (λ u g. Counted q s table procedure g) 1 need (pf + 5) (pf + 5 + 5 + 5) end (omega arith) (sets s h4 (omega arith) (omega arith))
      (λ f t so. count_put q s table procedure f t so) (from_does w _ (does_zero (after_it n h4 n.known) (pf + 5) s (omega arith) at1 at2))
      (λ h5 u5 g5 v5. then_from w _ (λ u g. Counted q s table procedure g) 1 need (pf + 5 + 5 + 5) (pf + 5 + 5 + 5 + 5 + 5) end (omega arith)
      (sets (s + 1) h5 (omega arith) (omega arith)) (λ f t so. key_put q s table procedure f t so)
      (from_does w _ (does_zero (after_it n h5 n.known) (pf + 5 + 5 + 5) (s + 1) (omega arith) at3 at4))
      (λ h6 u6 g6 v6. then_from w _ (λ u g. IsScanning strings q s table procedure 0 None g) 1 need (pf + 5 + 5 + 5 + 5 + 5)
      (pf + 5 + 5 + 5 + 5 + 5 + 5 + 5) end (omega arith) (sets (s + 2) h6 (omega arith) (omega arith)) (λ f t so. begun strings q s table procedure f t so)
      (from_does w _ (does_zero (after_it n h6 n.known) (pf + 5 + 5 + 5 + 5 + 5) (s + 2) nums_fit at5 at6))
      (λ h7 u7 g7 v7.
      let k7 = grows_then h3 h4 h7 g4 (grows_then h4 h5 h7 g5 (grows_then h5 h6 h7 g6 g7)) in
      let t7 = grows_then h1 h2 h7 g2 (grows_then h2 h3 h7 g3 k7) in
      record {
        by = λ nums refs f t so room since reach.
            scan_does (after_it n h7 n.known) strings q s line (pf + 5 + 5 + 5 + 5 + 5 + 5 + 5) need (scans h7) table procedure
            (of_kept fits h1 h7 t7 types.Pntr table table_of) (of_kept fits h3 h7 k7 (caller (key_type strings)) procedure procedure_of) literal n.turns 0 None nums refs
            f t since.few (omega arith) so room since reach;
      }))))))) in
      record { by = λ nums refs f t room since reach. chain.by nums refs f t tt room since reach }
    where
      pointer_literal : (heap : Heap) (v : Value) → IsOf heap types.Pntr v → IsLiteral w.Body v
      pointer_literal heap Nil k = tt
      pointer_literal heap (Pointer id) k = tt
      pointer_literal heap v k = absurd k

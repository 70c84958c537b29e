-- Each instruction but calls of the library changes no more of what is held than objects, assigned places, what is touched and what is counted.
use Rattle.std.proofs.Common.{◌≡◌, ℕ, zero, suc, ◌+◌, ℤ, Bool, true, false, List, [], ◌∷◌, length, Option, Some, None}
use Rattle.std.specs.Prelude.{◌&&◌, ◌+ℤ◌, pos, nat_lt}
use Rattle.ps_code.specs.ps_base.CodeUnit.{ConstantView, text, literal}
use Rattle.ps_code.specs.ps_base.declared.line.Line.{Line}
use Rattle.ps_code.specs.ps_base.declared.trap.Trap.TheVariants.{TooLong, Bounds, Overflow}
use Rattle.ps_code.specs.ps_base.declared.instr.Instr.{Instr}
use Rattle.ps_code.specs.ps_base.declared.instr.Instr.TheVariants.{Int, True, False, Text, GetM, GetP, SetM, SetP, Jump, JumpFalse, Again, And, Or, Not, Neg, Add, Sub, Mul, Div, Rem, EqM, NeM, LtM, LeM, GtM, GeM, Return, WriteI, WriteB, WriteT, Abort, ForStart, ForNext, ScanT, ScanI, ScanMore, DupM, DupP, DropM, DropP, JumpTrue, Lib}
use Rattle.ps_meaning.specs.Loops.{goes_on}
use Rattle.ps_meaning.specs.Meaning.{Store, with_turns, spent, is_width, some_out, in_places}
use Rattle.ps_heap.specs.Ends.{Trapped}
use Rattle.ps_heap.specs.Events.{Event, Turn}
use Rattle.ps_heap.specs.Held.{Held, touching}
use Rattle.ps_heap.specs.Operators.{Answer, Gives, Traps, is_same}
use Rattle.ps_heap.specs.Scans.{Found, most_scan_calls, next_key, shown_key}
use Rattle.ps_heap.specs.Values.{Value, Pointer, is_one, word_of}
use Rattle.ps_heap.specs.Values as value
use Rattle.ps_stepping.specs.Config.{frame_words, Caller, Config, constants_in, frame_in, constant_at}
use Rattle.ps_stepping.specs.Jumps.{forward, turn_to, back}
use Rattle.ps_stepping.specs.Library.{library}
use Rattle.ps_stepping.specs.Machine.{Step, Goes, Stops, on, push_num, push_ref, pop_num, pop_text, is_num_slot, is_ref_slot, with_num, with_ref, answered, one_num, two_nums, test, written, pop_width, write_num, write_text, push_text, for_start, counted, for_next, resumed, come_back, returned, acts}
use Rattle.ps_stepping.specs.Objects.{having}
use Rattle.ps_stepping.specs.Procedures.{num_back, ref_back}
use Rattle.ps_stepping.specs.Scans.{touched_now, with_pushed, with_pushed_num, last_of, called_with, scan_found, scan_on, one_more, scan_more}
use Rattle.database_steps.specs.Quiet.{AreQuiet}
use Rattle.database_steps.proofs.Going.{Going, Quietly, either, tested, pushed_num, pushed_ref, popped_num, popped_ref, popped_text, of_object, of_attempt}
use Rattle.database_steps.proofs.ObjectSteps.{as_it_is}
use Rattle.database_steps.proofs.ProcedureSteps.{goes_on_procedures}

output_is_quiet : (bytes : List ℕ) (counted : ℕ) → AreQuiet (some_out bytes counted)
output_is_quiet [] counted = tt
output_is_quiet (byte ∷ bytes) counted = (tt, tt)

module _ (K : List Event → Held → Type 0) where
  -- Jumps.

  goes_forward : (own to : ℕ) (c : Config) → Quietly K c.store.held → Going K (forward own to c)
  goes_forward own to c q = tested K (nat_lt own to) (on (record c { at = to })) (as_it_is K c.store.held q)

  turns_to : (turns : ℕ) (store : Store) (to : ℕ) (c : Config) → Quietly K store.held → Going K (turn_to (with_turns store turns) to c)
  turns_to zero store to c q = tt
  turns_to (suc left) store to c q = q _ _ _ _ (Turn store.held.counted ∷ []) (tt, tt)

  goes_back : (own to : ℕ) (c : Config) → Quietly K c.store.held → Going K (back own to c)
  goes_back own to c q = tested K (nat_lt to own) (turn_to (spent c.store) to c) (turns_to c.store.turns c.store to c q)

  starts_for : (own s to : ℕ) (line : Line) (c : Config) → Quietly K c.store.held → Going K (for_start own s to line c)
  starts_for own s to line c q =
      tested K (is_num_slot c (s + 2)) _
      (either K (is_same (c.locals.nums (s + 2)) (pos 0)) (Stops (Trapped Bounds line) 0) _ tt
      (either K (goes_on (c.locals.nums (s + 1)) (c.locals.nums (s + 2)) (c.locals.nums s)) (turn_to (spent c.store) c.at c) (forward own to c)
      (turns_to c.store.turns c.store c.at c q) (goes_forward own to c q)))

  goes_on_for : (own s to : ℕ) (c : Config) → Quietly K c.store.held → Going K (for_next own s to c)
  goes_on_for own s to c q =
      let next : ℤ = c.locals.nums s +ℤ c.locals.nums (s + 2) in
      tested K (is_num_slot c (s + 2)) _
      (either K (goes_on (c.locals.nums (s + 1)) (c.locals.nums (s + 2)) next) (back own to (with_num c s next)) (on c)
      (goes_back own to (with_num c s next) q) (as_it_is K c.store.held q))

  -- Numbers and output.

  gives_answer : (line : Line) (a : Answer) (c : Config) → Quietly K c.store.held → Going K (answered line a c)
  gives_answer line (Gives z) c q = as_it_is K c.store.held q
  gives_answer line (Traps trap) c q = tt

  goes_one : (line : Line) (f : ℤ → Answer) (c : Config) → Quietly K c.store.held → Going K (one_num line f c)
  goes_one line f c q = popped_num K c _ (λ a rest. gives_answer line (f a) (record c { nums = rest }) q)

  goes_two : (line : Line) (f : ℤ → ℤ → Answer) (c : Config) → Quietly K c.store.held → Going K (two_nums line f c)
  goes_two line f c q =
      popped_num K c _ (λ b rest. popped_num K (record c { nums = rest }) _ (λ a below. gives_answer line (f a b) (record c { nums = below }) q))

  goes_tested : (f : ℤ → ℤ → Bool) (c : Config) → Quietly K c.store.held → Going K (test f c)
  goes_tested f c q = popped_num K c _ (λ b rest. popped_num K (record c { nums = rest }) _ (λ a below. as_it_is K c.store.held q))

  writes : (line : Line) (width : Option ℤ) (bytes : List ℕ) (c : Config) → Quietly K c.store.held → Going K (written line width bytes c)
  writes line width bytes c q =
      either K (is_width width) (Goes (some_out (in_places width bytes) c.store.held.counted) c) (Stops (Trapped TooLong line) 0)
      (q _ _ _ _ (some_out (in_places width bytes) c.store.held.counted) (output_is_quiet (in_places width bytes) c.store.held.counted)) tt

  popped_width : (w : ℕ) (c : Config) (next : Option ℤ → Config → Step) → ((width : Option ℤ) (rest : List ℤ) → Going K (next width (record c { nums = rest }))) →
      Going K (pop_width w c next)
  popped_width zero c next h = h None c.nums
  popped_width (suc zero) c next h = popped_num K c _ (λ z rest. h (Some z) rest)
  popped_width (suc (suc n)) c next h = tt

  writes_num : (w : ℕ) (line : Line) (show : ℤ → List ℕ) (c : Config) → Quietly K c.store.held → Going K (write_num w line show c)
  writes_num w line show c q =
      popped_width w c (λ width d. pop_num d (λ z e. written line width (show z) e))
      (λ width rest. popped_num K (record c { nums = rest }) _ (λ z below. writes line width (show z) (record c { nums = below }) q))

  writes_text : (w : ℕ) (line : Line) (c : Config) → Quietly K c.store.held → Going K (write_text w line c)
  writes_text w line c q =
      popped_width w c (λ width d. pop_text d (λ bytes e. written line width bytes e))
      (λ width rest. popped_text K (record c { nums = rest }) _ (λ bytes below. writes line width bytes (record c { nums = rest; refs = below }) q))

  pushes_text : (constant : Option ConstantView) (c : Config) → Quietly K c.store.held → Going K (push_text constant c)
  pushes_text (Some (text bytes)) c q = pushed_ref K (value.Text bytes) c (as_it_is K c.store.held q)
  pushes_text (Some (literal code)) c q = tt
  pushes_text None c q = tt

  -- Coming back.

  comes_back : (callers : List Caller) (room : Caller → Step → Step) (ns : Caller → List ℤ) (vs : Caller → List Value) (c : Config) →
      ((caller : Caller) (s : Step) → Going K s → Going K (room caller s)) → Quietly K c.store.held → Going K (come_back callers room ns vs c)
  comes_back [] room ns vs c h q = tt
  comes_back (caller ∷ callers) room ns vs c h q =
      h caller (on (resumed caller (ns caller) (vs caller) callers c.store)) (as_it_is K c.store.held q)

  returns : (k : ℕ) (c : Config) → Quietly K c.store.held → Going K (returned k c)
  returns zero c q = comes_back c.callers (λ caller next. next) (λ caller. caller.nums) (λ caller. caller.refs) c (λ caller s h. h) q
  returns (suc zero) c q =
      popped_num K c _ (λ z rest. comes_back c.callers num_back (λ caller. z ∷ caller.nums) (λ caller. caller.refs) (record c { nums = rest })
      (λ caller s h. tested K (nat_lt ((frame_in caller.unit).nums + length caller.nums) frame_words) s h) q)
  returns (suc (suc zero)) c q =
      popped_ref K c _ (λ v rest. comes_back c.callers ref_back (λ caller. caller.nums) (λ caller. v ∷ caller.refs) (record c { refs = rest })
      (λ caller s h. tested K (nat_lt ((frame_in caller.unit).refs + length caller.refs) frame_words) s h) q)
  returns (suc (suc (suc k))) c q = tt

  -- Scans.

  pushes : (v : Value) (c : Config) (next : Config → Step) → Going K (next (record c { refs = v ∷ c.refs })) → Going K (with_pushed v c next)
  pushes v c next h = tested K (nat_lt ((frame_in c.unit).refs + length c.refs) frame_words) (next (record c { refs = v ∷ c.refs })) h

  pushes_num : (z : ℤ) (c : Config) (next : Config → Step) → Going K (next (record c { nums = z ∷ c.nums })) → Going K (with_pushed_num z c next)
  pushes_num z c next h = tested K (nat_lt ((frame_in c.unit).nums + length c.nums) frame_words) (next (record c { nums = z ∷ c.nums })) h

  calls_with : (strings : Bool) (q s : ℕ) (key : Value) (object : ℕ) (c : Config) → K [] c.store.held → Going K (called_with strings q s key object c)
  calls_with true q s key object c h =
      let first : Config = with_num (with_ref c (q + 2) key) (s + 2) (pos 1) in
      let second : Config = record first { refs = c.locals.refs (q + 1) ∷ c.refs } in
      let third : Config = record second { refs = key ∷ second.refs } in
      pushes (c.locals.refs (q + 1)) first (λ d. with_pushed key d (λ e. with_pushed (Pointer object) e on))
      (pushes key second (λ e. with_pushed (Pointer object) e on) (pushes (Pointer object) third on h))
  calls_with false q s key object c h =
      let first : Config = with_num (with_num c (s + 1) (word_of key)) (s + 2) (pos 1) in
      let second : Config = record first { refs = c.locals.refs (q + 1) ∷ c.refs } in
      let third : Config = record second { nums = word_of key ∷ c.nums } in
      pushes (c.locals.refs (q + 1)) first (λ d. with_pushed_num (word_of key) d (λ e. with_pushed (Pointer object) e on))
      (pushes_num (word_of key) second (λ e. with_pushed (Pointer object) e on) (pushes (Pointer object) third on h))

  goes_found : (strings : Bool) (own r s to : ℕ) (line : Line) (found : Option Found) (c : Config) → Quietly K c.store.held →
      Going K (scan_found strings own r s to line found c)
  goes_found strings own r s to line None c q = goes_forward own to c q
  goes_found strings own r s to line (Some found) c q =
      either K (is_same (c.locals.nums s) (pos most_scan_calls)) (Stops (Trapped Overflow line) (touched_now (found.object ∷ []) c.store.held)) _ tt
      (calls_with strings r s (shown_key found.key) found.object (having (touching (found.object ∷ [])) c) (q _ _ _ _ [] tt))

  scans : (strings : Bool) (own r s to : ℕ) (line : Line) (c : Config) → Quietly K c.store.held → Going K (scan_on strings own r s to line c)
  scans strings own r s to line c q =
      tested K (is_ref_slot c (r + 2) && is_num_slot c (s + 2)) _ (of_object K (c.locals.refs r) c _
      (λ table. of_attempt K line (next_key strings c.store.held.objects table (last_of strings r s c)) _
      (λ found. goes_found strings own r s to line found c q)))

  scans_more : (own s to : ℕ) (c : Config) → Quietly K c.store.held → Going K (scan_more own s to c)
  scans_more own s to c q =
      popped_num K c _ (λ more rest. let d : Config = with_num (record c { nums = rest }) s (one_more (c.locals.nums s)) in
      tested K (is_num_slot c (s + 2)) _ (either K (is_one more) (back own to d) (on d) (goes_back own to d q) (as_it_is K c.store.held q)))

  pub goes : (i : Instr) (own : ℕ) (c : Config) → Quietly K c.store.held → ((k : ℕ) (line : Line) → i ≡ Lib k line → Going K (library k line c)) →
      Going K (acts i own c)
  goes (Int v) own c q in_library = pushed_num K v c (as_it_is K c.store.held q)
  goes True own c q in_library = pushed_num K (pos 1) c (as_it_is K c.store.held q)
  goes False own c q in_library = pushed_num K (pos 0) c (as_it_is K c.store.held q)
  goes (Text k) own c q in_library = pushes_text (constant_at (constants_in c.unit) k) c q
  goes (GetM s) own c q in_library =
      tested K (is_num_slot c s) (push_num (c.locals.nums s) c) (pushed_num K (c.locals.nums s) c (as_it_is K c.store.held q))
  goes (GetP s) own c q in_library =
      tested K (is_ref_slot c s) (push_ref (c.locals.refs s) c) (pushed_ref K (c.locals.refs s) c (as_it_is K c.store.held q))
  goes (SetM s) own c q in_library = popped_num K c _ (λ z rest. tested K (is_num_slot c s) _ (as_it_is K c.store.held q))
  goes (SetP s) own c q in_library = popped_ref K c _ (λ v rest. tested K (is_ref_slot c s) _ (as_it_is K c.store.held q))
  goes (Jump t) own c q in_library = goes_forward own t c q
  goes (JumpFalse t) own c q in_library =
      popped_num K c _ (λ z rest. either K (is_one z) _ _ (as_it_is K c.store.held q) (goes_forward own t (record c { nums = rest }) q))
  goes (JumpTrue t) own c q in_library =
      popped_num K c _ (λ z rest. either K (is_one z) _ _ (goes_forward own t (record c { nums = rest }) q) (as_it_is K c.store.held q))
  goes (Again t) own c q in_library =
      popped_num K c _ (λ z rest. either K (is_one z) _ _ (goes_back own t (record c { nums = rest }) q) (as_it_is K c.store.held q))
  goes (And t) own c q in_library = popped_num K c _ (λ z rest. either K (is_one z) _ _ (as_it_is K c.store.held q) (goes_forward own t c q))
  goes (Or t) own c q in_library = popped_num K c _ (λ z rest. either K (is_one z) _ _ (goes_forward own t c q) (as_it_is K c.store.held q))
  goes Not own c q in_library = popped_num K c _ (λ z rest. as_it_is K c.store.held q)
  goes (Neg line) own c q in_library = goes_one line _ c q
  goes (Add line) own c q in_library = goes_two line _ c q
  goes (Sub line) own c q in_library = goes_two line _ c q
  goes (Mul line) own c q in_library = goes_two line _ c q
  goes (Div line) own c q in_library = goes_two line _ c q
  goes (Rem line) own c q in_library = goes_two line _ c q
  goes EqM own c q in_library = goes_tested _ c q
  goes NeM own c q in_library = goes_tested _ c q
  goes LtM own c q in_library = goes_tested _ c q
  goes LeM own c q in_library = goes_tested _ c q
  goes GtM own c q in_library = goes_tested _ c q
  goes GeM own c q in_library = goes_tested _ c q
  goes (Return k) own c q in_library = returns k c q
  goes (WriteI w line) own c q in_library = writes_num w line _ c q
  goes (WriteB w line) own c q in_library = writes_num w line _ c q
  goes (WriteT w line) own c q in_library = writes_text w line c q
  goes (Abort line) own c q in_library = tt
  goes (ForStart s t line) own c q in_library = starts_for own s t line c q
  goes (ForNext s t) own c q in_library = goes_on_for own s t c q
  goes (ScanT r s t line) own c q in_library = scans true own r s t line c q
  goes (ScanI r s t line) own c q in_library = scans false own r s t line c q
  goes (ScanMore s t) own c q in_library = scans_more own s t c q
  goes DupM own c q in_library = popped_num K c _ (λ z rest. pushed_num K z c (as_it_is K c.store.held q))
  goes DupP own c q in_library = popped_ref K c _ (λ v rest. pushed_ref K v c (as_it_is K c.store.held q))
  goes DropM own c q in_library = popped_num K c _ (λ z rest. as_it_is K c.store.held q)
  goes DropP own c q in_library = popped_ref K c _ (λ v rest. as_it_is K c.store.held q)
  goes i own c q in_library = goes_on_procedures K i c q in_library

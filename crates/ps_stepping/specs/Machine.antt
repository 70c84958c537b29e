-- What the machine does with each instruction. It never leaves the code, a stack or the frame: where it would, it is stuck, and so it
-- is where what it finds isn't what the instruction wants.
use Rattle.std.specs.Prelude.{◌≡◌, Bool, ℕ, zero, suc, ◌+◌, ℤ, pos, ◌+ℤ◌, true, false, not, List, [], ◌∷◌, ◌++◌, nat_lt, Option, Some, None, if◌then◌else◌}
use Rattle.std.specs.Fmt.{signed_decimal}
use Rattle.ps_code.specs.ps_base.CodeUnit.{ConstantView, text, literal}
use Rattle.ps_code.specs.ps_base.Instr.{width_of}
use Rattle.ps_code.specs.ps_base.declared.line.Line.{Line}
use Rattle.ps_code.specs.ps_base.declared.trap.Trap.TheVariants.{Bounds, Abort as Aborted, TooLong}
use Rattle.ps_code.specs.ps_base.declared.operator.Operator.TheVariants as operator
use Rattle.ps_code.specs.ps_base.declared.operator.Relation.TheVariants as relation
use Rattle.ps_code.specs.ps_base.declared.instr.Instr.{Instr}
use Rattle.ps_code.specs.ps_base.declared.instr.Instr.TheVariants.{Int, True, False, Text, GetM, GetP, SetM, SetP, Jump, JumpFalse, Again, And, Or, Not, Neg, Add, Sub, Mul, Div, Rem, EqM, NeM, LtM, LeM, GtM, GeM, Return, WriteI, WriteB, WriteT, Abort, ForStart, ForNext, ScanT, ScanI, ScanMore, DupM, DupP, DropM, DropP, JumpTrue}
use Rattle.ps_heap.specs.Operators.{is_same, neg_of, arith_of, relation_of}
use Rattle.ps_heap.specs.Ends.{End, Done, Trapped}
use Rattle.ps_heap.specs.Events.{Event, Finish}
use Rattle.ps_heap.specs.Values.{Value, number_of, is_one, flag_text, bytes_of}
use Rattle.ps_heap.specs.Values as value
use Rattle.ps_meaning.specs.Meaning.{Store, some_out, in_places, is_width, spent}
use Rattle.ps_meaning.specs.Loops.{goes_on}
pub use Rattle.ps_stepping.specs.Steps.{Step, Goes, Stops, Stuck, and_touched, on, put_num, push_num, push_ref, pop_num_of, pop_num, pop_ref_of, pop_ref, pop_two, is_num_slot, is_ref_slot, with_num, with_ref, answered, one_num, two_nums, test, text_of, pop_text, with_text, attempted}
pub use Rattle.ps_stepping.specs.Jumps.{forward, turn_to, back}
use Rattle.ps_stepping.specs.Scans.{scan_on, scan_more}
use Rattle.ps_stepping.specs.Procedures.{num_back, ref_back, acts_on_procedures}
use Rattle.ps_stepping.specs.Config.{Caller, Config, code_in, constants_in, constant_at, IsAt}

-- Writing.
abbrev pub written : Line → Option ℤ → List ℕ → Config → Step
written line width bytes c = if is_width width then Goes (some_out (in_places width bytes) c.store.held.counted) c else Stops (Trapped TooLong line) 0

-- a width was pushed above the item, or none
abbrev pub pop_width : ℕ → Config → (Option ℤ → Config → Step) → Step
pop_width zero c next = next None c
pop_width (suc zero) c next = pop_num c (λ z d. next (Some z) d)
pop_width (suc (suc n)) c next = Stuck

abbrev pub write_num : ℕ → Line → (ℤ → List ℕ) → Config → Step
write_num w line show c = pop_width w c (λ width d. pop_num d (λ z e. written line width (show z) e))

abbrev pub write_text : ℕ → Line → Config → Step
write_text w line c = pop_width w c (λ width d. pop_text d (λ bytes e. written line width bytes e))

-- a text constant is pushed
abbrev pub push_text : Option ConstantView → Config → Step
push_text (Some (text bytes)) c = push_ref (value.Text bytes) c
push_text (Some (literal code)) c = Stuck
push_text None c = Stuck

-- Loops by `for`: the control, the limit and the step stand in three locals from this one on.
abbrev pub started : ℕ → ℕ → Line → ℤ → ℤ → ℤ → Config → Step
started own to line control limit step c =
    if is_same step (pos 0) then Stops (Trapped Bounds line) 0
    else (if goes_on limit step control then turn_to (spent c.store) c.at c else forward own to c)

abbrev pub for_start : ℕ → ℕ → ℕ → Line → Config → Step
for_start own s to line c =
    if is_num_slot c (s + 2) then started own to line (c.locals.nums s) (c.locals.nums (s + 1)) (c.locals.nums (s + 2)) c else Stuck

abbrev pub counted : ℕ → ℕ → ℕ → ℤ → ℤ → ℤ → Config → Step
counted own s to limit step next c = if goes_on limit step next then back own to (with_num c s next) else on c

abbrev pub for_next : ℕ → ℕ → ℕ → Config → Step
for_next own s to c =
    if is_num_slot c (s + 2) then counted own s to (c.locals.nums (s + 1)) (c.locals.nums (s + 2)) (c.locals.nums s +ℤ c.locals.nums (s + 2)) c else Stuck

-- Coming back to a body that waits, with nothing, a number or a reference.
abbrev pub resumed : Caller → List ℤ → List Value → List Caller → Store → Config
resumed caller nums refs callers store = record {
  unit = caller.unit;
  at = caller.at;
  nums = nums;
  refs = refs;
  locals = caller.locals;
  scope = caller.scope;
  callers = callers;
  store = store;
}

abbrev pub come_back : List Caller → (Caller → Step → Step) → (Caller → List ℤ) → (Caller → List Value) → Config → Step
come_back [] room nums refs c = Stops Done 0
come_back (caller ∷ callers) room nums refs c = room caller (on (resumed caller (nums caller) (refs caller) callers c.store))

abbrev pub returned : ℕ → Config → Step
returned zero c = come_back c.callers (λ caller next. next) (λ caller. caller.nums) (λ caller. caller.refs) c
returned (suc zero) c = pop_num c (λ z d. come_back d.callers num_back (λ caller. z ∷ caller.nums) (λ caller. caller.refs) d)
returned (suc (suc zero)) c = pop_ref c (λ v d. come_back d.callers ref_back (λ caller. caller.nums) (λ caller. v ∷ caller.refs) d)
returned (suc (suc (suc n))) c = Stuck

-- What an instruction does whose own offset this is; the configuration stands after it already. What instructions over
-- procedures and scopes do, and those over structures, vectors and texts, is stated by themselves.
abbrev pub acts : Instr → ℕ → Config → Step
acts (Int v) own c = push_num v c
acts True own c = push_num (pos 1) c
acts False own c = push_num (pos 0) c
acts (Text k) own c = push_text (constant_at (constants_in c.unit) k) c
acts (GetM s) own c = if is_num_slot c s then push_num (c.locals.nums s) c else Stuck
acts (GetP s) own c = if is_ref_slot c s then push_ref (c.locals.refs s) c else Stuck
acts (SetM s) own c = pop_num c (λ z d. if is_num_slot d s then on (with_num d s z) else Stuck)
acts (SetP s) own c = pop_ref c (λ v d. if is_ref_slot d s then on (with_ref d s v) else Stuck)
acts (Jump t) own c = forward own t c
acts (JumpFalse t) own c = pop_num c (λ z d. if is_one z then on d else forward own t d)
acts (JumpTrue t) own c = pop_num c (λ z d. if is_one z then forward own t d else on d)
acts (Again t) own c = pop_num c (λ z d. if is_one z then back own t d else on d)
acts (And t) own c = pop_num c (λ z d. if is_one z then on d else forward own t c)
acts (Or t) own c = pop_num c (λ z d. if is_one z then forward own t c else on d)
acts Not own c = pop_num c (λ z d. put_num (number_of (not (is_one z))) d)
acts (Neg line) own c = one_num line neg_of c
acts (Add line) own c = two_nums line (arith_of operator.Add) c
acts (Sub line) own c = two_nums line (arith_of operator.Sub) c
acts (Mul line) own c = two_nums line (arith_of operator.Mul) c
acts (Div line) own c = two_nums line (arith_of operator.Div) c
acts (Rem line) own c = two_nums line (arith_of operator.Rem) c
acts EqM own c = test (relation_of relation.Equal) c
acts NeM own c = test (relation_of relation.NotEqual) c
acts LtM own c = test (relation_of relation.Less) c
acts LeM own c = test (relation_of relation.LessEqual) c
acts GtM own c = test (relation_of relation.Greater) c
acts GeM own c = test (relation_of relation.GreaterEqual) c
acts (Return k) own c = returned k c
acts (WriteI w line) own c = write_num w line signed_decimal c
acts (WriteB w line) own c = write_num w line (λ z. flag_text (is_one z)) c
acts (WriteT w line) own c = write_text w line c
acts (Abort line) own c = Stops (Trapped Aborted line) 0
acts (ForStart s t line) own c = for_start own s t line c
acts (ForNext s t) own c = for_next own s t c
acts (ScanT q s t line) own c = scan_on true own q s t line c
acts (ScanI q s t line) own c = scan_on false own q s t line c
acts (ScanMore s t) own c = scan_more own s t c
acts DupM own c = pop_num c (λ z d. push_num z c)
acts DupP own c = pop_ref c (λ v d. push_ref v c)
acts DropM own c = pop_num c (λ z d. on d)
acts DropP own c = pop_ref c (λ v d. on d)
acts i own c = acts_on_procedures i c

-- after an instruction
abbrev pub behind : Instr → Config → Config
behind i c = record c { at = c.at + width_of i }

abbrev pub act : Instr → Config → Step
act i c = acts i c.at (behind i c)

-- The step of a configuration: that of the instruction that is spelled at its offset; where none is, it is stuck.
pub data Steps (c : Config) : Step → Type 0 where
  at_instruction : {i : Instr} → IsAt (code_in c.unit) c.at i → Steps c (act i c)
  at_nothing : ((i : Instr) → IsAt (code_in c.unit) c.at i → ⊥) → Steps c Stuck

-- A run whose instructions are all such as may run, and that has had these events so far, has all of these in the end.
pub data RunsBy (may : Instr → Bool) (total : List Event) : Config → List Event → Type 0 where
  goes_by : {c next : Config} {so_far events : List Event} {i : Instr} → IsAt (code_in c.unit) c.at i → may i ≡ true → act i c ≡ Goes events next →
      RunsBy may total next (so_far ++ events) → RunsBy may total c so_far
  stops_by : {c : Config} {so_far : List Event} {e : End} {touched : ℕ} {i : Instr} → IsAt (code_in c.unit) c.at i → may i ≡ true →
      act i c ≡ Stops e touched → total ≡ so_far ++ Finish e (and_touched touched c.store.held.counted) ∷ [] → RunsBy may total c so_far

-- A run that has had these events so far has all of these in the end.
pub data Runs (total : List Event) : Config → List Event → Type 0 where
  goes : {c next : Config} {so_far events : List Event} → Steps c (Goes events next) → Runs total next (so_far ++ events) → Runs total c so_far
  stops : {c : Config} {so_far : List Event} {e : End} {touched : ℕ} → Steps c (Stops e touched) →
      total ≡ so_far ++ Finish e (and_touched touched c.store.held.counted) ∷ [] → Runs total c so_far

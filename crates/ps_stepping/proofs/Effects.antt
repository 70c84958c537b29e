-- Each instruction that has a step takes from the stacks and leaves on them what the table says.
use Rattle.std.proofs.Common.{◌≡◌, ℕ, zero, suc, ◌+◌, ◌≤◌, ℤ, Bool, true, false, List, [], ◌∷◌, length, Option, Some, None, refl, ap, arith}
use Rattle.std.specs.Prelude.{◌⊎◌, ◌+ℤ◌, pos, not, nat_lt, if◌then◌else◌}
use Rattle.ps_code.specs.ps_base.CodeUnit.{ConstantView, text, literal}
use Rattle.ps_code.specs.ps_base.declared.line.Line.{Line}
use Rattle.ps_code.specs.ps_base.declared.instr.Instr.{Instr}
use Rattle.ps_code.specs.ps_base.declared.instr.Instr.TheVariants.{Int, True, False, Text, GetM, GetP, SetM, SetP, Jump, JumpFalse, Again, And, Or, Not, Neg, Add, Sub, Mul, Div, Rem, EqM, NeM, LtM, LeM, GtM, GeM, Return, WriteI, WriteB, WriteT, ForStart, ForNext, ScanT, ScanI, ScanMore, DupM, DupP, DropM, DropP, JumpTrue}
use Rattle.ps_code.specs.ps_base.declared.trap.Trap.TheVariants.{TooLong, Bounds}
use Rattle.ps_meaning.specs.Loops.{goes_on}
use Rattle.ps_heap.specs.Operators.{Answer, Gives, Traps, is_same}
use Rattle.ps_heap.specs.Ends.{Trapped}
use Rattle.ps_heap.specs.Events.{Event}
use Rattle.ps_heap.specs.Values.{Value, number_of, is_one}
use Rattle.ps_meaning.specs.Meaning.{Store, spent, is_width, some_out, in_places}
use Rattle.ps_stepping.specs.Config.{frame_words, Caller, Config, frame_in, constant_at, constants_in}
use Rattle.ps_stepping.specs.Machine.{Step, Goes, Stops, Stuck, on, is_num_slot, is_ref_slot, with_num, with_ref, put_num, push_num, push_ref, pop_num, pop_text, forward, turn_to, back, answered, one_num, two_nums, test, written, write_num, write_text, push_text, started, for_start, counted, for_next, resumed, come_back, returned, acts, behind, act}
use Rattle.ps_stepping.specs.Procedures.{num_back, ref_back}
use Rattle.ps_stepping.specs.Effects.{Moves, Effect, moves, either, makes, enters, leaves, given_by, nums, refs, both, nothing, taken_or_left, width_and, effect_of, Moved, HasEffect}
use Rattle.ps_stepping.proofs.Popping.{Does, does_if, popped_num, popped_ref, popped_text, does_push_ref, moved_on}
use Rattle.ps_stepping.proofs.ProcedureEffects.{does_on_procedures}
use Rattle.ps_stepping.proofs.ScanEffects.{does_turn, does_forward, does_back, does_scan_on, does_scan_more}

-- nothing is taken, and nothing left
does_nothing : (c : Config) → Moved (record { nums_taken = 0; nums_left = 0; refs_taken = 0; refs_left = 0 }) c c
does_nothing c = record { nums = refl; refs = refl }

does_push_num : (c : Config) (z : ℤ) → Does (nums 0 1) c (push_num z c)
does_push_num c z =
    does_if (nums 0 1) c (nat_lt ((frame_in c.unit).nums + length c.nums) frame_words) (put_num z c) Stuck
    (record { nums = omega arith; refs = refl }) tt

-- a number is taken, and then a jump is made or not
taken : (c d : Config) (z : ℤ) (rest : List ℤ) → c.nums ≡ z ∷ rest → d.nums ≡ rest → d.refs ≡ c.refs →
    Moved (record { nums_taken = 1; nums_left = 0; refs_taken = 0; refs_left = 0 }) c d
taken c d z rest is on_nums on_refs = record { nums = omega (arith, ap length is, ap length on_nums); refs = omega (arith, ap length on_refs) }

does_answer : (c d : Config) (line : Line) (a : Answer) (m n : ℕ) → length d.nums + 1 + m ≡ length c.nums + n → d.refs ≡ c.refs →
    Does (nums m n) c (answered line a d)
does_answer c d line (Gives z) m n on_nums on_refs = record { nums = omega (arith, on_nums); refs = omega (arith, ap length on_refs) }
does_answer c d line (Traps trap) m n on_nums on_refs = tt

does_one : (c : Config) (line : Line) (f : ℤ → Answer) → Does (nums 1 1) c (one_num line f c)
does_one c line f =
    popped_num (nums 1 1) c c (λ z d. answered line (f z) d) (λ z rest is. does_answer c (record c { nums = rest }) line (f z) 1 1
    (omega (arith, ap length is)) refl)

does_two : (c : Config) (line : Line) (f : ℤ → ℤ → Answer) → Does (nums 2 1) c (two_nums line f c)
does_two c line f = popped_num (nums 2 1) c c (λ b d. pop_num d (λ a e. answered line (f a b) e))
    (λ b rest is. popped_num (nums 2 1) c (record c { nums = rest }) (λ a e. answered line (f a b) e)
    (λ a below is'. does_answer c (record c { nums = below }) line (f a b) 2 1 (omega (arith, ap length is, ap length is')) refl))

does_test : (c : Config) (f : ℤ → ℤ → Bool) → Does (nums 2 1) c (test f c)
does_test c f = popped_num (nums 2 1) c c (λ b d. pop_num d (λ a e. put_num (number_of (f a b)) e))
    (λ b rest is. popped_num (nums 2 1) c (record c { nums = rest }) (λ a e. put_num (number_of (f a b)) e)
    (λ a below is'. record { nums = omega (arith, ap length is, ap length is'); refs = refl }))

does_written : (e : Effect) (c d : Config) (line : Line) (width : Option ℤ) (bytes : List ℕ) → HasEffect e c d → Does e c (written line width bytes d)
does_written e c d line width bytes h =
    does_if e c (is_width width) (Goes (some_out (in_places width bytes) d.store.held.counted) d) (Stops (Trapped TooLong line) 0) h tt

does_write_num : (w : ℕ) (c : Config) (line : Line) (show : ℤ → List ℕ) → Does (nums (1 + width_and w) 0) c (write_num w line show c)
does_write_num zero c line show =
    popped_num (nums 1 0) c c (λ z e. written line None (show z) e)
    (λ z rest is. does_written (nums 1 0) c (record c { nums = rest }) line None (show z)
    (record { nums = omega (arith, ap length is); refs = refl }))
does_write_num (suc zero) c line show =
    popped_num (nums 2 0) c c (λ width d. pop_num d (λ z e. written line (Some width) (show z) e))
    (λ width rest is. popped_num (nums 2 0) c (record c { nums = rest }) (λ z e. written line (Some width) (show z) e)
    (λ z below is'. does_written (nums 2 0) c (record c { nums = below }) line (Some width) (show z)
    (record { nums = omega (arith, ap length is, ap length is'); refs = refl })))
does_write_num (suc (suc n)) c line show = tt

does_write_text : (w : ℕ) (c : Config) (line : Line) → Does (both (width_and w) 0 1 0) c (write_text w line c)
does_write_text zero c line =
    popped_text (both 0 0 1 0) c c (λ bytes e. written line None bytes e)
    (λ bytes rest is. does_written (both 0 0 1 0) c (record c { refs = rest }) line None bytes (record { nums = refl; refs = omega (arith, is) }))
does_write_text (suc zero) c line =
    popped_num (both 1 0 1 0) c c (λ width d. pop_text d (λ bytes e. written line (Some width) bytes e))
    (λ width rest is. popped_text (both 1 0 1 0) c (record c { nums = rest }) (λ bytes e. written line (Some width) bytes e)
    (λ bytes below is'. does_written (both 1 0 1 0) c (record c { nums = rest; refs = below }) line (Some width) bytes
    (record { nums = omega (arith, ap length is); refs = omega (arith, is') })))
does_write_text (suc (suc n)) c line = tt

does_text : (c : Config) (constant : Option ConstantView) → Does (refs 0 1) c (push_text constant c)
does_text c (Some (text bytes)) = does_push_ref c _
does_text c (Some (literal code)) = tt
does_text c None = tt

-- a number is taken, and what follows keeps the stacks
does_taken : (c : Config) (next : ℤ → Config → Step) → ((z : ℤ) (d : Config) → Does nothing d (next z d)) → Does (nums 1 0) c (pop_num c next)
does_taken c next h = popped_num (nums 1 0) c c next (λ z rest is. behind_one z rest is (next z (record c { nums = rest }))
    (h z (record c { nums = rest })))
  where
    behind_one : (z : ℤ) (rest : List ℤ) → c.nums ≡ z ∷ rest → (s : Step) → Does nothing (record c { nums = rest }) s → Does (nums 1 0) c s
    behind_one z rest is (Goes events next) m = record { nums = omega (arith, ap length is, m.nums); refs = m.refs }
    behind_one z rest is (Stops e touched) m = tt
    behind_one z rest is Stuck m = tt

does_for_start : (own s to : ℕ) (line : Line) (c : Config) → Does nothing c (for_start own s to line c)
does_for_start own s to line c =
    let turn = turn_to (spent c.store) c.at c in
    let goes = goes_on (c.locals.nums (s + 1)) (c.locals.nums (s + 2)) (c.locals.nums s) in
    does_if nothing c (is_num_slot c (s + 2)) (started own to line (c.locals.nums s) (c.locals.nums (s + 1)) (c.locals.nums (s + 2)) c) Stuck
    (does_if nothing c (is_same (c.locals.nums (s + 2)) (pos 0)) (Stops (Trapped Bounds line) 0) (if goes then turn else forward own to c) tt
    (does_if nothing c goes turn (forward own to c) (does_turn nothing c c c.at (spent c.store)
    (λ next n r. record { nums = omega (arith, ap length n); refs = omega (arith, ap length r) })) (does_forward own to c))) tt

does_for_next : (own s to : ℕ) (c : Config) → Does nothing c (for_next own s to c)
does_for_next own s to c =
    let next = c.locals.nums s +ℤ c.locals.nums (s + 2) in
    let d = with_num c s next in
    does_if nothing c (is_num_slot c (s + 2)) (counted own s to (c.locals.nums (s + 1)) (c.locals.nums (s + 2)) next c) Stuck
    (does_if nothing c (goes_on (c.locals.nums (s + 1)) (c.locals.nums (s + 2)) next) (back own to d) (on c)
    (does_if nothing c (nat_lt to own) (turn_to (spent c.store) to d) Stuck
    (does_turn nothing c d to (spent c.store) (λ next n r. record { nums = omega (arith, ap length n); refs = omega (arith, ap length r) })) tt)
    (does_nothing c)) tt

-- `and` and `or`: where the instruction goes on the top is taken, and where it jumps it is left
does_and : (own t : ℕ) (c : Config) → Does taken_or_left c (acts (And t) own c)
does_and own t c = popped_num taken_or_left c c (λ z d. if is_one z then on d else forward own t c)
    (λ z rest is. does_if taken_or_left c (is_one z) (on (record c { nums = rest })) (forward own t c)
    (◌⊎◌.inl (record { nums = omega (arith, ap length is); refs = refl }))
    (does_if taken_or_left c (nat_lt own t) (on (record c { at = t })) Stuck (◌⊎◌.inr (record { nums = refl; refs = refl })) tt))

does_or : (own t : ℕ) (c : Config) → Does taken_or_left c (acts (Or t) own c)
does_or own t c = popped_num taken_or_left c c (λ z d. if is_one z then forward own t c else on d)
    (λ z rest is. does_if taken_or_left c (is_one z) (forward own t c) (on (record c { nums = rest }))
    (does_if taken_or_left c (nat_lt own t) (on (record c { at = t })) Stuck (◌⊎◌.inr (record { nums = refl; refs = refl })) tt)
    (◌⊎◌.inl (record { nums = omega (arith, ap length is); refs = refl })))

-- Coming back: what is given is taken from the body's own stacks, and pushed on those of the one that waits.

does_come_back : (given : Moves) (c d : Config) (callers : List Caller) → c.callers ≡ callers → (room : Caller → Step → Step) →
    (ns : Caller → List ℤ) (vs : Caller → List Value) →
    ((caller : Caller) (s : Step) → Does (leaves given) c s → Does (leaves given) c (room caller s)) →
    given.nums_taken ≤ length c.nums → given.refs_taken ≤ length c.refs →
    ((caller : Caller) → length (ns caller) ≡ length caller.nums + given.nums_left) →
    ((caller : Caller) → length (vs caller) ≡ length caller.refs + given.refs_left) → Does (leaves given) c (come_back callers room ns vs d)
does_come_back given c d [] is room ns vs goes own_nums own_refs on_nums on_refs = tt
does_come_back given c d (caller ∷ callers) is room ns vs goes own_nums own_refs on_nums on_refs =
    goes caller (on (resumed caller (ns caller) (vs caller) callers d.store))
    (record { caller = caller; waited = is; own_nums = own_nums; own_refs = own_refs; nums = on_nums caller; refs = on_refs caller })

does_returned : (k : ℕ) (c : Config) → Does (leaves (given_by k)) c (returned k c)
does_returned zero c =
    does_come_back (given_by 0) c c c.callers refl (λ caller next. next) (λ caller. caller.nums) (λ caller. caller.refs) (λ caller s h. h)
    (omega arith) (omega arith) (λ caller. omega arith) (λ caller. omega arith)
does_returned (suc zero) c =
    let e = leaves (given_by 1) in
    popped_num e c c (λ z d. come_back d.callers num_back (λ caller. z ∷ caller.nums) (λ caller. caller.refs) d)
    (λ z rest is. does_come_back (given_by 1) c (record c { nums = rest }) c.callers refl num_back (λ caller. z ∷ caller.nums) (λ caller. caller.refs)
    (λ caller s h. does_if e c (nat_lt ((frame_in caller.unit).nums + length caller.nums) frame_words) s Stuck h tt)
    (omega (arith, ap length is)) (omega arith) (λ caller. omega arith) (λ caller. omega arith))
does_returned (suc (suc zero)) c =
    let e = leaves (given_by 2) in
    popped_ref e c c (λ v d. come_back d.callers ref_back (λ caller. caller.nums) (λ caller. v ∷ caller.refs) d)
    (λ v rest is. does_come_back (given_by 2) c (record c { refs = rest }) c.callers refl ref_back (λ caller. caller.nums) (λ caller. v ∷ caller.refs)
    (λ caller s h. does_if e c (nat_lt ((frame_in caller.unit).refs + length caller.refs) frame_words) s Stuck h tt)
    (omega arith) (omega (arith, ap length is)) (λ caller. omega arith) (λ caller. omega arith))
does_returned (suc (suc (suc n))) c = tt

does : (i : Instr) (own : ℕ) (c : Config) → Does (effect_of i) c (acts i own c)
does (Int v) own c = does_push_num c v
does True own c = does_push_num c (pos 1)
does False own c = does_push_num c (pos 0)
does (Text k) own c = does_text c (constant_at (constants_in c.unit) k)
does (GetM s) own c = does_if (nums 0 1) c (is_num_slot c s) (push_num (c.locals.nums s) c) Stuck (does_push_num c (c.locals.nums s)) tt
does (GetP s) own c = does_if (refs 0 1) c (is_ref_slot c s) (push_ref (c.locals.refs s) c) Stuck (does_push_ref c (c.locals.refs s)) tt
does (SetM s) own c =
    does_taken c (λ z d. if is_num_slot d s then on (with_num d s z) else Stuck)
    (λ z d. does_if nothing d (is_num_slot d s) (on (with_num d s z)) Stuck (record { nums = refl; refs = refl }) tt)
does (SetP s) own c = popped_ref (refs 1 0) c c (λ v d. if is_ref_slot d s then on (with_ref d s v) else Stuck)
    (λ v rest is. does_if (refs 1 0) c (is_ref_slot c s) (on (with_ref (record c { refs = rest }) s v)) Stuck
    (record { nums = refl; refs = omega (arith, ap length is) }) tt)
does (Jump t) own c = does_forward own t c
does (JumpFalse t) own c =
    does_taken c (λ z d. if is_one z then on d else forward own t d)
    (λ z d. does_if nothing d (is_one z) (on d) (forward own t d) (does_nothing d) (does_forward own t d))
does (JumpTrue t) own c =
    does_taken c (λ z d. if is_one z then forward own t d else on d)
    (λ z d. does_if nothing d (is_one z) (forward own t d) (on d) (does_forward own t d) (does_nothing d))
does (Again t) own c =
    does_taken c (λ z d. if is_one z then back own t d else on d)
    (λ z d. does_if nothing d (is_one z) (back own t d) (on d) (does_back own t d) (does_nothing d))
does (And t) own c = does_and own t c
does (Or t) own c = does_or own t c
does Not own c =
    popped_num (nums 1 1) c c (λ z d. put_num (number_of (not (is_one z))) d)
    (λ z rest is. record { nums = omega (arith, ap length is); refs = refl })
does (Neg line) own c = does_one c line _
does (Add line) own c = does_two c line _
does (Sub line) own c = does_two c line _
does (Mul line) own c = does_two c line _
does (Div line) own c = does_two c line _
does (Rem line) own c = does_two c line _
does EqM own c = does_test c _
does NeM own c = does_test c _
does LtM own c = does_test c _
does LeM own c = does_test c _
does GtM own c = does_test c _
does GeM own c = does_test c _
does (Return k) own c = does_returned k c
does (WriteI w line) own c = does_write_num w c line _
does (WriteB w line) own c = does_write_num w c line _
does (WriteT w line) own c = does_write_text w c line
does (ForStart s t line) own c = does_for_start own s t line c
does (ForNext s t) own c = does_for_next own s t c
does (ScanT q s t line) own c = does_scan_on true own q s t line c
does (ScanI q s t line) own c = does_scan_on false own q s t line c
does (ScanMore s t) own c = does_scan_more own s t c
does DupM own c =
    popped_num (nums 1 2) c c (λ z d. push_num z c) (λ z rest is. does_if (nums 1 2) c (nat_lt ((frame_in c.unit).nums + length c.nums) frame_words)
    (put_num z c) Stuck (record { nums = omega arith; refs = refl }) tt)
does DupP own c = popped_ref (refs 1 2) c c (λ v d. push_ref v c)
    (λ v rest is. does_if (refs 1 2) c (nat_lt ((frame_in c.unit).refs + length c.refs) frame_words) (on (record c { refs = v ∷ c.refs })) Stuck
    (record { nums = refl; refs = omega arith }) tt)
does DropM own c = does_taken c (λ z d. on d) (λ z d. does_nothing d)
does DropP own c = popped_ref (refs 1 0) c c (λ v d. on d) (λ v rest is. record { nums = refl; refs = omega (arith, ap length is) })
does i own c = does_on_procedures i c

same_lengths : (e : Effect) (i : Instr) (c x : Config) → HasEffect e (behind i c) x → HasEffect e c x
same_lengths (moves m) i c x h = record { nums = h.nums; refs = h.refs }
same_lengths (either m n) i c x (◌⊎◌.inl h) = ◌⊎◌.inl (record { nums = h.nums; refs = h.refs })
same_lengths (either m n) i c x (◌⊎◌.inr h) = ◌⊎◌.inr (record { nums = h.nums; refs = h.refs })
same_lengths (makes k) i c x h = record { class = h.class; named = h.named; moved = record { nums = h.moved.nums; refs = h.moved.refs } }
same_lengths (enters n) i c x h =
    record { caller = h.caller; waits = h.waits; taken = h.taken; nums = h.nums; refs = h.refs; own_nums = h.own_nums; own_refs = h.own_refs }
same_lengths (leaves given) i c x h =
    record { caller = h.caller; waited = h.waited; own_nums = h.own_nums; own_refs = h.own_refs; nums = h.nums; refs = h.refs }

pub has_effect : (i : Instr) (c next : Config) (events : List Event) → act i c ≡ Goes events next → HasEffect (effect_of i) c next
has_effect i c next events is =
    moved_on (effect_of i) c (behind i c) (act i c) next events (λ x h. same_lengths (effect_of i) i c x h) (does i c.at (behind i c)) is

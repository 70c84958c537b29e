-- What a step is, and what instructions do with the two stacks.
use Rattle.std.specs.Prelude.{ℕ, zero, suc, ◌+◌, ℤ, Bool, List, [], ◌∷◌, length, nat_lt, Option, Some, None, if◌then◌else◌}
use Rattle.ps_code.specs.ps_base.CodeUnit.{ConstantView, text, literal}
use Rattle.ps_code.specs.ps_base.declared.line.Line.{Line}
use Rattle.ps_heap.specs.Ends.{End, Trapped}
use Rattle.ps_heap.specs.Events.{Event}
use Rattle.ps_heap.specs.Operators.{Answer, Gives, Traps}
use Rattle.ps_heap.specs.Texts.{Attempt, Yields, Fails}
use Rattle.ps_heap.specs.Values.{Value, number_of}
use Rattle.ps_heap.specs.Values as value
use Rattle.ps_meaning.specs.Meaning.{with_local}
use Rattle.ps_stepping.specs.Config.{frame_words, Config, constants_in, frame_in, constant_at}

-- What a step does: it goes on with these events; it ends the run, where so many bytes of objects were touched in it; or there is none.
pub data Step : Type 0 where
  Goes : (events : List Event) (next : Config) → Step
  Stops : (end_of_run : End) (touched : ℕ) → Step
  Stuck : Step

-- what is counted where a step ends in which so many bytes of objects were touched
abbrev pub and_touched : ℕ → ℕ → ℕ
and_touched zero counted = counted
and_touched (suc touched) counted = suc touched + counted

-- goes on quietly
abbrev pub on : Config → Step
on c = Goes [] c

-- Pushing and popping, on each stack.
abbrev pub put_num : ℤ → Config → Step
put_num z c = on (record c { nums = z ∷ c.nums })

abbrev pub push_num : ℤ → Config → Step
push_num z c = if nat_lt ((frame_in c.unit).nums + length c.nums) frame_words then put_num z c else Stuck

abbrev pub push_ref : Value → Config → Step
push_ref v c = if nat_lt ((frame_in c.unit).refs + length c.refs) frame_words then on (record c { refs = v ∷ c.refs }) else Stuck

abbrev pub pop_num_of : List ℤ → Config → (ℤ → Config → Step) → Step
pop_num_of [] c next = Stuck
pop_num_of (z ∷ nums) c next = next z (record c { nums = nums })

abbrev pub pop_num : Config → (ℤ → Config → Step) → Step
pop_num c next = pop_num_of c.nums c next

abbrev pub pop_ref_of : List Value → Config → (Value → Config → Step) → Step
pop_ref_of [] c next = Stuck
pop_ref_of (v ∷ refs) c next = next v (record c { refs = refs })

abbrev pub pop_ref : Config → (Value → Config → Step) → Step
pop_ref c next = pop_ref_of c.refs c next

-- the left operand stands below the right one
abbrev pub pop_two : Config → (ℤ → ℤ → Config → Step) → Step
pop_two c next = pop_num c (λ b d. pop_num d (λ a e. next a b e))

-- Locals.
abbrev pub is_num_slot : Config → ℕ → Bool
is_num_slot c s = nat_lt s (frame_in c.unit).nums

abbrev pub is_ref_slot : Config → ℕ → Bool
is_ref_slot c s = nat_lt s (frame_in c.unit).refs

abbrev pub with_num : Config → ℕ → ℤ → Config
with_num c s z = record c { locals = record c.locals { nums = with_local c.locals.nums s z } }

abbrev pub with_ref : Config → ℕ → Value → Config
with_ref c s v = record c { locals = record c.locals { refs = with_local c.locals.refs s v } }

-- the value of an operator, or its trap
abbrev pub answered : Line → Answer → Config → Step
answered line (Gives z) c = put_num z c
answered line (Traps trap) c = Stops (Trapped trap line) 0

abbrev pub one_num : Line → (ℤ → Answer) → Config → Step
one_num line f c = pop_num c (λ a d. answered line (f a) d)

abbrev pub two_nums : Line → (ℤ → ℤ → Answer) → Config → Step
two_nums line f c = pop_two c (λ a b d. answered line (f a b) d)

abbrev pub test : (ℤ → ℤ → Bool) → Config → Step
test f c = pop_two c (λ a b d. put_num (number_of (f a b)) d)

-- a text is popped; any other reference is stuck
abbrev pub text_of : Value → Config → (List ℕ → Config → Step) → Step
text_of (value.Text bytes) c next = next bytes c
text_of _ c next = Stuck

abbrev pub pop_text : Config → (List ℕ → Config → Step) → Step
pop_text c next = pop_ref c (λ v d. text_of v d next)

-- the text that a constant of this number is
abbrev pub text_in : Option ConstantView → (List ℕ → Step) → Step
text_in (Some (text bytes)) next = next bytes
text_in (Some (literal code)) next = Stuck
text_in None next = Stuck

abbrev pub with_text : ℕ → Config → (List ℕ → Step) → Step
with_text k c next = text_in (constant_at (constants_in c.unit) k) next

-- goes on with what an operation yields, or ends in its trap
abbrev pub attempted : {A : Type 0} → Line → Attempt A → (A → Step) → Step
attempted line (Yields a) next = next a
attempted line (Fails trap) next = Stops (Trapped trap line) 0

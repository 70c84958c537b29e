-- Steps that are computed: the machine on worked instructions.
use Rattle.std.proofs.Common.{◌≡◌, ℕ, ℤ, pos, List, [], ◌∷◌, refl, None}
use Rattle.std.specs.Prelude.{nat_eq, if◌then◌else◌}
use Rattle.ps_code.specs.ps_base.CodeUnit.{UnitView, unit, no_constants}
use Rattle.ps_code.specs.ps_base.declared.line.Line.{Line}
use Rattle.ps_code.specs.ps_base.declared.trap.Trap.TheVariants.{Bounds}
use Rattle.ps_code.specs.ps_base.declared.instr.Instr.TheVariants as instr
use Rattle.ps_heap.specs.Ends.{Trapped, OutOfTurns, Done}
use Rattle.ps_heap.specs.Events.{Turn}
use Rattle.ps_heap.specs.Values.{Nil}
use Rattle.ps_meaning.specs.Meaning.{with_local}
use Rattle.ps_heap.proofs.Scenes.{uncommitted}
use Rattle.ps_stepping.specs.Config.{Caller, Config}
use Rattle.ps_stepping.specs.Machine.{Goes, Stops, Stuck, on, act}

abbrev line : Line
line = record { 0 = 1 }

-- a body of three numbers, and none that waits
abbrev code : UnitView
code = unit [] no_constants (record { nums = 3; refs = 0; num_params = 0; ref_params = 0 })

-- three locals in a row, from slot 0 on
abbrev three : ℕ → ℕ → ℕ → ℕ → ℤ
three a b c s = if nat_eq s 0 then pos a else (if nat_eq s 1 then pos b else pos c)

abbrev at : ℕ → List ℤ → ℕ → Config
at offset nums turns = record {
  unit = code;
  at = offset;
  nums = nums;
  refs = [];
  locals = record { nums = λ s. pos 0; refs = λ s. Nil };
  scope = None;
  callers = [];
  store = record { turns = turns; input = []; held = uncommitted [] 0 };
}

abbrev loop : ℕ → (ℕ → ℤ) → ℕ → Config
loop offset row turns = record (at offset [] turns) { locals = record { nums = row; refs = λ s. Nil } }

again_goes_on_at_false : act (instr.Again 0) (at 10 (pos 0 ∷ []) 2) ≡ on (at 15 [] 2)
again_goes_on_at_false = refl

again_takes_a_turn : act (instr.Again 0) (at 10 (pos 1 ∷ []) 2) ≡ Goes (Turn 0 ∷ []) (at 0 [] 1)
again_takes_a_turn = refl

no_turn_is_left : act (instr.Again 0) (at 10 (pos 1 ∷ []) 0) ≡ Stops OutOfTurns 0
no_turn_is_left = refl

-- a jump back is none forward
jump_goes_forward_alone : act (instr.Jump 0) (at 10 [] 2) ≡ Stuck
jump_goes_forward_alone = refl

and_leaves_its_value : act (instr.And 20) (at 10 (pos 0 ∷ []) 2) ≡ on (at 20 (pos 0 ∷ []) 2)
and_leaves_its_value = refl

left_operand_stands_below : act (instr.Sub line) (at 10 (pos 2 ∷ pos 7 ∷ []) 2) ≡ on (at 15 (pos 5 ∷ []) 2)
left_operand_stands_below = refl

-- for i = 1 to 3: the first turn begins after the instruction
for_start_takes_a_turn : act (instr.ForStart 0 60 line) (loop 10 (three 1 3 1) 2) ≡ Goes (Turn 0 ∷ []) (loop 23 (three 1 3 1) 1)
for_start_takes_a_turn = refl

-- for i = 4 to 3
for_start_passes_the_loop : act (instr.ForStart 0 60 line) (loop 10 (three 4 3 1) 2) ≡ on (loop 60 (three 4 3 1) 2)
for_start_passes_the_loop = refl

-- for i = 1 to 3 by 0
step_is_0 : act (instr.ForStart 0 60 line) (loop 10 (three 1 3 0) 2) ≡ Stops (Trapped Bounds line) 0
step_is_0 = refl

for_next_takes_a_turn : act (instr.ForNext 0 23) (loop 51 (three 1 3 1) 2) ≡ Goes (Turn 0 ∷ []) (loop 23 (with_local (three 1 3 1) 0 (pos 2)) 1)
for_next_takes_a_turn = refl

-- for i = 2147483647 to 2147483647: the number after it is no int
for_next_ends_at_the_last_int : act (instr.ForNext 0 23) (loop 51 (three 2147483647 2147483647 1) 2) ≡ on (loop 60 (three 2147483647 2147483647 1) 2)
for_next_ends_at_the_last_int = refl

-- a body that waits at 70 for a number, with another below it
abbrev waiting : Caller
waiting = record { unit = code; at = 70; nums = pos 9 ∷ []; refs = []; locals = record { nums = λ s. pos 0; refs = λ s. Nil }; scope = None }

return_hands_the_number_over : act (instr.Return 1) (record (at 10 (pos 5 ∷ []) 2) { callers = waiting ∷ [] }) ≡ on (at 70 (pos 5 ∷ pos 9 ∷ []) 2)
return_hands_the_number_over = refl

return_ends_the_run : act (instr.Return 0) (at 10 [] 2) ≡ Stops Done 0
return_ends_the_run = refl

-- one that waits with 512 numbers in its frame: nothing more is pushed there
full : Caller
full = record waiting { unit = unit [] no_constants (record { nums = 511; refs = 0; num_params = 0; ref_params = 0 }) }

return_without_room : act (instr.Return 1) (record (at 10 (pos 5 ∷ []) 2) { callers = full ∷ [] }) ≡ Stuck
unfolding full
return_without_room = refl

return_with_nothing_needs_none : act (instr.Return 0) (record (at 10 [] 2) { callers = full ∷ [] })
    ≡ on (record (at 70 (pos 9 ∷ []) 2) { unit = full.unit })
unfolding full
return_with_nothing_needs_none = refl

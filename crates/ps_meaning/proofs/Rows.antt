-- Programs whose events are computed: the evaluation on worked examples.
use Rattle.std.proofs.Common.{◌≡◌, ℕ, List, [], ◌∷◌, refl, pos, true, false, None}
use Rattle.std.specs.Prelude.{codes, negsuc, map, ◌+◌, ◌*◌}
use Rattle.std.specs.Fmt.{signed_decimal, digits}
use Rattle.text_forms.specs.Forms.{forms_of, forms_from, form_here, form_in, begins, element_of, is_text}
use Rattle.ps_base.specs.TyView as ty
use Rattle.ps_base.specs.declared.line.Line.{Line}
use Rattle.ps_base.specs.declared.trap.Trap.TheVariants as trap
use Rattle.ps_base.specs.declared.trap.Trap.TheVariants.{Overflow, ZeroDivisor, Bounds, Abort as Aborted, TooLong}
use Rattle.ps_base.specs.declared.operator.Operator.TheVariants.{Add, Div, Rem}
use Rattle.ps_base.specs.declared.operator.Relation.TheVariants.{Less}
use Rattle.ps_typing.specs.ps_program.declared.place.Place.TheVariants.{Plain}
use Rattle.ps_typing.specs.ps_program.Node.{Node, Nodes, none, more, Arms, no_arms, more_arms, arm, BodyNode, body}
use Rattle.ps_typing.specs.ps_program.Node as node
use Rattle.ps_heap.specs.Ends.{End, Done, Trapped, OutOfTurns}
use Rattle.ps_heap.specs.Events.{Event, Out, Turn, Ask, Commit, Finish}
use Rattle.ps_meaning.specs.Meaning.{give, stop, after, ◌>>=◌, answer, attempt, with_heap, change, made, made_text, emit, written, take_turn, get, set, choose}
use Rattle.ps_heap.specs.Library.{library_procedure}
use Rattle.ps_heap.specs.Weights.{text_weight, code_weight}
use Rattle.ps_heap.specs.Objects.{field_of, with_field, vector_of, with_element, low_of, high_of, element_of as element_at}
use Rattle.ps_meaning.specs.Loops.{while_turns, for_turns, for_loop, for_meant}
use Rattle.ps_meaning.specs.Operations.{kept_all}
use Rattle.ps_meaning.specs.Evaluation.{eval}
use Rattle.ps_meaning.specs.Runs.{over_nothing, run_events, events_with, run_end, outcome_with, all_events, end_reached, fresh_frame, fresh_state}

abbrev pub line : ℕ → Line
line n = record { 0 = n }

abbrev pub program : Nodes → BodyNode
program items = body [] ty.Void (node.Block None items) None (line 1)

abbrev pub one : Node → BodyNode
one clause = program (more clause none)

abbrev pub write : Node → Node
write e = node.Write e node.Empty false ty.Int (line 1)

abbrev text : List ℕ → Node
text bytes = node.Write (node.Text bytes) node.Empty false ty.Str (line 1)

abbrev wide : Node → Node → Node
wide e w = node.Write e w true ty.Int (line 1)

-- Events without their counts.

abbrev pub plain : Event → Event
plain (Out bytes counted) = Out bytes 0
plain (Turn counted) = Turn 0
plain (Ask for_what counted) = Ask for_what 0
plain (Commit heap counted) = Commit heap 0
plain (Finish e counted) = Finish e 0

abbrev told_by : ℕ → BodyNode → List Event
told_by turns program = map plain (run_events (over_nothing turns []) program)

abbrev pub out : List ℕ → Event
out bytes = Out bytes 0

abbrev pub turn : Event
turn = Turn 0

abbrev pub finish : End → Event
finish e = Finish e 0

abbrev pub int : ℕ → Event
int n = out (signed_decimal (pos n))

abbrev pub num : ℕ → Node
num n = node.Int (pos n)

abbrev minus : ℕ → Node
minus n = node.Neg (num n) (line 1)

abbrev pub local : ℕ → Node
local s = node.Name (Plain s) ty.Int

-- `for i = a to b by c do write i`
abbrev counted : Node → Node → Node → Node
counted a b c = node.For 0 a b c None (Plain 3) (write (local 3)) (line 1)

-- write 1 + 2, "'n" ?
sum_is_told : told_by 0 (program (more (write (node.Arith Add (num 1) (num 2) (line 1))) (more (text (codes "\n")) none))) ≡ int 3 ∷ out (codes "\n") ∷ finish Done ∷ []
unfolding digits eval give stop after ◌>>=◌ answer emit written take_turn get set choose while_turns events_with run_end outcome_with all_events end_reached fresh_frame fresh_state
sum_is_told = refl

empty_program_tells_nothing : told_by 0 (program none) ≡ finish Done ∷ []
unfolding digits eval give stop after ◌>>=◌ events_with outcome_with all_events fresh_frame fresh_state
empty_program_tells_nothing = refl

-- write 2147483647 + 1
sum_traps : told_by 0 (one (write (node.Arith Add (num 2147483647) (num 1) (line 1)))) ≡ finish (Trapped Overflow (line 1)) ∷ []
unfolding digits eval give stop after ◌>>=◌ answer emit written take_turn get set choose events_with outcome_with all_events fresh_frame fresh_state
sum_traps = refl

-- for i = 1 to 3 do write i
loop_counts : told_by 3 (one (counted (num 1) (num 3) (num 1))) ≡ turn ∷ int 1 ∷ turn ∷ int 2 ∷ turn ∷ int 3 ∷ finish Done ∷ []
unfolding digits eval give stop after ◌>>=◌ answer emit written take_turn get set choose for_turns for_loop for_meant events_with outcome_with all_events fresh_frame fresh_state
loop_counts = refl

-- with two turns
loop_is_out_of_turns : told_by 2 (one (counted (num 1) (num 3) (num 1))) ≡ turn ∷ int 1 ∷ turn ∷ int 2 ∷ finish OutOfTurns ∷ []
unfolding digits eval give stop after ◌>>=◌ answer emit written take_turn get set choose for_turns for_loop for_meant events_with outcome_with all_events fresh_frame fresh_state
loop_is_out_of_turns = refl

-- for i = 3 to 1 by -1 do write i
loop_counts_down : told_by 5 (one (counted (num 3) (num 1) (minus 1))) ≡ turn ∷ int 3 ∷ turn ∷ int 2 ∷ turn ∷ int 1 ∷ finish Done ∷ []
unfolding digits eval give stop after ◌>>=◌ answer emit written take_turn get set choose for_turns for_loop for_meant events_with outcome_with all_events fresh_frame fresh_state
loop_counts_down = refl

-- for i = 1 to 3 by 0 do write i
step_is_0 : told_by 5 (one (counted (num 1) (num 3) (num 0))) ≡ finish (Trapped Bounds (line 1)) ∷ []
unfolding digits eval give stop after ◌>>=◌ answer emit written take_turn get set choose for_turns for_loop for_meant events_with outcome_with all_events fresh_frame fresh_state
step_is_0 = refl

-- for i = 2147483646 to 2147483647 do write i: the step past the greatest int ends the loop
loop_ends_at_the_last_int : told_by 5 (one (counted (num 2147483646) (num 2147483647) (num 1))) ≡ turn ∷ int 2147483646 ∷ turn ∷ int 2147483647 ∷ finish Done ∷ []
unfolding digits eval give stop after ◌>>=◌ answer emit written take_turn get set choose for_turns for_loop for_meant events_with outcome_with all_events fresh_frame fresh_state
loop_ends_at_the_last_int = refl

-- for i = 2 to 1 do write i
loop_without_a_turn : told_by 0 (one (counted (num 2) (num 1) (num 1))) ≡ finish Done ∷ []
unfolding digits eval give stop after ◌>>=◌ answer emit written take_turn get set choose for_turns for_loop for_meant events_with outcome_with all_events fresh_frame fresh_state
loop_without_a_turn = refl

-- case 2 of 1, 2 : write 5; default : write 6
abbrev choice : ℕ → Node
choice n = node.Case (num n) (more_arms (arm (more (num 1) (more (num 2) none)) (write (num 5))) no_arms) (write (num 6)) ty.Int

arm_is_chosen : told_by 0 (one (choice 2)) ≡ int 5 ∷ finish Done ∷ []
unfolding digits eval give stop after ◌>>=◌ answer emit written choose events_with outcome_with all_events fresh_frame fresh_state
arm_is_chosen = refl

default_is_chosen : told_by 0 (one (choice 3)) ≡ int 6 ∷ finish Done ∷ []
unfolding digits eval give stop after ◌>>=◌ answer emit written choose events_with outcome_with all_events fresh_frame fresh_state
default_is_chosen = refl

-- let n := 0; repeat n := n + 1 while n < 3 do write n
abbrev again : Node → Node
again b = node.Repeat (node.SetName (Plain 0) ty.Int (node.Arith Add (local 0) (num 1) (line 1))) (node.Compare Less ty.Int (local 0) (num 3)) b

repeat_writes_between : told_by 5 (program (more (node.Let (Plain 0) ty.Int (num 0)) (more (again (write (local 0))) none))) ≡ turn ∷ int 1 ∷ turn ∷ int 2 ∷ finish Done ∷ []
unfolding digits eval give stop after ◌>>=◌ answer emit written take_turn get set choose while_turns events_with outcome_with all_events fresh_frame fresh_state
repeat_writes_between = refl

repeat_without_a_clause : told_by 5 (program (more (node.Let (Plain 0) ty.Int (num 0)) (more (again node.Empty) (more (write (local 0)) none)))) ≡ turn ∷ turn ∷ int 3 ∷ finish Done ∷ []
unfolding digits eval give stop after ◌>>=◌ answer emit written take_turn get set choose while_turns events_with outcome_with all_events fresh_frame fresh_state
repeat_without_a_clause = refl

-- write true : 6, "" : 3, "a" : 1
widths_are_filled : told_by 0 (program (more (node.Write (node.Flag true) (num 6) true ty.Bool (line 1)) (more (node.Write (node.Text []) (num 3) true ty.Str (line 1)) (more (node.Write (node.Text (codes "a")) (num 1) true ty.Str (line 1)) none))))
    ≡ out (codes "  true") ∷ out (codes "   ") ∷ out (codes "a") ∷ finish Done ∷ []
unfolding digits eval give stop after ◌>>=◌ answer emit written choose events_with outcome_with all_events fresh_frame fresh_state
widths_are_filled = refl

-- write 1 : 70000
width_traps : told_by 0 (one (wide (num 1) (num 70000))) ≡ finish (Trapped TooLong (line 1)) ∷ []
unfolding digits eval give stop after ◌>>=◌ answer emit written choose events_with outcome_with all_events fresh_frame fresh_state
width_traps = refl

abort_traps : told_by 0 (one (node.Abort (line 1))) ≡ finish (Trapped Aborted (line 1)) ∷ []
unfolding digits eval give stop after ◌>>=◌ events_with outcome_with all_events fresh_frame fresh_state
abort_traps = refl

-- write (-7) div 2, (-7) rem 2
quotients_go_to_zero : told_by 0 (program (more (write (node.Arith Div (minus 7) (num 2) (line 1))) (more (write (node.Arith Rem (minus 7) (num 2) (line 1))) none)))
    ≡ out (signed_decimal (negsuc 2)) ∷ out (signed_decimal (negsuc 0)) ∷ finish Done ∷ []
unfolding digits eval give stop after ◌>>=◌ answer emit written choose events_with outcome_with all_events fresh_frame fresh_state
quotients_go_to_zero = refl

-- structure box(int n ; pntr next)
abbrev box : List ℕ
box = codes "box(int n;pntr next)"

abbrev pntr : ℕ → Node
pntr s = node.Name (Plain s) ty.Pntr

-- b(n), on a line
abbrev number_of_box : ℕ → Node
number_of_box at = node.Field (pntr 0) box 0 ty.Int (line at)

-- let b = box(3, nil); b(n) := b(n) + 4; write b(n)
abbrev a_box : Node → BodyNode
a_box first = program (more node.Class (more (node.Let (Plain 0) ty.Pntr first)
    (more (node.SetField (pntr 0) box 0 ty.Int (node.Arith Add (number_of_box 3) (num 4) (line 3)) (line 3)) (more (write (number_of_box 4)) none))))

field_is_changed : told_by 0 (a_box (node.Make box (more (num 3) (more node.Nil none)))) ≡ int 7 ∷ finish Done ∷ []
unfolding digits eval give stop after ◌>>=◌ answer attempt made_text with_heap change made emit written get set kept_all field_of with_field forms_of forms_from form_here form_in begins events_with outcome_with all_events fresh_frame fresh_state
field_is_changed = refl

-- let b = nil: the field is read before it is set, both on line 3
nil_has_no_field : told_by 0 (a_box node.Nil) ≡ finish (Trapped trap.Nil (line 3)) ∷ []
unfolding digits eval give stop after ◌>>=◌ answer attempt made_text with_heap change made emit written get set field_of with_field events_with outcome_with all_events fresh_frame fresh_state
nil_has_no_field = refl

abbrev ints : Node
ints = node.Name (Plain 0) (ty.Vector ty.Int)

abbrev three : Node
three = node.Elems (num 1) (more (num 3) (more (num 4) (more (num 5) none))) (ty.Vector ty.Int) (line 1)

-- let v = @1 of int [3, 4, 5]; v(2) := 6; let sum := 0; for i = lwb(v) to upb(v) + more do sum := sum + v(i); write sum
abbrev summed : ℕ → BodyNode
summed further = program (more (node.Let (Plain 0) (ty.Vector ty.Int) three)
    (more (node.SetElement ints (num 2) (num 6) ty.Int (line 2)) (more (node.Let (Plain 0) ty.Int (num 0))
    (more (node.For 1 (node.Bound ints false) (node.Arith Add (node.Bound ints true) (num further) (line 4)) (num 1) None (Plain 4)
    (node.SetName (Plain 0) ty.Int (node.Arith Add (local 0) (node.Element ints (local 4) ty.Int (line 5)) (line 5))) (line 4))
    (more (write (local 0)) none)))))

vector_is_summed : told_by 9 (summed 0) ≡ turn ∷ turn ∷ turn ∷ int 14 ∷ finish Done ∷ []
unfolding digits eval give stop after ◌>>=◌ answer attempt made_text with_heap change made emit written take_turn get set choose for_turns for_loop for_meant vector_of element_at with_element low_of high_of element_of is_text events_with outcome_with all_events fresh_frame fresh_state
vector_is_summed = refl

-- one past the upper bound
element_past_the_end : told_by 9 (summed 1) ≡ turn ∷ turn ∷ turn ∷ turn ∷ finish (Trapped Bounds (line 5)) ∷ []
unfolding digits eval give stop after ◌>>=◌ answer attempt made_text with_heap change made emit written take_turn get set choose for_turns for_loop for_meant vector_of element_at with_element low_of high_of element_of is_text events_with outcome_with all_events fresh_frame fresh_state
element_past_the_end = refl

abbrev string : Node
string = node.Name (Plain 0) ty.Str

-- let s = "ab" ++ "cd"; if "abc" < s do write s(2|2); write length(s)
strings_are_joined : told_by 0 (program (more (node.Let (Plain 0) ty.Str (node.Join (node.Text (codes "ab")) (node.Text (codes "cd")) (line 1)))
    (more (node.IfDo (node.Compare Less ty.Str (node.Text (codes "abc")) string)
    (node.Write (node.Part string (num 2) (num 2) (line 2)) node.Empty false ty.Str (line 2)))
    (more (write (node.Lib 11 (more string none) (line 3))) none)))) ≡ out (codes "bc") ∷ int 4 ∷ finish Done ∷ []
unfolding digits eval library_procedure give stop after ◌>>=◌ answer attempt made_text emit written get set choose events_with outcome_with all_events fresh_frame fresh_state
strings_are_joined = refl

-- Counts. A text of 9 bytes has two words of them; the code of `write 3` has the text of its type, `proc()`, and three clauses: the sequence,
-- the write and its width, and the int.
nine_bytes : text_weight (codes "123456789") ≡ 56
nine_bytes = refl

code_of_a_write : code_weight (one (write (num 3))) ≡ 64 + 48 + 4 * 96
code_of_a_write = refl

-- a text of two bytes is made, and then told
join_is_counted : run_events (over_nothing 0 []) (one (node.Write (node.Join (node.Text (codes "a")) (node.Text (codes "b")) (line 1)) node.Empty false ty.Str (line 1)))
    ≡ Out (codes "ab") (64 + 48 + 6 * 96 + 2 * 48 + 48) ∷ Finish Done (64 + 48 + 6 * 96 + 2 * 48 + 48) ∷ []
unfolding eval give stop after ◌>>=◌ attempt made_text emit written choose events_with outcome_with all_events fresh_frame fresh_state
join_is_counted = refl

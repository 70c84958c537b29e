-- Scans, computed: a procedure that tells what it is called with, and what it does beside.
use Rattle.std.proofs.Common.{◌≡◌, ℕ, ◌+◌, zero, suc, ◌++◌, Bool, true, false, not, List, [], ◌∷◌, refl, pos, Option, Some, None, nat_eq, if◌then◌else◌}
use Rattle.std.specs.Prelude.{codes, negsuc, map}
use Rattle.ps_base.specs.TyView as ty
use Rattle.ps_base.specs.declared.line.Line.{Line}
use Rattle.ps_base.specs.declared.trap.Trap.TheVariants.{Overflow, WrongClass, KeyKind, TooDeep}
use Rattle.ps_base.specs.declared.trap.Trap.TheVariants as trap
use Rattle.ps_typing.specs.ps_program.Node.{BodyNode, body}
use Rattle.ps_typing.specs.ps_program.Node as node
use Rattle.ps_heap.specs.reaching.Reaching.{is_in}
use Rattle.ps_heap.specs.Ends.{End, Trapped, OutOfTurns}
use Rattle.ps_heap.specs.Texts.{is_same_text}
use Rattle.ps_heap.specs.Values.{Value, Num, Flag, Text, Nil, Pointer, Procedure, as_written}
use Rattle.ps_heap.specs.Tables.{Key, string_key, int_key, by_ints, without_keys, entered, looked_up, next_string, next_int, cardinality}
use Rattle.ps_heap.specs.Objects.{Structure, Scope, Keyed, table_of}
use Rattle.ps_heap.specs.Weights.{routine_weight}
use Rattle.ps_heap.specs.Held.{Held, home_at, is_among, touched_after, touched_weight, is_first_touch, places_with}
use Rattle.ps_heap.specs.Calls.{enter_call, cardinality_call}
use Rattle.ps_heap.specs.Scans.{next_key}
use Rattle.ps_heap.specs.Events.{Event, Out, Turn}
use Rattle.ps_heap.proofs.Scenes.{entry, table_with, held_by, value_by}
use Rattle.ps_meaning.specs.Meaning.{Outcome, Value_is, Ends, State, Meaning, on_held, give, stop, after, ◌>>=◌, choose, attempt, change, with_heap, take_turn, touch_scope, in_frame, back_to, set}
use Rattle.ps_meaning.specs.Frames.{frame_of_call}
use Rattle.ps_meaning.specs.Loops.{scan_turns, scan_next, scan_call}
use Rattle.ps_meaning.specs.Evaluation.{call_meant}
use Rattle.ps_meaning.specs.Runs.{fresh_frame}
use Rattle.ps_meaning.proofs.Rows.{plain, line}

-- a procedure that does this to what is held, and goes on by this, inside so many calls
record Called : Type 0 where
  depth : ℕ
  does : List Value → Held → Held
  goes_on : List Value → Bool

-- a turn that is taken, and what is told of a call with a key and a value
abbrev a_turn : Event
a_turn = Turn 0

abbrev a_call : List Value → Event
a_call (Text key ∷ args) = Out key 0
a_call (Num (pos key) ∷ args) = Out (key ∷ []) 0
a_call (Num (negsuc key) ∷ args) = Out (key ∷ 1 ∷ []) 0
a_call args = Out [] 0

unfoldable noting : Called → List Value → Meaning
noting does args frame state =
    Value_is (Flag (does.goes_on args)) frame (record { events = state.events ++ a_call args ∷ []; store = on_held (does.does args state.store.held) state.store })

abbrev around_with : ℕ → (List Value → Held → Held) → (List Value → Bool) → Called
around_with depth does goes_on = record { depth = depth; does = does; goes_on = goes_on }

abbrev looking : Called
looking = around_with 0 (λ args h. h) (λ args. true)

abbrev at : Line
at = line 7

abbrev nothing_done : BodyNode
nothing_done = body [] ty.Bool (node.Flag true) None (line 1)

-- a scan of a table by this procedure, whose scope is this one, from a key on and after so many calls
abbrev scan_by : ℕ → Bool → Called → Value → Option ℕ → Option Key → ℕ → State → Outcome
scan_by n strings does table scope last count state =
    scan_turns n (record {
      line = at;
      strings = strings;
      refs = 0;
      nums = 0;
      table = table;
      call = call_meant (record { bound = 0; depth = does.depth; call = λ of args. take_turn >>= λ t. touch_scope >>= λ u. noting does args }) at (Procedure (as_written nothing_done) scope);
    }) last count fresh_frame state

-- a box, a table by strings with it under "a", "c" and "d", a table by ints, a new table, and a scope; all are committed but the tables
abbrev held : Held
held = record {
  objects = Structure (codes "box(int n)") (Num (pos 1) ∷ []) ∷ table_with (entry (codes "a") 0 ∷ entry (codes "c") 0 ∷ entry (codes "d") 0 ∷ [])
      ∷ Keyed (by_ints (record { key = negsuc 3; object = 0 } ∷ record { key = pos 2; object = 1 } ∷ [])) ∷ Keyed without_keys ∷ Scope (codes "scope(int n)") None (Num (pos 0) ∷ []) ∷ [];
  homes = Some 1 ∷ None ∷ None ∷ None ∷ Some 1 ∷ [];
  directory = [];
  openings = [];
  created = [];
  assigned = [];
  touched = 0 ∷ [];
  asked = false;
  replies = [];
  counted = 0;
  weigh = routine_weight;
}

abbrev begun_with : Held → ℕ → State
begun_with h turns = record { events = []; store = record { turns = turns; input = []; held = h } }

abbrev begun : ℕ → State
begun turns = begun_with held turns

-- what a scan answers, or how it ends the run, and what was seen on the way
record Shown : Type 0 where
  answers : Option ℕ
  ends : Option End
  seen : List Event

abbrev number_of_calls : Value → Option ℕ
number_of_calls (Num (pos n)) = Some n
number_of_calls v = None

abbrev shown_of : Outcome → Shown
shown_of (Value_is v frame state) = record { answers = number_of_calls v; ends = None; seen = map plain state.events }
shown_of (Ends e state) = record { answers = None; ends = Some e; seen = map plain state.events }

abbrev by_string : List ℕ → Event
by_string key = a_call (Text key ∷ Pointer 0 ∷ [])

abbrev scans : ℕ → Called → Value → Shown
scans turns does table = shown_of (scan_by turns true does table None None 0 (begun turns))

abbrev counts : ℕ → List Event → Shown
counts n seen = record { answers = Some n; ends = None; seen = seen }

abbrev stops : End → List Event → Shown
stops e seen = record { answers = None; ends = Some e; seen = seen }

-- Each key in order, with its value: a turn, the call, and a turn after it, also after the last.
in_order : scans 6 looking (Pointer 1) ≡ counts 3 (a_turn ∷ by_string (codes "a") ∷ a_turn ∷ a_turn ∷ by_string (codes "c") ∷ a_turn ∷ a_turn ∷ by_string (codes "d") ∷ a_turn ∷ [])
unfolding scan_turns scan_next scan_call next_key next_string next_int table_of give stop after ◌>>=◌ choose attempt change with_heap take_turn in_frame back_to set call_meant
    frame_of_call fresh_frame noting touched_after touched_weight is_first_touch home_at enter_call looked_up entered places_with is_among is_in cardinality_call cardinality
in_order = refl

by_numbers : shown_of (scan_by 4 false looking (Pointer 2) None None 0 (begun 4)) ≡ counts 2 (a_turn ∷ a_call (Num (negsuc 3) ∷ Pointer 0 ∷ []) ∷ a_turn ∷ a_turn ∷ a_call (Num (pos 2) ∷ Pointer 1 ∷ []) ∷ a_turn ∷ [])
unfolding scan_turns scan_next scan_call next_key next_string next_int table_of give stop after ◌>>=◌ choose attempt change with_heap take_turn in_frame back_to set call_meant
    frame_of_call fresh_frame noting touched_after touched_weight is_first_touch home_at enter_call looked_up entered places_with is_among is_in cardinality_call cardinality
by_numbers = refl

no_key : scans 0 looking (Pointer 3) ≡ counts 0 []
unfolding scan_turns scan_next scan_call next_key next_string next_int table_of give stop after ◌>>=◌ choose attempt change with_heap take_turn in_frame back_to set call_meant
    frame_of_call fresh_frame noting touched_after touched_weight is_first_touch home_at enter_call looked_up entered places_with is_among is_in cardinality_call cardinality
no_key = refl

-- A call that answers false is the last, and is counted; no turn is taken after it.
abbrev is_before_c : List Value → Bool
is_before_c (Text key ∷ args) = not (is_same_text key (codes "c"))
is_before_c args = true

false_is_the_last : scans 9 (around_with 0 (λ args h. h) is_before_c) (Pointer 1) ≡ counts 2 (a_turn ∷ by_string (codes "a") ∷ a_turn ∷ a_turn ∷ by_string (codes "c") ∷ [])
unfolding scan_turns scan_next scan_call next_key next_string next_int table_of give stop after ◌>>=◌ choose attempt change with_heap take_turn in_frame back_to set call_meant
    frame_of_call fresh_frame noting touched_after touched_weight is_first_touch home_at enter_call looked_up entered places_with is_among is_in cardinality_call cardinality
false_is_the_last = refl

-- The table is each time as it then is: a procedure that takes its own key out, that takes the next key out, and that enters keys before and after its own.
abbrev puts : List ℕ → Value → Held → Held
puts key v h = held_by h (enter_call (string_key key) (Pointer 1) v h)

abbrev takes_its_own : List Value → Held → Held
takes_its_own (Text key ∷ args) h = puts key Nil h
takes_its_own args h = h

own_key_taken_out : scans 6 (around_with 0 takes_its_own (λ args. true)) (Pointer 1) ≡ counts 3 (a_turn ∷ by_string (codes "a") ∷ a_turn ∷ a_turn ∷ by_string (codes "c") ∷ a_turn ∷ a_turn ∷ by_string (codes "d") ∷ a_turn ∷ [])
unfolding scan_turns scan_next scan_call next_key next_string next_int table_of give stop after ◌>>=◌ choose attempt change with_heap take_turn in_frame back_to set call_meant
    frame_of_call fresh_frame noting touched_after touched_weight is_first_touch home_at enter_call looked_up entered places_with is_among is_in cardinality_call cardinality
own_key_taken_out = refl

next_key_taken_out : scans 4 (around_with 0 (λ args h. puts (codes "c") Nil h) (λ args. true)) (Pointer 1) ≡ counts 2 (a_turn ∷ by_string (codes "a") ∷ a_turn ∷ a_turn ∷ by_string (codes "d") ∷ a_turn ∷ [])
unfolding scan_turns scan_next scan_call next_key next_string next_int table_of give stop after ◌>>=◌ choose attempt change with_heap take_turn in_frame back_to set call_meant
    frame_of_call fresh_frame noting touched_after touched_weight is_first_touch home_at enter_call looked_up entered places_with is_among is_in cardinality_call cardinality
next_key_taken_out = refl

keys_entered : scans 8 (around_with 0 (λ args h. puts (codes "Z") (Pointer 0) (puts (codes "cc") (Pointer 0) h)) (λ args. true)) (Pointer 1) ≡ counts 4 (a_turn ∷ by_string (codes "a") ∷ a_turn ∷ a_turn ∷ by_string (codes "c") ∷ a_turn ∷ a_turn ∷ by_string (codes "cc") ∷ a_turn ∷ a_turn ∷ by_string (codes "d") ∷ a_turn ∷ [])
unfolding scan_turns scan_next scan_call next_key next_string next_int table_of give stop after ◌>>=◌ choose attempt change with_heap take_turn in_frame back_to set call_meant
    frame_of_call fresh_frame noting touched_after touched_weight is_first_touch home_at enter_call looked_up entered places_with is_among is_in cardinality_call cardinality
keys_entered = refl

-- Out of turns: at a call, and after one.
no_turn_to_call : scans 2 looking (Pointer 1) ≡ stops OutOfTurns (a_turn ∷ by_string (codes "a") ∷ a_turn ∷ [])
unfolding scan_turns scan_next scan_call next_key next_string next_int table_of give stop after ◌>>=◌ choose attempt change with_heap take_turn in_frame back_to set call_meant
    frame_of_call fresh_frame noting touched_after touched_weight is_first_touch home_at enter_call looked_up entered places_with is_among is_in cardinality_call cardinality
no_turn_to_call = refl

no_turn_after_a_call : scans 1 looking (Pointer 1) ≡ stops OutOfTurns (a_turn ∷ by_string (codes "a") ∷ [])
unfolding scan_turns scan_next scan_call next_key next_string next_int table_of give stop after ◌>>=◌ choose attempt change with_heap take_turn in_frame back_to set call_meant
    frame_of_call fresh_frame noting touched_after touched_weight is_first_touch home_at enter_call looked_up entered places_with is_among is_in cardinality_call cardinality
no_turn_after_a_call = refl

no_turn_after_the_last : scans 5 looking (Pointer 1) ≡ stops OutOfTurns (a_turn ∷ by_string (codes "a") ∷ a_turn ∷ a_turn ∷ by_string (codes "c") ∷ a_turn ∷ a_turn ∷ by_string (codes "d") ∷ [])
unfolding scan_turns scan_next scan_call next_key next_string next_int table_of give stop after ◌>>=◌ choose attempt change with_heap take_turn in_frame back_to set call_meant
    frame_of_call fresh_frame noting touched_after touched_weight is_first_touch home_at enter_call looked_up entered places_with is_among is_in cardinality_call cardinality
no_turn_after_the_last = refl

-- Traps, on the line of the scan.
nil : scans 9 looking Nil ≡ stops (Trapped trap.Nil at) []
unfolding scan_turns scan_next scan_call next_key next_string next_int table_of give stop after ◌>>=◌ choose attempt change with_heap take_turn in_frame back_to set call_meant
    frame_of_call fresh_frame noting touched_after touched_weight is_first_touch home_at enter_call looked_up entered places_with is_among is_in cardinality_call cardinality
nil = refl

no_table : scans 9 looking (Pointer 0) ≡ stops (Trapped WrongClass at) []
unfolding scan_turns scan_next scan_call next_key next_string next_int table_of give stop after ◌>>=◌ choose attempt change with_heap take_turn in_frame back_to set call_meant
    frame_of_call fresh_frame noting touched_after touched_weight is_first_touch home_at enter_call looked_up entered places_with is_among is_in cardinality_call cardinality
no_table = refl

other_kind : scans 9 looking (Pointer 2) ≡ stops (Trapped KeyKind at) []
unfolding scan_turns scan_next scan_call next_key next_string next_int table_of give stop after ◌>>=◌ choose attempt change with_heap take_turn in_frame back_to set call_meant
    frame_of_call fresh_frame noting touched_after touched_weight is_first_touch home_at enter_call looked_up entered places_with is_among is_in cardinality_call cardinality
other_kind = refl

too_deep : scans 9 (around_with 2000 (λ args h. h) (λ args. true)) (Pointer 1) ≡ stops (Trapped TooDeep at) []
unfolding scan_turns scan_next scan_call next_key next_string next_int table_of give stop after ◌>>=◌ choose attempt change with_heap take_turn in_frame back_to set call_meant
    frame_of_call fresh_frame noting touched_after touched_weight is_first_touch home_at enter_call looked_up entered places_with is_among is_in cardinality_call cardinality
too_deep = refl

deep_enough : scans 9 (around_with 1999 (λ args h. h) is_before_c) (Pointer 1) ≡ counts 2 (a_turn ∷ by_string (codes "a") ∷ a_turn ∷ a_turn ∷ by_string (codes "c") ∷ [])
unfolding scan_turns scan_next scan_call next_key next_string next_int table_of give stop after ◌>>=◌ choose attempt change with_heap take_turn in_frame back_to set call_meant
    frame_of_call fresh_frame noting touched_after touched_weight is_first_touch home_at enter_call looked_up entered places_with is_among is_in cardinality_call cardinality
deep_enough = refl

last_number_of_calls : shown_of (scan_by 4 true looking (Pointer 1) None (Some (string_key (codes "c"))) 2147483646 (begun 4)) ≡ counts 2147483647 (a_turn ∷ by_string (codes "d") ∷ a_turn ∷ [])
unfolding scan_turns scan_next scan_call next_key next_string next_int table_of give stop after ◌>>=◌ choose attempt change with_heap take_turn in_frame back_to set call_meant
    frame_of_call fresh_frame noting touched_after touched_weight is_first_touch home_at enter_call looked_up entered places_with is_among is_in cardinality_call cardinality
last_number_of_calls = refl

one_call_too_many : shown_of (scan_by 9 true looking (Pointer 1) None (Some (string_key (codes "a"))) 2147483646 (begun 9)) ≡ stops (Trapped Overflow at) (a_turn ∷ by_string (codes "c") ∷ a_turn ∷ [])
unfolding scan_turns scan_next scan_call next_key next_string next_int table_of give stop after ◌>>=◌ choose attempt change with_heap take_turn in_frame back_to set call_meant
    frame_of_call fresh_frame noting touched_after touched_weight is_first_touch home_at enter_call looked_up entered places_with is_among is_in cardinality_call cardinality
one_call_too_many = refl

-- The value under a key that is found is touched, also where a trap or the want of a turn keeps the scan from calling; the scope of the procedure only where it
-- is called.
abbrev counted_of : Outcome → ℕ
counted_of (Value_is v frame state) = state.store.held.counted
counted_of (Ends e state) = state.store.held.counted

abbrev untouched : ℕ → State
untouched turns = begun_with (record held { touched = [] }) turns

touched_without_a_turn : counted_of (scan_by 0 true looking (Pointer 1) (Some 4) None 0 (untouched 0)) ≡ 112
unfolding scan_turns scan_next scan_call next_key next_string next_int table_of give stop after ◌>>=◌ choose attempt change with_heap take_turn in_frame back_to set call_meant
    frame_of_call fresh_frame noting touched_after touched_weight is_first_touch home_at enter_call looked_up entered places_with is_among is_in cardinality_call cardinality
touched_without_a_turn = refl

touched_though_too_deep : counted_of (scan_by 9 true (around_with 2000 (λ args h. h) (λ args. true)) (Pointer 1) (Some 4) None 0 (untouched 9)) ≡ 112
unfolding scan_turns scan_next scan_call next_key next_string next_int table_of give stop after ◌>>=◌ choose attempt change with_heap take_turn in_frame back_to set call_meant
    frame_of_call fresh_frame noting touched_after touched_weight is_first_touch home_at enter_call looked_up entered places_with is_among is_in cardinality_call cardinality
touched_though_too_deep = refl

value_touched_before_overflow : counted_of (scan_by 9 true looking (Pointer 1) (Some 4) None 2147483647 (untouched 9)) ≡ 112
unfolding scan_turns scan_next scan_call next_key next_string next_int table_of give stop after ◌>>=◌ choose attempt change with_heap take_turn in_frame back_to set call_meant
    frame_of_call fresh_frame noting touched_after touched_weight is_first_touch home_at enter_call looked_up entered places_with is_among is_in cardinality_call cardinality
value_touched_before_overflow = refl

-- Ints from 1 on are entered, the even ones taken out again, and the rest is scanned.
entered_from : ℕ → ℕ → Held → Held
entered_from key zero h = h
entered_from key (suc n) h = entered_from (suc key) n (held_by h (enter_call (int_key (pos key)) (Pointer 3) (Pointer 0) h))

evens_out : ℕ → ℕ → Held → Held
evens_out key zero h = h
evens_out key (suc n) h = evens_out (suc (suc key)) n (held_by h (enter_call (int_key (pos key)) (Pointer 3) Nil h))

odds : Held
odds = evens_out 2 50 (entered_from 1 100 held)

-- whether what was seen is calls with odd numbers from one on, and turns
odd_from : ℕ → List Event → Bool
odd_from n [] = true
odd_from n (Turn counted ∷ seen) = odd_from n seen
odd_from n (Out (key ∷ bytes) counted ∷ seen) = if nat_eq key n then odd_from (suc (suc n)) seen else false
odd_from n (event ∷ seen) = false

scanned_odds : Outcome
scanned_odds = scan_by 100 false looking (Pointer 3) None None 0 (begun_with odds 100)

half_of_them : (shown_of scanned_odds).answers ≡ Some 50
unfolding scan_turns scan_next scan_call next_key next_string next_int table_of give stop after ◌>>=◌ choose attempt change with_heap take_turn in_frame back_to set call_meant
    frame_of_call fresh_frame noting touched_after touched_weight is_first_touch home_at enter_call looked_up entered places_with is_among is_in cardinality_call cardinality odds entered_from evens_out scanned_odds odd_from
half_of_them = refl

each_odd_number_in_order : odd_from 1 (shown_of scanned_odds).seen ≡ true
unfolding scan_turns scan_next scan_call next_key next_string next_int table_of give stop after ◌>>=◌ choose attempt change with_heap take_turn in_frame back_to set call_meant
    frame_of_call fresh_frame noting touched_after touched_weight is_first_touch home_at enter_call looked_up entered places_with is_among is_in cardinality_call cardinality odds entered_from evens_out scanned_odds odd_from
each_odd_number_in_order = refl

half_are_left : value_by (cardinality_call (Pointer 3) odds) ≡ Num (pos 50)
unfolding scan_turns scan_next scan_call next_key next_string next_int table_of give stop after ◌>>=◌ choose attempt change with_heap take_turn in_frame back_to set call_meant
    frame_of_call fresh_frame noting touched_after touched_weight is_first_touch home_at enter_call looked_up entered places_with is_among is_in cardinality_call cardinality odds entered_from evens_out scanned_odds odd_from
half_are_left = refl

-- What a clause does: from the locals and the state that it finds to a value, or to the end of the run.
use Rattle.std.specs.Prelude.{ℕ, zero, suc, ◌+◌, ◌-◌, ◌^◌, ℤ, pos, negsuc, Bool, true, false, List, [], ◌∷◌, ◌++◌, length, replicate, nat_eq, nat_lt, Option, Some, None, if◌then◌else◌}
use Rattle.ps_base.specs.Limits.{most_width}
use Rattle.ps_base.specs.TyView.{TyView}
use Rattle.ps_base.specs.declared.line.Line.{Line}
use Rattle.ps_base.specs.declared.trap.Trap.TheVariants.{TooLong}
use Rattle.ps_typing.specs.ps_program.declared.place.Place.{Place}
use Rattle.ps_typing.specs.ps_program.declared.place.Place.TheVariants.{Plain, Kept}
use Rattle.ps_typing.specs.ps_program.Node.{BodyNode}
use Rattle.ps_typing.specs.Placing.{is_number}
use Rattle.ps_heap.specs.Values.{Value, Num, Text, Procedure, Nothing, as_written}
use Rattle.ps_heap.specs.Operators.{Answer, Gives, Traps}
use Rattle.ps_heap.specs.Texts.{Attempt, Yields, Fails}
use Rattle.ps_heap.specs.Objects.{Heap, Object, new_number}
use Rattle.ps_heap.specs.Scopes.{new_scope, kept_name}
use Rattle.ps_heap.specs.Weights.{text_weight, closure_weight}
use Rattle.ps_heap.specs.Held.{Held, counting, assigning, touching, reading, reading_name, assigned_name}
use Rattle.ps_heap.specs.References.{scope_ids}
use Rattle.ps_heap.specs.Held as held
use Rattle.ps_heap.specs.Calls as calls
use Rattle.ps_heap.specs.Ends.{End, Trapped, OutOfTurns}
use Rattle.ps_heap.specs.Events.{Event, Out, Turn}

-- The locals of a body, ints and bools in one row and all else in the other, and the scope that a clause stands in.
pub record Frame : Type 0 where
  pub nums : ℕ → Value
  pub refs : ℕ → Value
  pub scope : Option ℕ

-- What a run has beside its locals: the turns that are left, the input that is left, and what it holds of heap and databases, with its counted bytes.
pub record Store : Type 0 where
  pub turns : ℕ
  pub input : List ℕ
  pub held : Held

-- what a run has done so far, oldest first, and what it holds
pub record State : Type 0 where
  pub events : List Event
  pub store : Store

-- what a clause returns: a value, or the end of the run
pub data Outcome : Type 0 where
  Value_is : (value : Value) (frame : Frame) (state : State) → Outcome
  Ends : (end_of_run : End) (state : State) → Outcome

abbrev pub Meaning : Type 0
Meaning = Frame → State → Outcome

unfoldable pub give : Value → Meaning
give v frame state = Value_is v frame state

unfoldable pub stop : End → Meaning
stop e frame state = Ends e state

unfoldable pub after : Outcome → (Value → Meaning) → Outcome
after (Value_is v frame state) next = next v frame state
after (Ends e state) next = Ends e state

-- the first, and then the second with the value of the first
infixr 10 ◌>>=◌
unfoldable pub ◌>>=◌ : Meaning → (Value → Meaning) → Meaning
◌>>=◌ first next frame state = after (first frame state) next

unfoldable pub choose : Bool → Meaning → Meaning → Meaning
choose true a b = a
choose false a b = b

-- the value of an operator, or its trap on this line
unfoldable pub answer : Line → Answer → Meaning
answer line (Gives z) = give (Num z)
answer line (Traps trap) = stop (Trapped trap line)

-- goes on with what an operation yields, or ends in its trap on this line
unfoldable pub attempt : {A : Type 0} → Line → Attempt A → (A → Meaning) → Meaning
attempt line (Yields a) next = next a
attempt line (Fails trap) next = stop (Trapped trap line)

-- the objects, and how many bytes are counted
abbrev pub heap_in : Store → Heap
heap_in store = store.held.objects

abbrev pub counted_in : Store → ℕ
counted_in store = store.held.counted

-- goes on with the heap as it is
unfoldable pub with_heap : (Heap → Meaning) → Meaning
with_heap next frame state = next (heap_in state.store) frame state

-- the store with this held; where an object is made, where a text is, where a procedure value is; and where the input is this one
abbrev pub on_held : Held → Store → Store
on_held held store = record store { held = held }

abbrev pub and_object : Object → Store → Store
and_object object store = on_held (held.made object store.held) store

abbrev pub and_text : List ℕ → Store → Store
and_text bytes store = on_held (counting (text_weight bytes) store.held) store

abbrev pub and_closure : Store → Store
and_closure store = on_held (counting closure_weight store.held) store

abbrev pub on_input : List ℕ → Store → Store
on_input input store = record store { input = input }

abbrev pub holding : State → Store → State
holding state store = record state { store = store }

-- goes on with another thing held, and gives this
unfoldable pub change : Value → (Held → Held) → Meaning
change v does frame state = Value_is v frame (holding state (on_held (does state.store.held) state.store))

-- these objects are touched
abbrev pub touch : List ℕ → Meaning
touch ids = change Nothing (touching ids)

-- the scope that the clause stands in is touched
abbrev pub touch_scope : Meaning
touch_scope frame state = touch (scope_ids frame.scope) frame state

-- a value is given that was read from a place: the object that it denotes is touched
abbrev pub read : Value → Meaning
read v = change v (reading v)

-- a place is assigned, and this is the heap from now on
abbrev pub assign : held.Place → Heap → Meaning
assign place heap = change Nothing (assigning place heap)

-- what a call of the library answers, with its events
abbrev pub answering : calls.Answer → State → State
answering a state = record { events = state.events ++ a.events; store = on_held a.held state.store }

unfoldable pub put_answer : calls.Answer → Meaning
put_answer a frame state = Value_is a.value frame (answering a state)

-- a call of the library, on what is held
unfoldable pub answered : Line → (Held → Attempt calls.Answer) → Meaning
answered line call frame state = attempt line (call state.store.held) put_answer frame state

-- a new object is made, and its value given
unfoldable pub made : (ℕ → Value) → Object → Meaning
made denoting object frame state = Value_is (denoting (new_number (heap_in state.store))) frame (holding state (and_object object state.store))

-- a new text is made
unfoldable pub made_text : List ℕ → Meaning
made_text bytes frame state = Value_is (Text bytes) frame (holding state (and_text bytes state.store))

-- a procedure with this body is made, in the scope that the clause stands in
unfoldable pub made_procedure : BodyNode → Meaning
made_procedure of frame state = Value_is (Procedure (as_written of) frame.scope) frame (holding state (and_closure state.store))

-- goes on with the input that is left
unfoldable pub with_input : (List ℕ → Meaning) → Meaning
with_input next frame state = next state.store.input frame state

-- this is the input that is left from now on
unfoldable pub put_input : List ℕ → Meaning
put_input input frame state = Value_is Nothing frame (holding state (on_input input state.store))

-- a new scope inside the one that the clause stands in
unfoldable pub enter : List ℕ → Meaning
enter text frame state =
    Value_is Nothing (record frame { scope = Some (new_number (heap_in state.store)) }) (holding state (and_object (new_scope text frame.scope) state.store))

-- back in a scope, and back in a frame, with the value of what was inside
unfoldable pub back_in : Option ℕ → Outcome → Outcome
back_in scope (Value_is v frame state) = Value_is v (record frame { scope = scope }) state
back_in scope (Ends e state) = Ends e state

unfoldable pub back_to : Frame → Outcome → Outcome
back_to own (Value_is v frame state) = Value_is v own state
back_to own (Ends e state) = Ends e state

-- inside a new scope of this text; after it the scope is the one before
unfoldable pub scoped : List ℕ → Meaning → Meaning
scoped text meant frame state = back_in frame.scope ((enter text >>= λ u. meant) frame state)

-- inside a new scope, where there is the text of one
abbrev pub in_scope : Option (List ℕ) → Meaning → Meaning
in_scope None meant = meant
in_scope (Some text) meant = scoped text meant

-- in another frame; after it the frame is the one before
unfoldable pub in_frame : Frame → Meaning → Meaning
in_frame other meant frame state = back_to frame (meant other state)

abbrev pub some_out : List ℕ → ℕ → List Event
some_out [] counted = []
some_out (byte ∷ bytes) counted = Out (byte ∷ bytes) counted ∷ []

abbrev pub told : State → List Event → State
told state events = record state { events = state.events ++ events }

unfoldable pub emit : List ℕ → Meaning
emit bytes frame state = Value_is Nothing frame (told state (some_out bytes (counted_in state.store)))

-- The blanks before a text of so many bytes, right in so many places: none where the width is no greater.
abbrev pub blanks_before : ℤ → ℕ → ℕ
blanks_before (pos width) n = width - n
blanks_before (negsuc width) n = 0

-- a text right in its places, where a width says so
abbrev pub in_places : Option ℤ → List ℕ → List ℕ
in_places None text = text
in_places (Some width) text = replicate (blanks_before width (length text)) 32 ++ text

-- a width is at most `most_width`
abbrev pub is_width : Option ℤ → Bool
is_width None = true
is_width (Some (pos width)) = nat_lt width (most_width + 1)
is_width (Some (negsuc width)) = true

-- writes a text; the width is tested before anything is written
unfoldable pub written : Line → Option ℤ → List ℕ → Meaning
written line width text = if is_width width then emit (in_places width text) else stop (Trapped TooLong line)

-- what is held after a turn more, where one is left
abbrev pub with_turns : Store → ℕ → Option Store
with_turns store zero = None
with_turns store (suc left) = Some (record store { turns = left })

abbrev pub spent : Store → Option Store
spent store = with_turns store store.turns

abbrev pub turned : Option Store → Meaning
turned None frame state = Ends OutOfTurns state
turned (Some store) frame state = Value_is Nothing frame (record { events = state.events ++ Turn (counted_in store) ∷ []; store = store })

-- one turn of those that are left
unfoldable pub take_turn : Meaning
take_turn frame state = turned (spent state.store) frame state

-- a row of locals in which this one has another value
abbrev pub with_local : {A : Type 0} → (ℕ → A) → ℕ → A → ℕ → A
with_local row slot v s = if nat_eq s slot then v else row s

abbrev pub local_of : Frame → TyView → ℕ → Value
local_of frame ty slot = if is_number ty then frame.nums slot else frame.refs slot

abbrev pub frame_with : Frame → TyView → ℕ → Value → Frame
frame_with frame ty slot v =
    if is_number ty then record frame { nums = with_local frame.nums slot v } else record frame { refs = with_local frame.refs slot v }

-- The value of the name at a place, which is of this type, and its assignment. Where it is kept, scopes are touched, and what its value denotes.
unfoldable pub get : Place → TyView → Meaning
get (Plain slot) ty frame state = Value_is (local_of frame ty slot) frame state
get (Kept up position) ty frame state = change (kept_name (heap_in state.store) frame.scope up position) (reading_name frame.scope up position) frame state

unfoldable pub set : Place → TyView → Value → Meaning
set (Plain slot) ty v frame state = Value_is Nothing (frame_with frame ty slot v) state
set (Kept up position) ty v frame state = change Nothing (assigned_name frame.scope up position v) frame state

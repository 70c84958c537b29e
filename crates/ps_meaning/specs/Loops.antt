-- Loops by `while`, `repeat` and `for`, and scans.
use Rattle.std.specs.Prelude.{ℕ, zero, suc, ◌+◌, ℤ, pos, negsuc, ◌+ℤ◌, Bool, true, false, ◌&&◌, int_le, nat_eq, List, [], ◌∷◌, Option, Some, None, if◌then◌else◌}
use Rattle.ps_base.specs.TyView as ty
use Rattle.ps_base.specs.declared.line.Line.{Line}
use Rattle.ps_base.specs.declared.trap.Trap.TheVariants.{Overflow, Bounds}
use Rattle.ps_typing.specs.ps_program.declared.place.Place.{Place}
use Rattle.ps_typing.specs.ps_program.declared.place.Place.TheVariants.{Plain}
use Rattle.ps_typing.specs.Library.{caller}
use Rattle.ps_heap.specs.Operators.{is_int, is_same}
use Rattle.ps_heap.specs.Ends.{Trapped, OutOfTurns}
use Rattle.ps_heap.specs.Values.{Value, Num, Text, Nothing, word_of, flag_of}
use Rattle.ps_heap.specs.Tables.{Key, string_key, int_key}
use Rattle.ps_heap.specs.Scans.{Found, most_scan_calls, next_key, scan_arguments}
use Rattle.ps_meaning.specs.Meaning.{Meaning, give, stop, ◌>>=◌, choose, attempt, with_heap, touch, in_scope, take_turn, set}

-- The test, and as long as it is true a turn, the clause, and the test again. Where the bound is 0 no turn is left.
unfoldable pub while_turns : ℕ → Meaning → Meaning → Meaning
while_turns zero test clause = test >>= λ v. choose (flag_of v) (stop OutOfTurns) (give Nothing)
while_turns (suc n) test clause =
    test >>= λ v. choose (flag_of v) (take_turn >>= λ t. clause >>= λ u. while_turns n test clause) (give Nothing)

-- a loop by `for` that has begun: where it counts, the scope of each turn, its control, and its limit and its step, which stay as they are
pub record Counting : Type 0 where
  pub slot : ℕ
  pub scope : Option (List ℕ)
  pub control : Place
  pub limit : ℤ
  pub step : ℤ

-- whether a step of this sign goes up
abbrev pub is_up : ℤ → Bool
is_up (pos n) = true
is_up (negsuc n) = false

-- whether the loop goes on with this number: it is an int, and not past the limit
abbrev pub goes_on : ℤ → ℤ → ℤ → Bool
goes_on limit step z = is_int z && (if is_up step then int_le z limit else int_le limit z)

-- what is done in a turn: the clause with this number as the control, in a scope of its own
abbrev pub in_turn : Counting → Meaning → ℤ → Meaning
in_turn loop clause z = in_scope loop.scope (set loop.control ty.Int (Num z) >>= λ u. clause)

-- A turn with this number as the control, and the turns after it, where the loop goes on. Where the bound is 0 no turn is left.
unfoldable pub for_turns : ℕ → Counting → Meaning → ℤ → Meaning
for_turns zero loop clause z = stop OutOfTurns
for_turns (suc n) loop clause z =
    take_turn >>= λ t. in_turn loop clause z >>= λ u.
    choose (goes_on loop.limit loop.step (z +ℤ loop.step))
    (set (Plain loop.slot) ty.Int (Num (z +ℤ loop.step)) >>= λ u. for_turns n loop clause (z +ℤ loop.step))
    (give Nothing)

unfoldable pub for_loop : ℕ → Line → Counting → Meaning → ℤ → Meaning
for_loop n line loop clause start =
    choose (is_same loop.step (pos 0)) (stop (Trapped Bounds line))
    (choose (goes_on loop.limit loop.step start) (for_turns n loop clause start) (give Nothing))

-- The start, the limit and the step are evaluated once, in this order, and stand in three locals from a slot on.
unfoldable pub for_meant : ℕ → Line → ℕ → Option (List ℕ) → Place → Meaning → Meaning → Meaning → Meaning → Meaning
for_meant n line slot scope control a b c clause =
    a >>= λ start. set (Plain slot) ty.Int start >>= λ u.
    b >>= λ limit. set (Plain (slot + 1)) ty.Int limit >>= λ u.
    c >>= λ step. set (Plain (slot + 2)) ty.Int step >>= λ u.
    for_loop n line (record { slot = slot; scope = scope; control = control; limit = word_of limit; step = word_of step }) clause (word_of start)

-- A scan that has begun: whether its keys are strings, from where on it has three locals in each row, the table, and what calls its procedure. The locals
-- hold the table, the procedure and the last key where it is a string; the count, the last key where it is an int, and whether there is one.
pub record Scanning : Type 0 where
  pub line : Line
  pub strings : Bool
  pub refs : ℕ
  pub nums : ℕ
  pub table : Value
  pub call : List Value → Meaning

abbrev pub set_last : Scanning → Key → Meaning
set_last scan (string_key bytes) = set (Plain (scan.refs + 2)) ty.Str (Text bytes)
set_last scan (int_key z) = set (Plain (scan.nums + 1)) ty.Int (Num z)

-- The procedure is called with a key and its value; where it answers true a turn is taken before a further key is looked for, and else it was the last call.
unfoldable pub scan_call : Scanning → ℕ → (Key → Meaning) → Found → Meaning
scan_call scan count again found =
    set_last scan found.key >>= λ u. set (Plain (scan.nums + 2)) ty.Int (Num (pos 1)) >>= λ u.
    scan.call (scan_arguments found) >>= λ more.
    set (Plain scan.nums) ty.Int (Num (pos (suc count))) >>= λ u.
    choose (flag_of more) (take_turn >>= λ t. again found.key) (give (Num (pos (suc count))))

-- after so many calls: what is under the next key is touched, and the number of calls is tested, before the call
unfoldable pub scan_next : Scanning → ℕ → (Key → Meaning) → Option Found → Meaning
scan_next scan count again None = give (Num (pos count))
scan_next scan count again (Some found) =
    touch (found.object ∷ []) >>= λ u.
    choose (nat_eq count most_scan_calls) (stop (Trapped Overflow scan.line)) (scan_call scan count again found)

-- A scan from a key on, on the table as it then is, after so many calls. Where the bound is 0 no turn is left.
unfoldable pub scan_turns : ℕ → Scanning → Option Key → ℕ → Meaning
scan_turns zero scan last count =
    with_heap (λ heap. attempt scan.line (next_key scan.strings heap scan.table last) (scan_next scan count (λ key. stop OutOfTurns)))
scan_turns (suc n) scan last count =
    with_heap (λ heap. attempt scan.line (next_key scan.strings heap scan.table last) (scan_next scan count (λ key. scan_turns n scan (Some key) (suc count))))

-- the table and the procedure are evaluated once, in this order, and stand in locals
unfoldable pub begin_scan : Bool → ℕ → ℕ → Meaning → Meaning → (Value → Value → Meaning) → Meaning
begin_scan strings refs nums a f next =
    a >>= λ table. set (Plain refs) ty.Pntr table >>= λ u.
    f >>= λ procedure. set (Plain (refs + 1)) (caller (if strings then ty.Str else ty.Int)) procedure >>= λ u.
    set (Plain nums) ty.Int (Num (pos 0)) >>= λ u. set (Plain (nums + 1)) ty.Int (Num (pos 0)) >>= λ u.
    set (Plain (nums + 2)) ty.Int (Num (pos 0)) >>= λ u. next table procedure

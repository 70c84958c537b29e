-- What the machine does with instructions of scans. A scan has three locals of references, the table, the procedure and the last key that is a string, and
-- three of numbers, the count, the last key that is an int, and whether there is a last key.
use Rattle.std.specs.Prelude.{ℕ, ◌+◌, ◌^◌, ℤ, pos, negsuc, ◌+ℤ◌, Bool, true, false, ◌&&◌, List, [], ◌∷◌, length, nat_lt, Option, Some, None, if◌then◌else◌}
use Rattle.ps_code.specs.ps_base.declared.line.Line.{Line}
use Rattle.ps_code.specs.ps_base.declared.trap.Trap.TheVariants.{Overflow}
use Rattle.ps_heap.specs.Operators.{is_int, is_same}
use Rattle.ps_heap.specs.Ends.{Trapped}
use Rattle.ps_heap.specs.Values.{Value, Pointer, is_one, word_of, bytes_of}
use Rattle.ps_heap.specs.Tables.{Key, string_key, int_key}
use Rattle.ps_heap.specs.Held.{Held, touched_weight, touching}
use Rattle.ps_heap.specs.Scans.{Found, most_scan_calls, next_key, shown_key}
use Rattle.ps_stepping.specs.Config.{frame_words, Config, frame_in}
use Rattle.ps_stepping.specs.Steps.{Step, Stops, Stuck, on, pop_num, is_num_slot, is_ref_slot, with_num, with_ref, attempted}
use Rattle.ps_stepping.specs.Objects.{having, object_of}
use Rattle.ps_stepping.specs.Jumps.{forward, back}

-- goes on with a value pushed on a stack, where it has room
abbrev pub with_pushed : Value → Config → (Config → Step) → Step
with_pushed v c next = if nat_lt ((frame_in c.unit).refs + length c.refs) frame_words then next (record c { refs = v ∷ c.refs }) else Stuck

abbrev pub with_pushed_num : ℤ → Config → (Config → Step) → Step
with_pushed_num z c next = if nat_lt ((frame_in c.unit).nums + length c.nums) frame_words then next (record c { nums = z ∷ c.nums }) else Stuck

-- the key that the scan was at last
abbrev pub last_key : Bool → ℕ → ℕ → Config → Key
last_key true q s c = string_key (bytes_of (c.locals.refs (q + 2)))
last_key false q s c = int_key (c.locals.nums (s + 1))

abbrev pub last_of : Bool → ℕ → ℕ → Config → Option Key
last_of strings q s c = if is_one (c.locals.nums (s + 2)) then Some (last_key strings q s c) else None

-- with this as the last key, which is pushed between the procedure and the value under it
abbrev pub called_with : Bool → ℕ → ℕ → Value → ℕ → Config → Step
called_with true q s key object c =
    with_pushed (c.locals.refs (q + 1)) (with_num (with_ref c (q + 2) key) (s + 2) (pos 1)) (λ d.
    with_pushed key d (λ e. with_pushed (Pointer object) e on))
called_with false q s key object c =
    with_pushed (c.locals.refs (q + 1)) (with_num (with_num c (s + 1) (word_of key)) (s + 2) (pos 1)) (λ d.
    with_pushed_num (word_of key) d (λ e. with_pushed (Pointer object) e on))

-- how many bytes objects weigh that are touched
abbrev pub touched_now : List ℕ → Held → ℕ
touched_now ids h = touched_weight h.weigh h.objects h.homes ids h.touched

-- the value under the next key is touched, and the number of calls tested, before the call
abbrev pub scan_found : Bool → ℕ → ℕ → ℕ → ℕ → Line → Option Found → Config → Step
scan_found strings own q s to line None c = forward own to c
scan_found strings own q s to line (Some found) c =
    if is_same (c.locals.nums s) (pos most_scan_calls) then Stops (Trapped Overflow line) (touched_now (found.object ∷ []) c.store.held)
    else called_with strings q s (shown_key found.key) found.object (having (touching (found.object ∷ [])) c)

-- the next key of the table is looked for
abbrev pub scan_on : Bool → ℕ → ℕ → ℕ → ℕ → Line → Config → Step
scan_on strings own q s to line c =
    if is_ref_slot c (q + 2) && is_num_slot c (s + 2) then
    object_of (c.locals.refs q) c (λ table d.
    attempted line (next_key strings d.store.held.objects table (last_of strings q s d)) (λ found. scan_found strings own q s to line found d)) else Stuck

-- a count of 32 bits with one more
abbrev pub one_more : ℤ → ℤ
one_more z = if is_int (z +ℤ pos 1) then z +ℤ pos 1 else negsuc 2147483647

-- what the procedure answered is popped, and the count is one more
abbrev pub scan_more : ℕ → ℕ → ℕ → Config → Step
scan_more own s to c =
    pop_num c (λ more d.
    if is_num_slot d (s + 2) then
    (if is_one more then back own to (with_num d s (one_more (d.locals.nums s))) else on (with_num d s (one_more (d.locals.nums s)))) else Stuck)

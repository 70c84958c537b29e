-- What jumps, and the instructions of scans, take from the stacks and leave on them.
use Rattle.std.proofs.Common.{◌≡◌, ℕ, suc, ◌+◌, ℤ, Bool, true, false, List, [], ◌∷◌, length, Option, Some, None, refl, ap, arith}
use Rattle.std.specs.Prelude.{◌⊎◌, ◌&&◌, pos, nat_lt, if◌then◌else◌}
use Rattle.ps_code.specs.ps_base.declared.line.Line.{Line}
use Rattle.ps_code.specs.ps_base.declared.trap.Trap.TheVariants.{Overflow}
use Rattle.ps_heap.specs.Operators.{is_same}
use Rattle.ps_heap.specs.Ends.{Trapped}
use Rattle.ps_heap.specs.Values.{Value, Pointer, is_one, word_of}
use Rattle.ps_heap.specs.Values as value
use Rattle.ps_heap.specs.Held.{touching}
use Rattle.ps_heap.specs.Scans.{Found, most_scan_calls, next_key, shown_key}
use Rattle.ps_meaning.specs.Meaning.{Store, spent}
use Rattle.ps_stepping.specs.Config.{frame_words, Config, frame_in}
use Rattle.ps_stepping.specs.Steps.{Step, Stops, Stuck, on, is_num_slot, is_ref_slot, with_num, with_ref, attempted}
use Rattle.ps_stepping.specs.Objects.{having, object_of}
use Rattle.ps_stepping.specs.Jumps.{forward, turn_to, back}
use Rattle.ps_stepping.specs.Scans.{touched_now, with_pushed, with_pushed_num, last_of, called_with, scan_found, scan_on, one_more, scan_more}
use Rattle.ps_stepping.specs.Effects.{Effect, either, nums, nothing, HasEffect}
use Rattle.ps_stepping.proofs.Popping.{Does, does_if, popped_num}
use Rattle.ps_stepping.proofs.ObjectEffects.{does_attempted}

pub does_turn : (e : Effect) (c d : Config) (to : ℕ) (store : Option Store) →
    ((next : Config) → next.nums ≡ d.nums → next.refs ≡ d.refs → HasEffect e c next) → Does e c (turn_to store to d)
does_turn e c d to None h = tt
does_turn e c d to (Some store) h = h _ refl refl

pub does_forward : (own to : ℕ) (c : Config) → Does nothing c (forward own to c)
does_forward own to c = does_if nothing c (nat_lt own to) (on (record c { at = to })) Stuck (record { nums = refl; refs = refl }) tt

pub does_back : (own to : ℕ) (c : Config) → Does nothing c (back own to c)
does_back own to c =
    does_if nothing c (nat_lt to own) (turn_to (spent c.store) to c) Stuck
    (does_turn nothing c c to (spent c.store) (λ next n r. record { nums = omega (arith, ap length n); refs = omega (arith, ap length r) })) tt

-- where there is room, a value is pushed
does_pushed : (e : Effect) (c d : Config) (v : Value) (next : Config → Step) → Does e c (next (record d { refs = v ∷ d.refs })) → Does e c (with_pushed v d next)
does_pushed e c d v next h = does_if e c (nat_lt ((frame_in d.unit).refs + length d.refs) frame_words) (next (record d { refs = v ∷ d.refs })) Stuck h tt

does_pushed_num : (e : Effect) (c d : Config) (z : ℤ) (next : Config → Step) → Does e c (next (record d { nums = z ∷ d.nums })) → Does e c (with_pushed_num z d next)
does_pushed_num e c d z next h = does_if e c (nat_lt ((frame_in d.unit).nums + length d.nums) frame_words) (next (record d { nums = z ∷ d.nums })) Stuck h tt

-- nil or a structure or table stands in a local
does_object : (e : Effect) (c : Config) (v : Value) (next : Value → Config → Step) → ((w : Value) → Does e c (next w c)) → Does e c (object_of v c next)
does_object e c (value.Text bytes) next h = tt
does_object e c (value.Num z) next h = tt
does_object e c (value.Flag b) next h = tt
does_object e c value.Nil next h = h value.Nil
does_object e c (value.Pointer o) next h = h (value.Pointer o)
does_object e c (value.Vector o) next h = tt
does_object e c (value.Procedure b o) next h = tt
does_object e c value.Nothing next h = tt

-- the instruction goes on to a call, or jumps
abbrev scans : Bool → Effect
scans true = either (record { nums_taken = 0; nums_left = 0; refs_taken = 0; refs_left = 3 }) (record { nums_taken = 0; nums_left = 0; refs_taken = 0; refs_left = 0 })
scans false = either (record { nums_taken = 0; nums_left = 1; refs_taken = 0; refs_left = 2 }) (record { nums_taken = 0; nums_left = 0; refs_taken = 0; refs_left = 0 })

does_called : (strings : Bool) (q s : ℕ) (key : Value) (object : ℕ) (c d : Config) → d.nums ≡ c.nums → d.refs ≡ c.refs →
    Does (scans strings) c (called_with strings q s key object d)
does_called true q s key object c d on_nums on_refs =
    let e = scans true in
    let first = with_num (with_ref d (q + 2) key) (s + 2) (pos 1) in
    let second : Config = record first { refs = d.locals.refs (q + 1) ∷ d.refs } in
    let third : Config = record first { refs = key ∷ d.locals.refs (q + 1) ∷ d.refs } in
    does_pushed e c first (d.locals.refs (q + 1)) (λ f. with_pushed key f (λ g. with_pushed (Pointer object) g on))
    (does_pushed e c second key (λ g. with_pushed (Pointer object) g on)
    (does_pushed e c third (Pointer object) on
    (◌⊎◌.inl (record { nums = omega (arith, ap length on_nums); refs = omega (arith, ap length on_refs) }))))
does_called false q s key object c d on_nums on_refs =
    let e = scans false in
    let first = with_num (with_num d (s + 1) (word_of key)) (s + 2) (pos 1) in
    let second : Config = record first { refs = d.locals.refs (q + 1) ∷ d.refs } in
    let third : Config = record second { nums = word_of key ∷ d.nums } in
    does_pushed e c first (d.locals.refs (q + 1)) (λ f. with_pushed_num (word_of key) f (λ g. with_pushed (Pointer object) g on))
    (does_pushed_num e c second (word_of key) (λ g. with_pushed (Pointer object) g on)
    (does_pushed e c third (Pointer object) on
    (◌⊎◌.inl (record { nums = omega (arith, ap length on_nums); refs = omega (arith, ap length on_refs) }))))

does_scan_found : (strings : Bool) (own q s to : ℕ) (line : Line) (found : Option Found) (c : Config) →
    Does (scans strings) c (scan_found strings own q s to line found c)
does_scan_found true own q s to line None c =
    does_if (scans true) c (nat_lt own to) (on (record c { at = to })) Stuck (◌⊎◌.inr (record { nums = refl; refs = refl })) tt
does_scan_found false own q s to line None c =
    does_if (scans false) c (nat_lt own to) (on (record c { at = to })) Stuck (◌⊎◌.inr (record { nums = refl; refs = refl })) tt
does_scan_found strings own q s to line (Some found) c =
    does_if (scans strings) c (is_same (c.locals.nums s) (pos most_scan_calls)) (Stops (Trapped Overflow line) (touched_now (found.object ∷ []) c.store.held))
    (called_with strings q s (shown_key found.key) found.object (having (touching (found.object ∷ [])) c)) tt
    (does_called strings q s (shown_key found.key) found.object c (having (touching (found.object ∷ [])) c) refl refl)

pub does_scan_on : (strings : Bool) (own q s to : ℕ) (line : Line) (c : Config) → Does (scans strings) c (scan_on strings own q s to line c)
does_scan_on strings own q s to line c =
    let find : Value → Config → Step =
    λ table d. attempted line (next_key strings d.store.held.objects table (last_of strings q s d)) (λ found. scan_found strings own q s to line found d) in
    does_if (scans strings) c (is_ref_slot c (q + 2) && is_num_slot c (s + 2)) (object_of (c.locals.refs q) c find) Stuck
    (does_object (scans strings) c (c.locals.refs q) find
    (λ table. does_attempted (scans strings) c line (next_key strings c.store.held.objects table (last_of strings q s c))
    (λ found. scan_found strings own q s to line found c) (λ found. does_scan_found strings own q s to line found c)))
    tt

pub does_scan_more : (own s to : ℕ) (c : Config) → Does (nums 1 0) c (scan_more own s to c)
does_scan_more own s to c =
    popped_num (nums 1 0) c c
    (λ more d. if is_num_slot d (s + 2) then
    (if is_one more then back own to (with_num d s (one_more (d.locals.nums s))) else on (with_num d s (one_more (d.locals.nums s)))) else Stuck)
    (λ more rest is.
    let d : Config = with_num (record c { nums = rest }) s (one_more (c.locals.nums s)) in
    does_if (nums 1 0) c (is_num_slot (record c { nums = rest }) (s + 2)) (if is_one more then back own to d else on d) Stuck
    (does_if (nums 1 0) c (is_one more) (back own to d) (on d)
    (does_if (nums 1 0) c (nat_lt to own) (turn_to (spent d.store) to d) Stuck
    (does_turn (nums 1 0) c d to (spent d.store) (λ next n r. record { nums = omega (arith, ap length is, ap length n); refs = omega (arith, ap length r) })) tt)
    (record { nums = omega (arith, ap length is); refs = refl })) tt)

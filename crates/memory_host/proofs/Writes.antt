-- The writes among the calls that are kept.
use Rattle.std.proofs.Common.{◌≡◌, ℕ, ◌+◌, ◌-◌, ◌<◌, ◌≤◌, List, [], ◌∷◌, length, get_or, take, drop, sum_by, reverse, if◌then◌else◌, refl, sym, ◌∙◌, ap, arith}
use Rattle.std.proofs.lemmas.List.{reverse-append, take_more}
use Rattle.std.proofs.lemmas.List.Sums.{sum_by-cons, sum_by_push}
use Rattle.memory_host.specs.declared.memory_host.Call.{Call}
use Rattle.memory_host.specs.Memory.{Event, is_write, writes_of}
use Rattle.memory_host.specs.MemoryView.{events_of}

-- 1 of a call that wrote, and of any other 0
abbrev pub one : Call → ℕ
one call = if is_write call.act then 1 else 0

abbrev pub writes_in : List Call → ℕ
writes_in calls = sum_by one calls

in_events : (calls : List Call) (kept : List ℕ) → writes_of (events_of calls kept) ≡ writes_in calls
in_events [] kept = refl
in_events (call ∷ calls) kept =
    let rest = take (length kept - call.len) kept in
    let event : Event = record { number = call.number; act = call.act; bytes = drop (length kept - call.len) kept } in
    sum_by-cons (λ (e : Event). if is_write e.act then 1 else 0) event (events_of calls rest)
    ∙ ap (λ (n : ℕ). one call + n) (in_events calls rest) ∙ sym (sum_by-cons one call calls)

in_reverse : (calls : List Call) → writes_in (reverse calls) ≡ writes_in calls
in_reverse [] = refl
in_reverse (call ∷ calls) =
    ap writes_in (reverse-append (call ∷ []) calls) ∙ sum_by_push one (reverse calls) call
    ∙ ap (λ (n : ℕ). n + one call) (in_reverse calls)
    ∙ (omega (arith, sum_by-cons one call calls))

pub writes_are : (log : List Call) (kept : List ℕ) → writes_of (events_of (reverse log) kept) ≡ writes_in log
writes_are log kept = in_events (reverse log) kept ∙ in_reverse log

-- one call more
pub one_more : (log : List Call) (i : ℕ) (d : Call) → i < length log → writes_in (take (i + 1) log) ≡ writes_in (take i log) + one (get_or log i d)
one_more log i d lt = ap writes_in (take_more log i d lt) ∙ sum_by_push one (take i log) (get_or log i d)

pub one_most : (call : Call) → one call ≤ 1
one_most call = grind arith

-- no more than there are calls
pub writes_few : (calls : List Call) → writes_in calls ≤ length calls
writes_few [] = omega arith
writes_few (call ∷ calls) = omega (arith, sum_by-cons one call calls, writes_few calls, one_most call)

-- What happens from a configuration of a run on is the rest of what happens in the run.
use Rattle.std.proofs.Common.{◌≡◌, ℕ, List, [], ◌∷◌, ◌++◌, sym, ap, ◌∙◌, subst, append_assoc}
use Rattle.std.proofs.lemmas.List.{append-nil}
use Rattle.ps_heap.specs.Ends.{End}
use Rattle.ps_heap.specs.Events.{Event, Finish}
use Rattle.std.specs.Prelude.{Bool, true}
use Rattle.ps_code.specs.ps_base.declared.instr.Instr.{Instr}
use Rattle.ps_stepping.specs.Config.{Config, code_in, IsAt}
use Rattle.ps_stepping.specs.Machine.{Step, Goes, Stops, Stuck, and_touched, Steps, Runs}
use Rattle.ps_stepping.specs.Machine as machine
use Rattle.ps_stepping.specs.Path.{Reaches, no_step, more, Finishes, stops, goes}
use Rattle.ps_stepping.proofs.Determined.{one_instruction, one_step}
use Rattle.ps_stepping.proofs.Following.{same_goes, follow, last_step, never_stuck, front_of_run}

-- the run goes on from each place that it comes to
pub on_the_way : (total : List Event) (c last : Config) (so_far events : List Event) → Runs total c so_far → Reaches c events last →
    Runs total last (so_far ++ events)
on_the_way total c last so_far events run no_step = subst (λ (es : List Event). Runs total c es) (sym (append-nil so_far)) run
on_the_way total c last so_far events run (more {next = next} {events = first} {behind = behind} s way) =
    subst (λ (es : List Event). Runs total last es) (append_assoc so_far first behind)
    (on_the_way total next last (so_far ++ first) behind (follow total c next so_far first run s) way)

-- A run by instructions that may run is a run, and each instruction on its way may run.
pub runs_by : (may : Instr → Bool) (total : List Event) (c : Config) (so_far : List Event) → machine.RunsBy may total c so_far → Runs total c so_far
runs_by may total c so_far (machine.goes_by {next = next} {events = events} at ok e run) =
    machine.goes (subst (λ (s : Step). Steps c s) e (machine.at_instruction at)) (runs_by may total next (so_far ++ events) run)
runs_by may total c so_far (machine.stops_by {e = end} at ok e is) = machine.stops (subst (λ (s : Step). Steps c s) e (machine.at_instruction at)) is

pub follow_by : (may : Instr → Bool) (total : List Event) (c next : Config) (so_far events : List Event) → machine.RunsBy may total c so_far →
    Steps c (Goes events next) → machine.RunsBy may total next (so_far ++ events)
follow_by may total c next so_far events (machine.goes_by {next = next'} {events = events'} at ok e run) t =
    same_goes events' events next' next (λ es n. machine.RunsBy may total n (so_far ++ es))
    (one_step c _ _ (subst (λ (s : Step). Steps c s) e (machine.at_instruction at)) t) run
follow_by may total c next so_far events (machine.stops_by {e = end} {touched = k} at ok e is) t =
    absurd (let both : Stops end k ≡ Goes events next = one_step c _ _ (subst (λ (s : Step). Steps c s) e (machine.at_instruction at)) t in cc)

pub by_the_way : (may : Instr → Bool) (total : List Event) (c last : Config) (so_far events : List Event) → machine.RunsBy may total c so_far →
    Reaches c events last → machine.RunsBy may total last (so_far ++ events)
by_the_way may total c last so_far events run no_step = subst (λ (es : List Event). machine.RunsBy may total c es) (sym (append-nil so_far)) run
by_the_way may total c last so_far events run (more {next = next} {events = first} {behind = behind} s way) =
    subst (λ (es : List Event). machine.RunsBy may total last es) (append_assoc so_far first behind)
    (by_the_way may total next last (so_far ++ first) behind (follow_by may total c next so_far first run s) way)

here_may : (may : Instr → Bool) (total : List Event) (c : Config) (so_far : List Event) (i : Instr) → machine.RunsBy may total c so_far →
    IsAt (code_in c.unit) c.at i → may i ≡ true
here_may may total c so_far i (machine.goes_by at ok e run) here = ap may (one_instruction (code_in c.unit) c.at i _ here at) ∙ ok
here_may may total c so_far i (machine.stops_by at ok e is) here = ap may (one_instruction (code_in c.unit) c.at i _ here at) ∙ ok

pub each_may : (may : Instr → Bool) (total : List Event) (c last : Config) (before : List Event) (i : Instr) → machine.RunsBy may total c [] →
    Reaches c before last → IsAt (code_in last.unit) last.at i → may i ≡ true
each_may may total c last before i run way here = here_may may total last before i (by_the_way may total c last [] before run way) here

-- and ends
comes_to_an_end : (total : List Event) (c : Config) (so_far : List Event) → Runs total c so_far →
    (behind : List Event) × Finishes c behind × (total ≡ so_far ++ behind)
comes_to_an_end total c so_far (machine.goes {next = next} {events = events} s run) =
    let end = comes_to_an_end total next (so_far ++ events) run in
    (events ++ end.0, goes s end.1, end.2 ∙ append_assoc so_far events end.0)
comes_to_an_end total c so_far (machine.stops {e = e} {touched = k} s is) = (Finish e (and_touched k c.store.held.counted) ∷ [], stops s, is)

-- a machine takes one way to its end
one_way : (c : Config) (events others : List Event) → Finishes c events → Finishes c others → events ≡ others
one_way c events others (stops {e = e} {touched = k} s) (stops {e = e'} {touched = k'} t) =
    let both : Stops e k ≡ Stops e' k' = one_step c _ _ s t in
    let same : e ≡ e' = cc in
    let as_many : k ≡ k' = cc in
    ap (λ (x : End). Finish x (and_touched k c.store.held.counted) ∷ []) same ∙ ap (λ (n : ℕ). Finish e' (and_touched n c.store.held.counted) ∷ []) as_many
one_way c events others (stops {e = e} {touched = k} s) (goes {next = next} {events = first} t way) =
    absurd (let both : Stops e k ≡ Goes first next = one_step c _ _ s t in cc)
one_way c events others (goes {next = next} {events = first} s way) (stops {e = e} {touched = k} t) =
    absurd (let both : Goes first next ≡ Stops e k = one_step c _ _ s t in cc)
one_way c events others (goes {next = next} {events = first} {behind = behind} s way)
    (goes {next = next'} {events = first'} {behind = behind'} t way') =
    let both : Goes first next ≡ Goes first' next' = one_step c _ _ s t in
    let front : first ≡ first' = cc in
    let place : next' ≡ next = cc in
    let back : behind ≡ behind' = one_way next behind behind' way (subst (λ (n : Config). Finishes n behind') place way') in
    ap (λ (es : List Event). es ++ behind) front ∙ ap (λ (es : List Event). first' ++ es) back

pub rest_is : (total : List Event) (c last : Config) (before behind : List Event) → Runs total c [] → Reaches c before last → Finishes last behind →
    total ≡ before ++ behind
rest_is total c last before behind run way end =
    let found = comes_to_an_end total last before (on_the_way total c last [] before run way) in
    found.2 ∙ ap (λ (es : List Event). before ++ es) (one_way last found.0 behind found.1 end)

pub way_ends : (total : List Event) (c last : Config) (before : List Event) → Runs total c [] → Reaches c before last →
    (behind : List Event) × Finishes last behind
way_ends total c last before run way =
    let found = comes_to_an_end total last before (on_the_way total c last [] before run way) in
    (found.0, found.1)

pub stops_at_the_end : (total : List Event) (c last : Config) (before : List Event) (e : End) (touched : ℕ) → Runs total c [] → Reaches c before last →
    Steps last (Stops e touched) → total ≡ before ++ Finish e (and_touched touched last.store.held.counted) ∷ []
stops_at_the_end total c last before e touched run way s = last_step total last before e touched (on_the_way total c last [] before run way) s

pub is_never_stuck : (total : List Event) (c last : Config) (before : List Event) → Runs total c [] → Reaches c before last → Steps last Stuck → ⊥
is_never_stuck total c last before run way s = never_stuck total last before (on_the_way total c last [] before run way) s

pub front_on_the_way : (total : List Event) (c last : Config) (before : List Event) → Runs total c [] → Reaches c before last →
    (behind : List Event) × (total ≡ before ++ behind)
front_on_the_way total c last before run way = front_of_run total last before (on_the_way total c last [] before run way)

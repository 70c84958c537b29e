-- A run goes on from each configuration that it comes to, and stops where the machine does.
use Rattle.std.proofs.Common.{◌≡◌, ℕ, List, [], ◌∷◌, ◌++◌, ap, ◌∙◌, subst, append_assoc}
use Rattle.ps_heap.specs.Ends.{End}
use Rattle.ps_heap.specs.Events.{Event, Finish}
use Rattle.ps_stepping.specs.Config.{Config}
use Rattle.ps_stepping.specs.Machine.{Goes, Stops, Stuck, and_touched, Steps, Runs, goes, stops}
use Rattle.ps_stepping.proofs.Determined.{one_step}

pub same_goes : (events events' : List Event) (next next' : Config) (P : List Event → Config → Type 0) → Goes events next ≡ Goes events' next' →
    P events next → P events' next'
same_goes events events' next next' P e p =
    let one : events ≡ events' = cc in
    let two : next ≡ next' = cc in
    subst (λ (es : List Event). P es next') one (subst (λ (n : Config). P events n) two p)

pub follow : (total : List Event) (c next : Config) (so_far events : List Event) → Runs total c so_far → Steps c (Goes events next) →
    Runs total next (so_far ++ events)
follow total c next so_far events (goes {next = next'} {events = events'} s r) t =
    same_goes events' events next' next (λ es n. Runs total n (so_far ++ es)) (one_step c _ _ s t) r
follow total c next so_far events (stops {e = e} {touched = k} s is) t = absurd (let both : Stops e k ≡ Goes events next = one_step c _ _ s t in cc)

pub last_step : (total : List Event) (c : Config) (so_far : List Event) (e : End) (touched : ℕ) → Runs total c so_far → Steps c (Stops e touched) →
    total ≡ so_far ++ Finish e (and_touched touched c.store.held.counted) ∷ []
last_step total c so_far e k (goes {next = next} {events = events} s r) t = absurd (let both : Goes events next ≡ Stops e k = one_step c _ _ s t in cc)
last_step total c so_far e k (stops {e = e'} {touched = k'} s is) t =
    let both : Stops e' k' ≡ Stops e k = one_step c _ _ s t in
    let same : e' ≡ e = cc in
    let as_many : k' ≡ k = cc in
    is ∙ ap (λ (x : End). so_far ++ Finish x (and_touched k' c.store.held.counted) ∷ []) same
    ∙ ap (λ (n : ℕ). so_far ++ Finish e (and_touched n c.store.held.counted) ∷ []) as_many

pub never_stuck : (total : List Event) (c : Config) (so_far : List Event) → Runs total c so_far → Steps c Stuck → ⊥
never_stuck total c so_far (goes {next = next} {events = events} s r) t = let both : Goes events next ≡ Stuck = one_step c _ _ s t in cc
never_stuck total c so_far (stops {e = e} {touched = k} s is) t = let both : Stops e k ≡ Stuck = one_step c _ _ s t in cc

-- what has happened is the prefix of all that happens
pub front_of_run : (total : List Event) (c : Config) (so_far : List Event) → Runs total c so_far → (rest : List Event) × (total ≡ so_far ++ rest)
front_of_run total c so_far (goes {next = next} {events = events} s r) =
    let more = front_of_run total next (so_far ++ events) r in (events ++ more.0, more.1 ∙ append_assoc so_far events more.0)
front_of_run total c so_far (stops {e = e} {touched = k} s is) = (Finish e (and_touched k c.store.held.counted) ∷ [], is)

-- The end among events: the last of them is that of the run.
use Rattle.std.proofs.Common.{◌≡◌, ℕ, List, [], ◌∷◌, ◌++◌, Option, Some, None, refl, sym, ◌∙◌, ap}
use Rattle.ps_causes.specs.ps_meaning.ps_heap.Ends.{End, Done}
use Rattle.ps_causes.specs.ps_meaning.ps_heap.Events.{Event, Out, Turn, Ask, Commit, Finish}
use Rattle.ps_causes.specs.ps_meaning.Meaning.{Outcome, Value_is, Ends}
use Rattle.ps_causes.specs.ps_meaning.Runs.{Given, events_with, run_events, run_end, outcome_of, all_events, end_reached}
use Rattle.ps_program.specs.Node.{BodyNode}

-- the end that an event is
abbrev end_in : Event → Option End
end_in (Finish e count) = Some e
end_in event = None

-- that of the last of these events, or this where there is none
abbrev ending : Option End → List Event → Option End
ending here [] = here
ending here (event ∷ events) = ending (end_in event) events

ending-append : (here : Option End) (events : List Event) (e : End) (count : ℕ) → ending here (events ++ Finish e count ∷ []) ≡ Some e
ending-append here [] e count = refl
ending-append here (event ∷ events) e count = ending-append (end_in event) events e count

ends_in_its_end : (o : Outcome) → ending None (all_events o) ≡ Some (end_reached o)
unfolding all_events end_reached
ends_in_its_end (Value_is v f s) = ending-append None s.events Done s.store.held.counted
ends_in_its_end (Ends e s) = ending-append None s.events e s.store.held.counted

run_ends : (given : Given) (program : BodyNode) → ending None (run_events given program) ≡ Some (run_end given program)
unfolding events_with run_end
run_ends given program = ends_in_its_end (outcome_of given program)

-- a run's last event is its end
pub end_is : (given : Given) (program : BodyNode) (before : List Event) (e : End) (count : ℕ) → run_events given program ≡ before ++ Finish e count ∷ [] → e ≡ run_end given program
end_is given program before e count is =
    let both : Some e ≡ Some (run_end given program) = sym (ending-append None before e count) ∙ sym (ap (ending None) is) ∙ run_ends given program in cc

-- a first event
pub record First (events : List Event) : Type 0 where
  pub next : Event
  pub rest : List Event
  pub are : events ≡ next ∷ rest

first-of : (events more : List Event) → First more → First (events ++ more)
first-of [] more some = some
first-of (event ∷ events) more some = record { next = event; rest = events ++ more; are = refl }

first_all : (o : Outcome) → First (all_events o)
unfolding all_events
first_all (Value_is v f s) = first-of s.events _ (record { next = _; rest = []; are = refl })
first_all (Ends e s) = first-of s.events _ (record { next = _; rest = []; are = refl })

-- each run has one
pub some_event : (given : Given) (program : BodyNode) → First (run_events given program)
unfolding events_with
some_event given program = first_all (outcome_of given program)

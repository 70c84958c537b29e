-- What the commits of a run save: heaps whose procedures have units, where those of the heap that it begins over do, and the literals of its program.
use Rattle.std.proofs.Common.{ℕ, List, [], ◌∷◌}
use Rattle.ps_gen.specs.ps_program.Node.{BodyNode, body}
use Rattle.ps_gen.specs.Units.{HasUnit}
use Rattle.ps_heap.specs.Values.{Routine}
use Rattle.ps_heap.specs.Weights.{code_weight}
use Rattle.ps_heap.specs.Ends.{Done}
use Rattle.ps_heap.specs.Events.{Event, Out, Turn, Ask, Commit, Finish}
use Rattle.ps_meaning.specs.Meaning.{Outcome, Value_is, Ends, counted_in}
use Rattle.ps_meaning.specs.Evaluation.{eval}
use Rattle.ps_meaning.specs.Calls.{context}
use Rattle.ps_meaning.specs.Runs.{Given, fresh_frame, fresh_state, outcome_with, all_events, events_with}
use Rattle.fit_soundness.specs.Laws.{AreFitHeaps}
use Rattle.ps_code_laws.specs.Literals.{BodyIs, HaveUnits}
use Rattle.unit_meaning.specs.Keeping.{KeepFitHeaps}
use Rattle.unit_meaning.proofs.Calls.{SaveUnits, saves_append}
use Rattle.unit_meaning.proofs.Clauses.{AnyType, Left, holds_eval, calls_hold}

events_save : (o : Outcome) → Left o → SaveUnits (all_events o)
unfolding all_events
events_save (Value_is v f s) h = saves_append s.events (Finish Done (counted_in s.store) ∷ []) h.2.saves tt
events_save (Ends e s) h = saves_append s.events (Finish e (counted_in s.store) ∷ []) h tt

pub run_saves : (weigh : Routine → ℕ) (given : Given) (program : BodyNode) → BodyIs HasUnit AnyType program → HaveUnits given.heap.objects →
    SaveUnits (events_with weigh given program)
unfolding events_with outcome_with fresh_state fresh_frame
run_saves weigh given (body params gives tree scope line) has units =
    let s = fresh_state weigh given (code_weight (body params gives tree scope line)) in
    events_save (eval (context given.turns 0) tree fresh_frame s)
    (holds_eval (context given.turns 0) (calls_hold given.turns 0) tree has.1 fresh_frame s (λ slot. tt, λ slot. tt) (record { heap = units; saves = tt }))

-- so they keep what is fit and has units, where they save fit heaps
pub keep_both : (events : List Event) → AreFitHeaps events → SaveUnits events → KeepFitHeaps events
keep_both [] f u = tt
keep_both (Out bytes counted ∷ events) f u = keep_both events f u
keep_both (Turn counted ∷ events) f u = keep_both events f u
keep_both (Ask asked counted ∷ events) f u = keep_both events f u
keep_both (Finish e counted ∷ events) f u = keep_both events f u
keep_both (Commit heap counted ∷ events) f u = (f.0, u.0, keep_both events f.1 u.1)

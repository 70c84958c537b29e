-- Runs of fit programs over fit heaps: their ends, and what they save.
use Rattle.std.proofs.Common.{ℕ, List, [], ◌∷◌, Some, None, refl, subst}
use Rattle.ps_heap.specs.ps_base.TyView.{TyView}
use Rattle.ps_heap.specs.ps_base.declared.line.Line.{Line}
use Rattle.ps_soundness.specs.ps_program.Node.{Node, BodyNode, body}
use Rattle.ps_heap.specs.Values.{Routine}
use Rattle.ps_heap.specs.Weights.{code_weight}
use Rattle.ps_heap.specs.Ends.{Done}
use Rattle.ps_heap.specs.Events.{Event, Out, Turn, Ask, Commit, Finish}
use Rattle.ps_heap.specs.Held.{Reply, StoredHeap, started}
use Rattle.ps_soundness.specs.ps_meaning.Meaning.{State, Outcome, Value_is, Ends}
use Rattle.ps_soundness.specs.ps_meaning.Runs.{Given, fresh_frame, fresh_state, outcome_with, all_events, events_with}
use Rattle.ps_soundness.specs.Over.{IsTypedHeld, AreTypedCommits}
use Rattle.ps_soundness.proofs.Telling.{Told}
use Rattle.ps_soundness.proofs.Combining.{commits_more}
use Rattle.database_meaning.specs.SameRuns.{AreSameEvents}
use Rattle.database_meaning.proofs.SameLaws.{same-back}
use Rattle.database_meaning.proofs.SameClauses.{given_same}
use Rattle.ps_soundness.specs.ps_typing.WellTyped.{IsBody, IsWellTyped}
use Rattle.ps_soundness.specs.ps_typing.WellTyped as typed
use Rattle.heap_fit.specs.Bodies.{InScope, IsFit, IsFitBody, HasSlots}
use Rattle.heap_fit.specs.Bodies as fit
use Rattle.heap_fit.specs.Heaps.{IsFitHeap}
use Rattle.heap_fit.specs.Kept.{AreFitCommits}
use Rattle.heap_fit.proofs.GoodRuns.{run_good}
use Rattle.fit_soundness.specs.Levels.{HasRoom, fitting, ComesToFit}
use Rattle.fit_soundness.specs.Cleaned.{cleaned}
use Rattle.fit_soundness.specs.Laws.{program, nothing_in_scope, without_unreached, AreFitHeaps}
use Rattle.fit_soundness.proofs.Levels.{fits}
use Rattle.fit_soundness.proofs.Clauses.{of_clause}
use Rattle.fit_soundness.proofs.Bodies.{tree_room, comes_to_fit}
use Rattle.fit_soundness.proofs.Cleaning.{all_there, same_cleaned, cleaned_there, cleaned_databases}
use Rattle.fit_soundness.proofs.Starting.{cleaned_typed, cleaned_roots}
use Rattle.fit_soundness.proofs.Ending.{saved_fit}
use Rattle.fit_soundness.proofs.FitSame.{fit-same}

pub start_fit : (told : Told) (weigh : Routine → ℕ) (replies : List Reply) (counted : ℕ) (stored : StoredHeap) → IsFitHeap stored →
    IsTypedHeld fitting (started weigh replies counted (cleaned stored))
start_fit told weigh replies counted stored f = (cleaned_typed told stored f, cleaned_roots told stored f)

-- the clause of a program, and its slots
record IsProgram (gives : TyView) (tree : Node) : Type 0 where
  is_fit : IsFit nothing_in_scope tree gives
  room : HasRoom [] (of_clause tree)

of_program : (gives : TyView) (tree : Node) (line : Line) → IsFitBody [] (program gives tree line) → IsProgram gives tree
of_program gives tree line (fit.of_params fit.unscoped fit.Takes.no_more t valued slots) = record { is_fit = t; room = tree_room {inside = []} fit.Takes.no_more slots }

pub program_comes : (told : Told) (weigh : Routine → ℕ) (given : Given) (gives : TyView) (tree : Node) (line : Line) → IsFitHeap given.heap → IsFitBody [] (program gives tree line) →
    ComesToFit (fresh_state weigh (without_unreached given) (code_weight (program gives tree line))) nothing_in_scope gives
    (outcome_with weigh (without_unreached given) (program gives tree line))
unfolding outcome_with fresh_state fresh_frame
program_comes told weigh given gives tree line heap_fits is_body =
    let p = of_program gives tree line is_body in
    comes_to_fit told given.turns 0 nothing_in_scope tree gives fresh_frame (fresh_state weigh (without_unreached given) (code_weight (program gives tree line))) p.is_fit p.room
    (start_fit told weigh given.replies (code_weight (program gives tree line)) given.heap heap_fits) tt refl

-- Its commits.

typed_events : (before : State) (env : InScope) (ty : TyView) (o : Outcome) → AreTypedCommits fitting before.events → ComesToFit before env ty o → AreTypedCommits fitting (all_events o)
unfolding all_events
typed_events before env ty (Value_is v frame state) none h = commits_more fits state.events (Finish Done state.store.held.counted ∷ []) (h.commits none) tt
typed_events before env ty (Ends e state) none h = commits_more fits state.events (Finish e state.store.held.counted ∷ []) (h.2 none) tt

both_fit : (told : Told) (events : List Event) → AreTypedCommits fitting events → AreFitCommits events → AreFitHeaps events
both_fit told [] t f = tt
both_fit told (Out bytes counted ∷ events) t f = both_fit told events t f
both_fit told (Turn counted ∷ events) t f = both_fit told events t f
both_fit told (Ask asked counted ∷ events) t f = both_fit told events t f
both_fit told (Finish e counted ∷ events) t f = both_fit told events t f
both_fit told (Commit heap counted ∷ events) t f = (saved_fit told heap f.0 t.0.0, both_fit told events t.1 f.1)

cleaned_commits : (told : Told) (weigh : Routine → ℕ) (given : Given) (gives : TyView) (tree : Node) (line : Line) → IsFitHeap given.heap → IsFitBody [] (program gives tree line) →
    AreFitHeaps (events_with weigh (without_unreached given) (program gives tree line))
unfolding events_with fresh_state
cleaned_commits told weigh given gives tree line heap_fits is_body =
    both_fit told (events_with weigh (without_unreached given) (program gives tree line))
    (typed_events (fresh_state weigh (without_unreached given) (code_weight (program gives tree line))) nothing_in_scope gives
    (outcome_with weigh (without_unreached given) (program gives tree line)) tt (program_comes told weigh given gives tree line heap_fits is_body))
    (run_good weigh (without_unreached given) (program gives tree line) (cleaned_databases given.heap heap_fits) (cleaned_there given.heap heap_fits))

-- Where events are the same but for ids, what they save is fit alike.
same_events : (events others : List Event) → AreSameEvents events others → AreFitHeaps others → AreFitHeaps events
same_events [] others s f = tt
same_events (event ∷ events) [] s f = absurd s
same_events (Commit heap counted ∷ events) (Commit other bytes ∷ others) s f = (fit-same other heap (same-back heap other s.0.0) f.0, same_events events others s.1 f.1)
same_events (Commit heap counted ∷ events) (Out bytes other ∷ others) s f = absurd (let e = s.0 in cc)
same_events (Commit heap counted ∷ events) (Turn other ∷ others) s f = absurd (let e = s.0 in cc)
same_events (Commit heap counted ∷ events) (Ask asked other ∷ others) s f = absurd (let e = s.0 in cc)
same_events (Commit heap counted ∷ events) (Finish end other ∷ others) s f = absurd (let e = s.0 in cc)
same_events (Out bytes counted ∷ events) (other ∷ others) s f = same_events events others s.1 (subst (λ (o : Event). AreFitHeaps (o ∷ others)) s.0 f)
same_events (Turn counted ∷ events) (other ∷ others) s f = same_events events others s.1 (subst (λ (o : Event). AreFitHeaps (o ∷ others)) s.0 f)
same_events (Ask asked counted ∷ events) (other ∷ others) s f = same_events events others s.1 (subst (λ (o : Event). AreFitHeaps (o ∷ others)) s.0 f)
same_events (Finish end counted ∷ events) (other ∷ others) s f = same_events events others s.1 (subst (λ (o : Event). AreFitHeaps (o ∷ others)) s.0 f)

-- the same but for ids, whether or not what no root reaches is there
pub goes_same : (weigh : Routine → ℕ) (given : Given) (of : BodyNode) → IsFitHeap given.heap → AreSameEvents (events_with weigh given of) (events_with weigh (without_unreached given) of)
goes_same weigh given of heap_fits = given_same weigh given (without_unreached given) of (same_cleaned given.heap heap_fits) (all_there given.heap heap_fits) refl refl refl

pub commits_fit : (told : Told) (weigh : Routine → ℕ) (given : Given) (gives : TyView) (tree : Node) (line : Line) → IsFitHeap given.heap →
    IsFitBody [] (program gives tree line) → AreFitHeaps (events_with weigh given (program gives tree line))
commits_fit told weigh given gives tree line heap_fits is_body =
    same_events (events_with weigh given (program gives tree line)) (events_with weigh (without_unreached given) (program gives tree line))
    (goes_same weigh given (program gives tree line) heap_fits) (cleaned_commits told weigh given gives tree line heap_fits is_body)

-- A program that was checked is handed nothing and has no scope of its own.
no_scope : (gives : TyView) (tree : Node) (bytes : List ℕ) (line : Line) → IsBody [] (body [] gives tree (Some bytes) line) → ⊥
no_scope gives tree bytes line (typed.of_params typed.scoped typed.Takes.no_more ended t) = cc

pub checked_fit : (told : Told) (weigh : Routine → ℕ) (given : Given) (of : BodyNode) → IsFitHeap given.heap → IsWellTyped of → IsFitBody [] of → AreFitHeaps (events_with weigh given of)
checked_fit told weigh given (body [] gives tree None line) heap_fits wt is_body = commits_fit told weigh given gives tree line heap_fits is_body
checked_fit told weigh given (body [] gives tree (Some bytes) line) heap_fits wt is_body = absurd (no_scope gives tree bytes line wt.2)
checked_fit told weigh given (body (param ∷ params) gives tree scope line) heap_fits wt is_body = absurd (let e = wt.0 in cc)

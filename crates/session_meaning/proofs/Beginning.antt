-- A run of a program over what stands for a heap shows the program's events over it.
use Rattle.std.proofs.Common.{◌≡◌, ℕ, List, [], ◌∷◌, refl, sym, subst}
use Rattle.std.specs.Prelude.{Result}
use Rattle.ps_outside.specs.Outside.{Outside}
use Rattle.obj_layout.specs.Stored.{Space, without_file}
use Rattle.machine_core.specs.swizzle.declared.fault.SwizzleFault.{SwizzleFault}
use Rattle.ps_gen.specs.ps_program.Node.{BodyNode}
use Rattle.ps_gen.specs.Units.{unit_of}
use Rattle.ps_heap.specs.Events.{Event, Out, Turn, Ask, Commit, Finish}
use Rattle.ps_heap.specs.Held.{StoredHeap}
use Rattle.ps_heap.specs.Weights.{code_weight, routine_weight}
use Rattle.ps_meaning.specs.Runs.{fresh_store, events_with, run_events}
use Rattle.database_meaning.specs.Same.{IsSame}
use Rattle.database_meaning.specs.SameRuns.{IsSameEvent, AreSameEvents}
use Rattle.database_meaning.proofs.SameLaws.{same-back}
use Rattle.database_meaning.proofs.SameClauses.{given_same}
use Rattle.count_laws.specs.Heavier.{IsLess, AreLess}
use Rattle.count_laws.proofs.Clauses.{run_like}
use Rattle.ps_unit_weights.specs.Weights.{weight_as_unit}
use Rattle.ps_unit_weights.proofs.UnitWords.{lighter}
use Rattle.ps_unit_weights.proofs.Constants.{unit_has}
use Rattle.fit_soundness.proofs.Cleaning.{all_there}
use Rattle.ps_code_laws.specs.Compiled.{compiled_store}
use Rattle.database_steps.specs.Databases.{IsAlone}
use Rattle.machine_core.specs.ps_stepping.Config.{Config}
use Rattle.machine_core.specs.declared.machine.Machine.{Machine}
use Rattle.machine_core.specs.declared.run_end.RunEnd.{RunEnd}
use Rattle.machine_core.specs.Holding.{Holds}
use Rattle.machine_core.specs.joint_held.Held.{IsOneStore}
use Rattle.machine_run.specs.Loaded.{IsLoaded}
use Rattle.joint_begun.specs.Beginning.{HasCompact, IsCompact}
use Rattle.joint_begun.proofs.CompactLaws.{has-compact}
use Rattle.joint_begun.proofs.BeginLaws.{begins-over}
use Rattle.space_meaning.specs.Stands.{SpaceStands}
use Rattle.space_meaning.proofs.SameHeaps.{stands-same}
use Rattle.session_run.specs.Ran.{Ran}
use Rattle.session_meaning.specs.Meant.{Stands, IsSeenAs, AreSeenAs}
use Rattle.unit_meaning.specs.Programs.{given_over, unit_events, begin_over, RunsAsMeant}
use Rattle.session_meaning.specs.Shows.{BrokeFor, Shows}
use Rattle.session_meaning.proofs.Showing.{shows}

-- Events over a heap are seen as those over one that is the same but for ids, with more counted.
one-seen : (x y z : Event) → IsSameEvent y x → IsLess y z → IsSeenAs x z
one-seen x (Out bytes n) (Out bytes' n') same less = subst (λ (event : Event). IsSeenAs event (Out bytes' n')) (sym same) less.0
one-seen x (Out bytes n) (Turn n') same less = absurd less
one-seen x (Out bytes n) (Ask a' n') same less = absurd less
one-seen x (Out bytes n) (Commit h' n') same less = absurd less
one-seen x (Out bytes n) (Finish e' n') same less = absurd less
one-seen x (Turn n) (Out bytes' n') same less = absurd less
one-seen x (Turn n) (Turn n') same less = subst (λ (event : Event). IsSeenAs event (Turn n')) (sym same) tt
one-seen x (Turn n) (Ask a' n') same less = absurd less
one-seen x (Turn n) (Commit h' n') same less = absurd less
one-seen x (Turn n) (Finish e' n') same less = absurd less
one-seen x (Ask a n) (Out bytes' n') same less = absurd less
one-seen x (Ask a n) (Turn n') same less = absurd less
one-seen x (Ask a n) (Ask a' n') same less = subst (λ (event : Event). IsSeenAs event (Ask a' n')) (sym same) less.0
one-seen x (Ask a n) (Commit h' n') same less = absurd less
one-seen x (Ask a n) (Finish e' n') same less = absurd less
one-seen x (Commit h n) (Out bytes' n') same less = absurd less
one-seen x (Commit h n) (Turn n') same less = absurd less
one-seen x (Commit h n) (Ask a' n') same less = absurd less
one-seen (Out bytes'' n'') (Commit h n) (Commit h' n') same less = absurd cc
one-seen (Turn n'') (Commit h n) (Commit h' n') same less = absurd cc
one-seen (Ask a'' n'') (Commit h n) (Commit h' n') same less = absurd cc
one-seen (Commit h'' n'') (Commit h n) (Commit h' n') same less = subst (λ (kept : StoredHeap). IsSame h'' kept) (sym less.0) (same-back h h'' same.0)
one-seen (Finish e'' n'') (Commit h n) (Commit h' n') same less = absurd cc
one-seen x (Commit h n) (Finish e' n') same less = absurd less
one-seen x (Finish e n) (Out bytes' n') same less = absurd less
one-seen x (Finish e n) (Turn n') same less = absurd less
one-seen x (Finish e n) (Ask a' n') same less = absurd less
one-seen x (Finish e n) (Commit h' n') same less = absurd less
one-seen x (Finish e n) (Finish e' n') same less = subst (λ (event : Event). IsSeenAs event (Finish e' n')) (sym same) less.0

seen-as : (xs ys zs : List Event) → AreSameEvents ys xs → AreLess ys zs → AreSeenAs xs zs
seen-as [] [] [] same less = tt
seen-as xs [] (z ∷ zs) same less = absurd less
seen-as xs (y ∷ ys) [] same less = absurd less
seen-as [] (y ∷ ys) (z ∷ zs) same less = absurd same
seen-as (x ∷ xs) [] [] same less = absurd same
seen-as (x ∷ xs) (y ∷ ys) (z ∷ zs) same less = (one-seen x y z same.0 less.0, seen-as xs ys zs same.1 less.1)

module _ {V : Type 0} (outside : V → Outside Space) (old new : Outside Space) (one : IsOneStore old) (turns : ℕ) (input : List ℕ) (program : BodyNode) (owed left : List ℕ)
    (space : Space) (heap : StoredHeap) (at : old.contents space) (stands : SpaceStands (without_file space) heap)
    (images : (image : Space) → old.images old.clock image → Stands image heap) (means : RunsAsMeant turns input program) where
  -- the same heap, all of whose ids are reached
  pub compact : HasCompact heap
  compact = has-compact heap stands.fit

  stands-there : SpaceStands (without_file space) compact.compact
  stands-there = stands-same (without_file space) heap compact.compact compact.same stands

  seen : AreSeenAs (unit_events turns input program compact.compact) (run_events (given_over turns input heap) program)
  seen =
      seen-as (unit_events turns input program compact.compact) (unit_events turns input program heap) (run_events (given_over turns input heap) program)
      (given_same weight_as_unit (given_over turns input heap) (given_over turns input compact.compact) program compact.same (all_there heap stands.fit) refl refl refl)
      (run_like weight_as_unit routine_weight (given_over turns input heap) program lighter)

  -- a read gives one space alone
  same-read : (other : Space) → old.contents other → Stands other heap
  same-read other is = subst (λ (s : Space). Stands s heap) (one.one space other at is) stands

  module _ (empty m : Machine) (loaded : IsLoaded old (unit_of program) turns input empty m) where
    pub holds-start : Holds old m (begin_over turns input program compact.compact)
    holds-start =
        let begins = begins-over old one space at compact.compact stands-there compact.all empty.objects.size weight_as_unit [] (code_weight program) in
        loaded.starts (unit_has program) (compiled_store (fresh_store weight_as_unit (given_over turns input compact.compact) (code_weight program))) (record {
          names = begins.names;
          run = begins.holds;
          unasked = refl;
          turns_are = refl;
          input_is = refl;
        })

    is-alone : IsAlone (begin_over turns input program compact.compact).store.held
    is-alone = record { named = tt; replies = refl }

    pub shows-events : (result : Result RunEnd SwizzleFault) → ((c : Config) → Holds old m c → IsAlone c.store.held → Ran old new owed left outside m.objects.size c result)
        → (like : StoredHeap) × IsSame heap like
        × Shows Stands old new owed left heap (BrokeFor outside new m.objects.size (begin_over turns input program like)) (run_events (given_over turns input heap) program) result
    shows-events result ran =
        let c = begin_over turns input program compact.compact in (
          compact.compact,
          compact.same,
          shows outside old new owed left m.objects.size c heap (unit_events turns input program compact.compact) (run_events (given_over turns input heap) program)
              images same-read (means.runs (without_file space) compact.compact stands-there compact.all) (means.keeps (without_file space) compact.compact stands-there compact.all)
              seen result (ran c holds-start is-alone),
        )

-- The unit of a checked program whose bodies have units runs to what the program means, over each heap of reached objects for which a space stands, and its commits keep such heaps.
use Rattle.std.proofs.Common.{◌≡◌, ℕ, true, List, [], ◌∷◌, Some, None, refl, subst}
use Rattle.std.specs.List.{AllByRecursion}
use Rattle.ps_gen.specs.ps_base.TyView.{TyView}
use Rattle.ps_gen.specs.ps_base.declared.line.Line.{Line}
use Rattle.ps_gen.specs.ps_program.Node.{Node, BodyNode, body}
use Rattle.ps_gen.specs.Units.{HasUnit, unit_of}
use Rattle.ps_typing_laws.specs.ps_tree.Phrase.{Phrase}
use Rattle.ps_typing_laws.specs.ps_typing.Items.{LetsAreItems}
use Rattle.ps_typing_laws.specs.ps_typing.Program.{bodies, Typed, check_program}
use Rattle.ps_typing_laws.specs.ps_typing.WellTyped.{IsBody, IsWellTyped}
use Rattle.ps_typing_laws.specs.ps_typing.WellTyped as typed
use Rattle.ps_heap.specs.Values.{Routine, as_written, as_compiled}
use Rattle.ps_heap.specs.Weights.{code_weight}
use Rattle.ps_heap.specs.Held.{StoredHeap}
use Rattle.ps_meaning.specs.Runs.{Given, fresh_store, events_with}
use Rattle.ps_stepping.specs.Config.{start}
use Rattle.ps_stepping.specs.Machine.{Runs, RunsBy}
use Rattle.ps_stepping.proofs.Paths.{runs_by}
use Rattle.fit_soundness.specs.heap_fit.Bodies.{IsFitBody}
use Rattle.fit_soundness.specs.heap_fit.Heaps.{IsFitHeap}
use Rattle.fit_soundness.specs.heap_fit.Typed.{TypedProgramsAreFit}
use Rattle.fit_soundness.specs.heap_fit.database_meaning.SameRuns.{AreSameEvents}
use Rattle.fit_soundness.specs.Cleaned.{cleaned}
use Rattle.fit_soundness.specs.Laws.{program, without_unreached, CheckedCommitsSaveFitHeaps, IsChecked}
use Rattle.ps_code_laws.specs.Literals.{BodyIs, HaveUnits}
use Rattle.ps_code_laws.specs.Compiled.{compiled_routine, compiled_store, compiled_events, WeighsUnits}
use Rattle.ps_code_laws.proofs.Inside.{bodies_inside}
use Rattle.ps_unit_weights.specs.Weights.{weight_as_unit}
use Rattle.joint_begun.specs.Beginning.{IsCompact}
use Rattle.unit_meaning.specs.Programs.{given_over, unit_events, begin_over, RunsAsMeant}
use Rattle.unit_meaning.proofs.Clauses.{AnyType}
use Rattle.unit_meaning.proofs.Saving.{run_saves, keep_both}
use Rattle.unit_meaning.proofs.Compact.{compact_units, cleaned_is}

-- The laws that are called.

abbrev pub AreWellTyped : Type 0
AreWellTyped = (tree : Phrase) (of : BodyNode) → LetsAreItems tree → check_program tree ≡ Typed of → IsWellTyped of

abbrev pub RunOverKeptHeaps : Type 0
RunOverKeptHeaps = (gives : TyView) (tree : Node) (line : Line) (weigh : Routine → ℕ) (given : Given) → WeighsUnits weigh → IsFitHeap given.heap → HaveUnits given.heap.objects →
    IsFitBody [] (program gives tree line) → BodyIs HasUnit (λ ty. Unit {0}) (program gives tree line) →
    RunsBy (λ i. true) (compiled_events (events_with weigh (without_unreached given) (program gives tree line)))
    (start (unit_of (program gives tree line)) (compiled_store (fresh_store weigh (without_unreached given) (code_weight (program gives tree line))))) []
    × AreSameEvents (events_with weigh given (program gives tree line)) (events_with weigh (without_unreached given) (program gives tree line))

-- a body weighs what its unit does
weighs_units : WeighsUnits weight_as_unit
unfolding compiled_routine
weighs_units (as_written of) = refl
weighs_units (as_compiled of) = refl

-- a program that was checked is handed nothing and has no scope of its own
no_scope : (gives : TyView) (tree : Node) (bytes : List ℕ) (line : Line) → IsBody [] (body [] gives tree (Some bytes) line) → ⊥
no_scope gives tree bytes line (typed.of_params typed.scoped typed.Takes.no_more ended t) = cc

runs_over : (run : RunOverKeptHeaps) (turns : ℕ) (input : List ℕ) (of : BodyNode) (heap : StoredHeap) → IsWellTyped of → IsFitBody [] of → BodyIs HasUnit AnyType of → IsFitHeap heap →
    IsCompact heap → HaveUnits heap.objects → Runs (compiled_events (unit_events turns input of heap)) (begin_over turns input of heap) []
runs_over run turns input (body [] gives tree None line) heap is_typed is_fit has heap_fit compact units =
    let of = program gives tree line in
    let r = run gives tree line weight_as_unit (given_over turns input heap) weighs_units heap_fit units is_fit has in
    subst (λ (h : StoredHeap). Runs (compiled_events (unit_events turns input of h)) (begin_over turns input of h) []) (cleaned_is heap heap_fit compact)
    (runs_by (λ i. true) (compiled_events (unit_events turns input of (cleaned heap))) (begin_over turns input of (cleaned heap)) [] r.0)
runs_over run turns input (body [] gives tree (Some bytes) line) heap is_typed is_fit has heap_fit compact units = absurd (no_scope gives tree bytes line is_typed.2)
runs_over run turns input (body (param ∷ params) gives tree scope line) heap is_typed is_fit has heap_fit compact units = absurd (let e = is_typed.0 in cc)

pub meant : AreWellTyped → TypedProgramsAreFit → CheckedCommitsSaveFitHeaps → RunOverKeptHeaps → (turns : ℕ) (input : List ℕ) (of : BodyNode) → IsChecked of →
    AllByRecursion HasUnit (bodies of) → RunsAsMeant turns input of
meant are_typed are_fit commits run turns input of checked units =
    let has : BodyIs HasUnit AnyType of = bodies_inside HasUnit of units in
    record {
      runs = λ space heap stands compact.
          runs_over run turns input of heap (are_typed checked.tree of checked.lets checked.is) (are_fit checked.tree of checked.lets checked.leaves checked.is) has stands.fit compact
          (compact_units space heap stands compact);
      keeps = λ space heap stands compact.
          keep_both (unit_events turns input of heap)
          (commits weight_as_unit (given_over turns input heap) checked.tree of stands.fit checked.lets checked.leaves checked.is)
          (run_saves weight_as_unit (given_over turns input heap) of has (compact_units space heap stands compact));
    }

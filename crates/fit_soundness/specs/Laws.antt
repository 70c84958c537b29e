-- What is so of runs over fit things.
use Rattle.std.specs.Prelude.{◌≡◌, ℕ, true, List, [], ◌∷◌, map, Option, None}
use Rattle.std.specs.List.{AllByRecursion}
use Rattle.ps_heap.specs.ps_base.TyView.{TyView, TyViews}
use Rattle.ps_heap.specs.ps_base.TyView as types
use Rattle.ps_heap.specs.ps_base.declared.line.Line.{Line}
use Rattle.ps_soundness.specs.ps_program.Node.{Node, BodyNode, body}
use Rattle.ps_soundness.specs.ps_typing.WellTyped.{At}
use Rattle.ps_heap.specs.Values.{Value, Routine}
use Rattle.ps_heap.specs.Objects.{Heap}
use Rattle.ps_heap.specs.Weights.{code_weight}
use Rattle.ps_heap.specs.Events.{Event, Commit, heap_after, series_events}
use Rattle.ps_heap.specs.Held.{Reply, StoredHeap, started}
use Rattle.ps_soundness.specs.ps_meaning.Meaning.{Frame, State, Outcome, Value_is, Ends}
use Rattle.ps_soundness.specs.ps_meaning.Frames.{frame_of_call}
use Rattle.ps_soundness.specs.ps_meaning.Evaluation.{eval}
use Rattle.ps_soundness.specs.ps_meaning.Calls.{call_within, context}
use Rattle.ps_soundness.specs.ps_meaning.Runs.{Given, fresh_state, outcome_with, events_with}
use Rattle.ps_soundness.specs.Over.{IsOf, IsTypedHeld, AreLocals, AreTypedCommits, Grows}
use Rattle.database_meaning.specs.Same.{IsSame}
use Rattle.database_meaning.specs.SameRuns.{AreSameEvents}
use Rattle.ps_typing_laws.specs.ps_tree.Phrase.{Phrase}
use Rattle.ps_typing_laws.specs.ps_typing.Items.{LetsAreItems}
use Rattle.ps_typing_laws.specs.ps_typing.Program.{Typed, check_program}
use Rattle.heap_fit.specs.ps_fit_laws.ps_leaf_laws.Leaves.{LeavesFit}
use Rattle.heap_fit.specs.Slots.{mentions}
use Rattle.heap_fit.specs.Bodies.{Level, InScope, HasDeclared, IsFit, IsFitBody}
use Rattle.heap_fit.specs.Heaps.{IsFitHeap}
use Rattle.fit_soundness.specs.Levels.{AreLevelsAt, IsProcedure, fitting, clause_slots, HasRoom, ComesToFit}
use Rattle.fit_soundness.specs.Cleaned.{cleaned}

-- From a state that is fit for it, a fit clause with slots of its own comes to a value of its type and leaves the state fit, however many turns may be left
-- and calls are round it.
abbrev pub FitClausesComeToValues : Type 0
FitClausesComeToValues = (turns depth : ℕ) (env : InScope) (clause : Node) (ty : TyView) (frame : Frame) (state : State) → IsFit env clause ty →
    HasRoom env.locals (λ numbers. clause_slots numbers clause) → IsTypedHeld fitting state.store.held → AreLocals fitting state.store.held.objects frame env.locals →
    AreLevelsAt state.store.held.objects frame.scope env.levels → ComesToFit state env ty (eval (context turns depth) clause frame state)

-- values of these types
abbrev pub AreValues : Heap → TyViews → List Value → Type 0
AreValues heap types.none [] = Unit {0}
AreValues heap (types.more ty tys) (v ∷ vs) = IsOf fitting heap ty v × AreValues heap tys vs
AreValues heap tys vs = ⊥

-- What a procedure of a type answers in a fit state: a value of the type that it gives; or the run ends. What is held is fit then, and what was saved.
pub record IsFitAnswer (before : State) (gives : TyView) (v : Value) (state : State) : Type 0 where
  pub grows : Grows before.store.held.objects state.store.held.objects
  pub held : IsTypedHeld fitting state.store.held
  pub value : IsOf fitting state.store.held.objects gives v
  pub commits : AreTypedCommits fitting before.events → AreTypedCommits fitting state.events

abbrev pub AnswersFit : State → TyView → Outcome → Type 0
AnswersFit before gives (Value_is v frame state) = IsFitAnswer before gives v state
AnswersFit before gives (Ends e state) =
    Grows before.store.held.objects state.store.held.objects × IsTypedHeld fitting state.store.held
    × (AreTypedCommits fitting before.events → AreTypedCommits fitting state.events)

-- A procedure that is called in a fit state, with arguments of its parameters' types, answers a value of the type that it gives.
abbrev pub FitProceduresAnswer : Type 0
FitProceduresAnswer = (turns depth : ℕ) (of : BodyNode) (scope : Option ℕ) (args : List Value) (params : TyViews) (gives : TyView) (state : State) →
    IsTypedHeld fitting state.store.held → IsProcedure state.store.held.objects (types.Proc params gives) of scope → AreValues state.store.held.objects params args →
    AnswersFit state gives (call_within turns depth of args (frame_of_call of scope args) state)

-- What a fit body mentions is declared in the scopes round it.
abbrev pub MentionedIsDeclared : Type 0
MentionedIsDeclared = (levels : List Level) (of : BodyNode) → IsFitBody levels of → (out position : ℕ) → mentions out position of ≡ true →
    (ty : TyView) × At (HasDeclared position ty) levels out

-- Where what it mentions is declared a fit body is fit.
abbrev pub FitWhereDeclared : Type 0
FitWhereDeclared = (levels other : List Level) (of : BodyNode) → IsFitBody levels of →
    ((out position : ℕ) (ty : TyView) → At (HasDeclared position ty) levels out → mentions out position of ≡ true → At (HasDeclared position ty) other out) →
    IsFitBody other of

-- A fit heap is the same as one without what no root reaches, and a run over this one begins with what is fit for it.
abbrev pub FitHeapsStartFit : Type 0
FitHeapsStartFit = (weigh : Routine → ℕ) (replies : List Reply) (counted : ℕ) (stored : StoredHeap) → IsFitHeap stored →
    IsSame stored (cleaned stored) × IsTypedHeld fitting (started weigh replies counted (cleaned stored))

-- A program: a body that is handed nothing and has no scope.
abbrev pub program : TyView → Node → Line → BodyNode
program gives tree line = body [] gives tree None line

abbrev pub nothing_in_scope : InScope
nothing_in_scope = record { locals = []; levels = [] }

abbrev pub without_unreached : Given → Given
without_unreached given = record given { heap = cleaned given.heap }

-- A fit program over a fit heap, without what no root reaches, comes to a value of its type; and over the heap itself it has the same events but for ids.
abbrev pub FitProgramsComeToValues : Type 0
FitProgramsComeToValues = (weigh : Routine → ℕ) (given : Given) (gives : TyView) (tree : Node) (line : Line) → IsFitHeap given.heap → IsFitBody [] (program gives tree line) →
    ComesToFit (fresh_state weigh (without_unreached given) (code_weight (program gives tree line))) nothing_in_scope gives
    (outcome_with weigh (without_unreached given) (program gives tree line))
    × AreSameEvents (events_with weigh given (program gives tree line)) (events_with weigh (without_unreached given) (program gives tree line))

-- each commit among these events saves a fit heap
abbrev pub AreFitHeaps : List Event → Type 0
AreFitHeaps [] = Unit {0}
AreFitHeaps (Commit heap counted ∷ events) = IsFitHeap heap × AreFitHeaps events
AreFitHeaps (event ∷ events) = AreFitHeaps events

-- Each commit of a fit program over a fit heap saves a fit heap.
abbrev pub CommitsSaveFitHeaps : Type 0
CommitsSaveFitHeaps = (weigh : Routine → ℕ) (given : Given) (gives : TyView) (tree : Node) (line : Line) → IsFitHeap given.heap → IsFitBody [] (program gives tree line) →
    AreFitHeaps (events_with weigh given (program gives tree line))

-- So does each commit of the program of a tree whose leaves fit, which is checked.
abbrev pub CheckedCommitsSaveFitHeaps : Type 0
CheckedCommitsSaveFitHeaps = (weigh : Routine → ℕ) (given : Given) (tree : Phrase) (of : BodyNode) → IsFitHeap given.heap → LetsAreItems tree → LeavesFit tree →
    check_program tree ≡ Typed of → AreFitHeaps (events_with weigh given of)

-- a program that passes the check, of a tree whose leaves fit
pub record IsChecked (of : BodyNode) : Type 0 where
  pub tree : Phrase
  pub lets : LetsAreItems tree
  pub leaves : LeavesFit tree
  pub is : check_program tree ≡ Typed of

abbrev pub run_of : (Routine → ℕ) → ℕ → List ℕ → List Reply → BodyNode → StoredHeap → List Event
run_of weigh turns input replies of heap = events_with weigh (record { turns = turns; input = input; heap = heap; replies = replies }) of

-- Programs that pass the check, one after the other from a fit heap on, each over the heap of the last commit before it: each commit saves a fit heap, and so
-- is the heap that they leave.
abbrev pub SeriesLeaveFitHeaps : Type 0
SeriesLeaveFitHeaps = (weigh : Routine → ℕ) (turns : ℕ) (input : List ℕ) (replies : List Reply) (programs : List BodyNode) (heap : StoredHeap) → AllByRecursion IsChecked programs →
    IsFitHeap heap → AreFitHeaps (series_events (map (run_of weigh turns input replies) programs) heap)
    × IsFitHeap (heap_after heap (series_events (map (run_of weigh turns input replies) programs) heap))
